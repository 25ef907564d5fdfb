use Rattle.std.proofs.Common.{get_or, ap, rules}
use Rattle.core_trees.specs.View.{view_claim, view_variables}
use Rattle.program_trees.specs.View.{view_facts}
use Rattle.plain_trees.specs.Taking.{taking, claim_fits}
use Rattle.plain_trees.proofs.Passing.{item_turn, item_fault, items_done}
use Rattle.plain_trees.proofs.claims.are_claims.Goals as goal

pub returns-then-not-fits : goal.returns-then-not-fits
returns-then-not-fits c =
    let xs = c.args.claims.now in
    item_fault view_claim (claim_fits (view_facts c.args.facts.now) (taking c.args.takes.now) (view_variables c.args.own.now) c.args.has_result)
    xs c.loop-at.at (get_or xs c.loop-at.at c.index-claims-at.result) c.is_claim-fits.result _ (search rules)
    (ap (get_or xs c.loop-at.at) c.index-claims-at.is) c.is_claim-fits.ensures
    c.if-not-fits.true c.loop-at.invariant

pub loop-at-preserved : goal.loop-at-preserved
loop-at-preserved c =
    let xs = c.args.claims.now in
    item_turn view_claim (claim_fits (view_facts c.args.facts.now) (taking c.args.takes.now) (view_variables c.args.own.now) c.args.has_result)
    xs c.loop-at.at (get_or xs c.loop-at.at c.index-claims-at.result) c.is_claim-fits.result _ (search rules)
    (ap (get_or xs c.loop-at.at) c.index-claims-at.is) c.is_claim-fits.ensures
    c.if-not-fits.false c.loop-at.invariant

pub returns : goal.returns
returns c =
    items_done view_claim (claim_fits (view_facts c.args.facts.now) (taking c.args.takes.now) (view_variables c.args.own.now) c.args.has_result)
    c.args.claims.now c.loop-at.at _ (search rules) c.loop-at.invariant

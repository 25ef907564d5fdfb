use Rattle.std.proofs.Common.{rules, false}
use Rattle.acsl_trees.specs.Tree.{view_tree}
use Rattle.core_trees.specs.View.{view_variables}
use Rattle.program_trees.specs.View.{view_facts}
use Rattle.plain_annotations.specs.Claims.{is_claim}
use Rattle.plain_trees.specs.Taking.{taking}
use Rattle.plain_trees.proofs.Passing.{item_turn, item_fault, items_done}
use Rattle.plain_trees.proofs.claims.are_assumed.Goals as goal

pub returns-then-not-fits : goal.returns-then-not-fits
returns-then-not-fits c =
    item_fault view_tree (is_claim (view_facts c.args.facts.now) (taking c.args.takes.now) (view_variables c.args.own.now) false)
    c.args.trees.now c.loop-at.at c.index-trees-at.result c.is_claim-fits.result _ (search rules) c.index-trees-at.is c.is_claim-fits.ensures
    c.if-not-fits.true c.loop-at.invariant

pub loop-at-preserved : goal.loop-at-preserved
loop-at-preserved c =
    item_turn view_tree (is_claim (view_facts c.args.facts.now) (taking c.args.takes.now) (view_variables c.args.own.now) false)
    c.args.trees.now c.loop-at.at c.index-trees-at.result c.is_claim-fits.result _ (search rules) c.index-trees-at.is c.is_claim-fits.ensures
    c.if-not-fits.false c.loop-at.invariant

pub returns : goal.returns
returns c =
    items_done view_tree (is_claim (view_facts c.args.facts.now) (taking c.args.takes.now) (view_variables c.args.own.now) false)
    c.args.trees.now c.loop-at.at _ (search rules) c.loop-at.invariant

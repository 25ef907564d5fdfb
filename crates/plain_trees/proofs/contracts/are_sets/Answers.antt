use Rattle.std.proofs.Common.{get_or, ap, rules}
use Rattle.program_trees.specs.View.{view_behavior, view_facts}
use Rattle.plain_trees.specs.Taking.{assigns_file}
use Rattle.plain_trees.proofs.Passing.{item_turn, item_fault, items_done}
use Rattle.plain_trees.proofs.contracts.are_sets.Goals as goal

pub returns-then-not-fits : goal.returns-then-not-fits
returns-then-not-fits c =
    let xs = c.args.behaviors.now in
    item_fault view_behavior (assigns_file (view_facts c.args.facts.now))
    xs c.loop-at.at (get_or xs c.loop-at.at c.index-behaviors-at.result) c.is_set-fits.result _ (search rules)
    (ap (get_or xs c.loop-at.at) c.index-behaviors-at.is) c.is_set-fits.ensures
    c.if-not-fits.true c.loop-at.invariant

pub loop-at-preserved : goal.loop-at-preserved
loop-at-preserved c =
    let xs = c.args.behaviors.now in
    item_turn view_behavior (assigns_file (view_facts c.args.facts.now))
    xs c.loop-at.at (get_or xs c.loop-at.at c.index-behaviors-at.result) c.is_set-fits.result _ (search rules)
    (ap (get_or xs c.loop-at.at) c.index-behaviors-at.is) c.is_set-fits.ensures
    c.if-not-fits.false c.loop-at.invariant

pub returns : goal.returns
returns c =
    items_done view_behavior (assigns_file (view_facts c.args.facts.now))
    c.args.behaviors.now c.loop-at.at _ (search rules) c.loop-at.invariant

use Rattle.std.proofs.Common.{rules}
use Rattle.core_trees.specs.View.{view_variables}
use Rattle.program_trees.specs.View.{view_behavior, view_facts}
use Rattle.plain_annotations.specs.Clauses.{is_behavior}
use Rattle.plain_trees.specs.Taking.{taking, shape_with}
use Rattle.plain_trees.proofs.Passing.{item_turn, item_fault, items_done}
use Rattle.plain_trees.proofs.contracts.are_behaviors.Goals as goal

pub returns-then-not-fits : goal.returns-then-not-fits
returns-then-not-fits c =
    item_fault view_behavior (is_behavior (view_facts c.args.facts.now) (taking c.args.takes.now) (shape_with (view_variables c.args.own.now) c.args.gives))
    c.args.behaviors.now c.loop-at.at c.index-behaviors-at.result c.is_behavior-fits.result _ (search rules) c.index-behaviors-at.is c.is_behavior-fits.ensures
    c.if-not-fits.true c.loop-at.invariant

pub loop-at-preserved : goal.loop-at-preserved
loop-at-preserved c =
    item_turn view_behavior (is_behavior (view_facts c.args.facts.now) (taking c.args.takes.now) (shape_with (view_variables c.args.own.now) c.args.gives))
    c.args.behaviors.now c.loop-at.at c.index-behaviors-at.result c.is_behavior-fits.result _ (search rules) c.index-behaviors-at.is c.is_behavior-fits.ensures
    c.if-not-fits.false c.loop-at.invariant

pub returns : goal.returns
returns c =
    items_done view_behavior (is_behavior (view_facts c.args.facts.now) (taking c.args.takes.now) (shape_with (view_variables c.args.own.now) c.args.gives))
    c.args.behaviors.now c.loop-at.at _ (search rules) c.loop-at.invariant

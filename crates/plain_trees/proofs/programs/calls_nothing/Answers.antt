use Rattle.std.proofs.Common.{rules}
use Rattle.acsl_expand.specs.Expansion.{view_meant}
use Rattle.plain_annotations.specs.Settings.{calls_none}
use Rattle.plain_trees.proofs.Passing.{item_turn, item_fault, items_done}
use Rattle.plain_trees.proofs.programs.calls_nothing.Goals as goal

pub returns-then-not-fits : goal.returns-then-not-fits
returns-then-not-fits c =
    item_fault view_meant calls_none
    c.args.definitions.now c.loop-at.at c.index-definitions-at.result c.calls_none-fits.result _ (search rules) c.index-definitions-at.is c.calls_none-fits.ensures
    c.if-not-fits.true c.loop-at.invariant

pub loop-at-preserved : goal.loop-at-preserved
loop-at-preserved c =
    item_turn view_meant calls_none
    c.args.definitions.now c.loop-at.at c.index-definitions-at.result c.calls_none-fits.result _ (search rules) c.index-definitions-at.is c.calls_none-fits.ensures
    c.if-not-fits.false c.loop-at.invariant

pub returns : goal.returns
returns c =
    items_done view_meant calls_none
    c.args.definitions.now c.loop-at.at _ (search rules) c.loop-at.invariant

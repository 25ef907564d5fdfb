use Rattle.std.proofs.Common.{rules}
use Rattle.std.specs.Option.{option_map}
use Rattle.checked_trees.specs.View.{view_checked_function}
use Rattle.program_trees.specs.View.{view_facts}
use Rattle.plain_trees.specs.Taking.{taking, if_annotated}
use Rattle.plain_trees.proofs.Passing.{item_turn, item_fault, items_done}
use Rattle.plain_trees.proofs.programs.all_annotated.Goals as goal

pub returns-then-not-fits : goal.returns-then-not-fits
returns-then-not-fits c =
    item_fault (option_map view_checked_function) (if_annotated (view_facts c.args.facts.now) (taking c.args.takes.now))
    c.args.functions.now c.loop-at.at c.index-functions-at.result c.is_annotated_if-fits.result _ (search rules) c.index-functions-at.is c.is_annotated_if-fits.ensures
    c.if-not-fits.true c.loop-at.invariant

pub loop-at-preserved : goal.loop-at-preserved
loop-at-preserved c =
    item_turn (option_map view_checked_function) (if_annotated (view_facts c.args.facts.now) (taking c.args.takes.now))
    c.args.functions.now c.loop-at.at c.index-functions-at.result c.is_annotated_if-fits.result _ (search rules) c.index-functions-at.is c.is_annotated_if-fits.ensures
    c.if-not-fits.false c.loop-at.invariant

pub returns : goal.returns
returns c =
    items_done (option_map view_checked_function) (if_annotated (view_facts c.args.facts.now) (taking c.args.takes.now))
    c.args.functions.now c.loop-at.at _ (search rules) c.loop-at.invariant

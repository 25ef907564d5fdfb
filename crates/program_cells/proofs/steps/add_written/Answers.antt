use Rattle.core_trees.specs.View.{view_variables}
use Rattle.program_trees.specs.View.{view_facts}
use Rattle.typed_prog.specs.Tree.{values_of}
use Rattle.typed_prog.specs.View.{view_values}
use Rattle.program_cells.proofs.Statements.{written_added}
use Rattle.program_cells.proofs.steps.add_written.Goals as goal

pub returns : goal.returns
returns c =
    written_added (view_facts c.args.facts.now) (view_variables c.args.own.now) c.args.ty.now c.args.path.now (values_of (view_values c.args.operands.now))
    c.cell_of.result c.args.cells.now c.add_place.new.cells c.add_values.new.cells c.cell_of.ensures c.in_ok-add_place.ensures c.in_ok-add_values.ensures

use Rattle.std.proofs.Common.{rules}
use Rattle.checked_trees.specs.View.{view_checked_program}
use Rattle.typed_unit.specs.View.{view_typed}
use Rattle.program_cells.specs.View.{view_declared}
use Rattle.program_cells.proofs.Functions.{definition_added}
use Rattle.program_cells.proofs.programs.add_definition.Goals as goal

pub returns : goal.returns
returns c =
    definition_added (view_typed c.args.typed.now) (view_checked_program c.args.program.now) c.args.definition.now (view_declared c.declared_alone-declared.result)
    c.args.cells.now c.add_tree.new.cells (search rules) (c.declared_alone-declared.ensures (view_checked_program c.args.program.now)) c.in_ok-add_tree.ensures

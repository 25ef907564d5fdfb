use Rattle.std.proofs.Common.{map, subst}
use Rattle.std.specs.Option.{option_map}
use Rattle.checked_trees.specs.View.{view_checked_function, view_checked_program}
use Rattle.program_trees.specs.Files.{at}
use Rattle.typed_unit.specs.View.{view_body, view_typed}
use Rattle.program_cells.specs.Programs.{function_parts_if}
use Rattle.program_cells.specs.View.{Adds, view_declared}
use Rattle.program_cells.proofs.Functions.{body_added}
use Rattle.program_cells.proofs.programs.add_body.Goals as goal

pub returns : goal.returns
returns c =
    body_added (view_typed c.args.typed.now) (view_checked_program c.args.program.now) (view_body c.args.body.now) (view_declared c.declared_in-declared.result)
    c.args.cells.now c.add_function_at.new.cells (c.declared_in-declared.ensures (view_checked_program c.args.program.now))
    (subst (λ fs. Adds c.args.cells.now c.add_function_at.new.cells (function_parts_if (view_checked_program c.args.program.now).facts
    (view_declared c.declared_in-declared.result) (at (map (option_map view_checked_function) fs) c.args.body.now.function))) c.as_slice-functions.ensures
    c.in_ok-add_function_at.ensures)

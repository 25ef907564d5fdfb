use Rattle.std.proofs.Common.{drop, flat_map}
use Rattle.checked_trees.specs.View.{view_checked_program}
use Rattle.typed_unit.specs.View.{view_typed}
use Rattle.program_cells.proofs.Adding.{Onward}
use Rattle.program_cells.proofs.Functions.{code_body}
use Rattle.program_cells.proofs.programs.add_bodies.Given as goal

abbrev pub invariant-loop-at : goal.invariant-loop-at
invariant-loop-at l = Onward l.initial.cells l.cells (flat_map (code_body (view_typed l.typed) (view_checked_program l.program)) (drop l.at l.bodies))
    (flat_map (code_body (view_typed l.typed) (view_checked_program l.program)) l.bodies)

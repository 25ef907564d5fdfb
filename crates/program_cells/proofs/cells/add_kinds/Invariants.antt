use Rattle.std.proofs.Common.{take, map}
use Rattle.program_cells.specs.Parts.{of_kind}
use Rattle.program_cells.specs.View.{Adds}
use Rattle.program_cells.proofs.cells.add_kinds.Given as goal

abbrev pub invariant-loop-at : goal.invariant-loop-at
invariant-loop-at l = Adds l.initial.cells l.cells (map of_kind (take l.at l.kinds))

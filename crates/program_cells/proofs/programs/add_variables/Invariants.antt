use Rattle.std.proofs.Common.{drop, flat_map}
use Rattle.program_cells.proofs.Adding.{Onward}
use Rattle.program_cells.proofs.Clauses.{code_variable}
use Rattle.program_cells.proofs.programs.add_variables.Given as goal

abbrev pub invariant-loop-at : goal.invariant-loop-at
invariant-loop-at l = Onward l.initial.cells l.cells (flat_map code_variable (drop l.at l.variables)) (flat_map code_variable l.variables)

use Rattle.std.proofs.Common.{◌≡◌, ◌++◌, map, drop}
use Rattle.acsl_clauses.specs.Typed.{view_clause}
use Rattle.program_trees.specs.View.{view_together}
use Rattle.c_programs.specs.Clauses.{together_in}
use Rattle.placed_bodies.proofs.clauses.together_in.Given as goal

abbrev pub invariant-loop-i : goal.invariant-loop-i
invariant-loop-i l = map view_together l.found ++ together_in (map view_clause (drop l.i l.clauses)) ≡ together_in (map view_clause l.clauses)

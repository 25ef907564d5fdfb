use Rattle.std.proofs.Common.{◌≡◌, map, drop}
use Rattle.acsl_clauses.specs.Typed.{view_clause}
use Rattle.c_programs.specs.Clauses.{measure_in}
use Rattle.placed_bodies.proofs.clauses.measure_in.Given as goal

abbrev pub invariant-loop-i : goal.invariant-loop-i
invariant-loop-i l = measure_in (map view_clause (drop l.i l.clauses)) ≡ measure_in (map view_clause l.clauses)

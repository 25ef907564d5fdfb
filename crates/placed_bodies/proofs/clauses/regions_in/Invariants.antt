use Rattle.std.proofs.Common.{◌≡◌, map, drop}
use Rattle.acsl_clauses.specs.Typed.{view_clause}
use Rattle.c_programs.specs.Clauses.{regions_in}
use Rattle.placed_bodies.proofs.clauses.regions_in.Given as goal

abbrev pub invariant-loop-i : goal.invariant-loop-i
invariant-loop-i l = regions_in (map view_clause (drop l.i l.clauses)) ≡ regions_in (map view_clause l.clauses)

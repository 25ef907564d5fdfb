use Rattle.std.proofs.Common.{◌≡◌, ◌++◌, map, drop, take}
use Rattle.acsl_clauses.specs.Typed.{view_clause}
use Rattle.c_programs.specs.Clauses.{own}
use Rattle.placed_bodies.proofs.clauses.own.Given as goal

abbrev pub invariant-loop-i : goal.invariant-loop-i
invariant-loop-i l = map view_clause (take l.i l.clauses) ++ own (map view_clause (drop l.i l.clauses)) ≡ own (map view_clause l.clauses)

use Rattle.std.proofs.Common.{◌≡◌, ◌++◌, map, drop}
use Rattle.acsl_clauses.specs.Typed.{view_clause}
use Rattle.core_trees.specs.View.{view_claim}
use Rattle.c_programs.specs.Clauses.{claims_in}
use Rattle.placed_bodies.proofs.clauses.claims_in.Given as goal

abbrev pub invariant-loop-i : goal.invariant-loop-i
invariant-loop-i l = map view_claim l.found ++ claims_in l.role (map view_clause (drop l.i l.clauses)) ≡ claims_in l.role (map view_clause l.clauses)

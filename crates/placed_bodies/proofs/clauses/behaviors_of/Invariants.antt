use Rattle.std.proofs.Common.{◌≡◌, ◌++◌, map, drop}
use Rattle.acsl_clauses.specs.Typed.{view_clause}
use Rattle.program_trees.specs.View.{view_behavior}
use Rattle.c_programs.specs.Clauses.{behaviors_of}
use Rattle.placed_bodies.proofs.clauses.behaviors_of.Given as goal

abbrev pub invariant-loop-i : goal.invariant-loop-i
invariant-loop-i l = map view_behavior l.found ++ behaviors_of (map view_clause (drop l.i l.clauses)) ≡ behaviors_of (map view_clause l.clauses)

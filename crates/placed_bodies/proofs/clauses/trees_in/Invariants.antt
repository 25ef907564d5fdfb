use Rattle.std.proofs.Common.{◌≡◌, ◌++◌, map, drop}
use Rattle.acsl_clauses.specs.Typed.{view_clause}
use Rattle.acsl_trees.specs.Tree.{view_tree}
use Rattle.c_programs.specs.Clauses.{trees_in}
use Rattle.placed_bodies.proofs.clauses.trees_in.Given as goal

abbrev pub invariant-loop-i : goal.invariant-loop-i
invariant-loop-i l = map view_tree l.found ++ trees_in l.role (map view_clause (drop l.i l.clauses)) ≡ trees_in l.role (map view_clause l.clauses)

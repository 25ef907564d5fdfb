use Rattle.std.proofs.Common.{◌≡◌, ◌++◌, map, drop}
use Rattle.acsl_trees.specs.Tree.{view_tree}
use Rattle.placed_bodies.proofs.clauses.copies.Given as goal

abbrev pub invariant-loop-i : goal.invariant-loop-i
invariant-loop-i l = map view_tree l.made ++ map view_tree (drop l.i l.trees) ≡ map view_tree l.trees

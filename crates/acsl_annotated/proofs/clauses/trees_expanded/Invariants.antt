use Rattle.std.proofs.Common.{◌≡◌, ◌++◌, drop, map}
use Rattle.acsl_trees.specs.Tree.{view_tree}
use Rattle.acsl_expand.specs.Expansion.{expanded, view_all}
use Rattle.acsl_annotated.proofs.clauses.trees_expanded.Given as goal

abbrev pub invariant-loop-i : goal.invariant-loop-i
invariant-loop-i l = map view_tree l.made.items ++ map (expanded (view_all l.meant)) (map view_tree (drop l.i l.trees)) ≡ map (expanded (view_all l.meant)) (map view_tree l.trees)

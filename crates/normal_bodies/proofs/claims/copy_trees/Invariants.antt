use Rattle.std.proofs.Common.{◌≡◌, ◌++◌, drop}
use Rattle.normal_bodies.proofs.claims.copy_trees.Given as goal

abbrev pub invariant-loop-tree : goal.invariant-loop-tree
invariant-loop-tree l = l.copies ++ drop l.tree-index l.trees ≡ l.trees

use Rattle.std.proofs.Common.{◌≡◌, take}
use Rattle.acsl_trees.proofs.tree.+tree_copy.Given as goal

-- the copies so far
abbrev pub invariant-copies-loop-tree : goal.invariant-copies-loop-tree
invariant-copies-loop-tree l = l.made ≡ take l.tree-index l.trees

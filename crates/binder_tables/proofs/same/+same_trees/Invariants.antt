use Rattle.std.proofs.Common.{◌≡◌, drop}
use Rattle.acsl_trees.specs.Tree.{trees_of, view_trees}
use Rattle.binder_names.specs.Trees.{same_trees}
use Rattle.binder_tables.proofs.same.+same_trees.Given as goal

abbrev pub invariant-are_same_trees-loop-at : goal.invariant-are_same_trees-loop-at
invariant-are_same_trees-loop-at l =
    same_trees (trees_of (view_trees (drop l.at l.left))) (trees_of (view_trees (drop l.at l.right)))
    ≡ same_trees (trees_of (view_trees l.left)) (trees_of (view_trees l.right))

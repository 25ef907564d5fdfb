-- The plain tree of a node in memory.
use Rattle.std.proofs.Common.{◌≡◌, List, map}
use Rattle.acsl_trees.specs.declared.heads.Head.{Head}
use Rattle.acsl_trees.specs.declared.tree.Tree.{Tree as Code, Tree-F, fold-roll-Tree, roll-Tree}
use Rattle.acsl_trees.specs.Tree.{Tree, node, trees_of, layer, view_tree}

pub view_made : (head : Head) (kids : List Code) → view_tree (roll-Tree (record { head = head; kids = kids })) ≡ node head (trees_of (map view_tree kids))
unfolding view_tree
view_made head kids = fold-roll-Tree Tree layer (record { head = head; kids = kids })

pub ruleset tree_laws = (view_made)

-- A node in memory by its head and its kids.
use Rattle.std.proofs.Common.{◌≡◌, ap, sym, ◌∙◌}
use Rattle.acsl_trees.specs.declared.tree.Tree.{Tree, out-Tree, roll-out-Tree}
use Rattle.acsl_trees.specs.Tree.{node, trees_of, view_tree, view_trees}
use Rattle.acsl_trees.proofs.Equations.{view_made}

pub view_whole : (t : Tree) → view_tree t ≡ node (out-Tree t).head (trees_of (view_trees (out-Tree t).kids))
view_whole t = ap view_tree (sym (roll-out-Tree t)) ∙ view_made (out-Tree t).head (out-Tree t).kids

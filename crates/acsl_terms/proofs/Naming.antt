-- A tree in memory that is a local's name.
use Rattle.std.proofs.Common.{◌≡◌, ap, sym}
use Rattle.acsl_trees.specs.declared.tree.Tree.{Tree, out-Tree}
use Rattle.acsl_trees.specs.Tree.{view_tree}
use Rattle.acsl_rules.proofs.Whole.{view_whole}
use Rattle.acsl_terms.specs.Steps.{local_by, local_of}

pub local_is : (t : Tree) → local_by (out-Tree t).head ≡ local_of (view_tree t)
local_is t = sym (ap local_of (view_whole t))

-- Nodes of a table, by the trees that they are.
use Rattle.std.proofs.Common.{◌≡◌, ℕ, zero, suc, ◌<◌, List, [], ◌∷◌, map, length, get_or, sym, ◌∙◌, ap, arith}
use Rattle.std.specs.Prelude.{Some, slice_get, All}
use Rattle.qed_terms.specs.Nodes.{kids_of}
use Rattle.qed_terms.specs.Tree.{head_of, list_of, kids_in}
use Rattle.qed_terms.proofs.Lists.{list_of-trees_of}
use Rattle.tree_places.specs.declared.table.TreeNode.{TreeNode}
use Rattle.tree_places.specs.declared.table.TreeTable.{TreeTable}
use Rattle.tree_places.specs.View.{nodes_of, node_of, IsKept}
use Rattle.term_forms.specs.Forms.{tree_of, count_of}

pub get_mapped : {A B : Type 0} (f : A → B) (xs : List A) (k : ℕ) (x : A) → k < length (map f xs) → x ≡ get_or xs k x → slice_get (map f xs) k ≡ Some (f x)
get_mapped f [] k x l e = absurd (omega arith)
get_mapped f (y ∷ xs) zero x l e = ap (λ z. Some (f z)) (sym e)
get_mapped f (y ∷ xs) (suc k) x l e = get_mapped f xs k x (omega arith) e

module _ (t : TreeTable) (kept : IsKept t) (i : ℕ) (n : TreeNode) (there : slice_get (nodes_of t) i ≡ Some (node_of n)) where
  pub head_there : n.head ≡ head_of (tree_of t i)
  head_there = sym (ap head_of (kept.table.is i (node_of n) there))

  pub kids_there : map (tree_of t) (n.kids.items) ≡ kids_of (tree_of t i)
  kids_there = sym (ap (λ z. list_of (kids_in z)) (kept.table.is i (node_of n) there) ∙ list_of-trees_of (map (tree_of t) (n.kids.items)))

  pub below_there : i < count_of t → All (λ k. k < count_of t) (n.kids.items)
  below_there l k d m = let b = kept.table.before i (node_of n) there k d m in omega arith

-- Forms by places of a table of trees.
use Rattle.std.specs.Prelude.{◌≡◌, ℕ, ℤ, Bool, true, false, neg_ℤ, length, Option, Some, None}
use Rattle.qed_terms.specs.Tree.{Tree}
use Rattle.qed_linear.specs.Linear.{Part, Lin, lin, checked}
use Rattle.same_places.specs.Same.{PartsWithin}
use Rattle.same_terms.specs.Stands.{tree_parts}
use Rattle.same_terms.specs.Written.{turned}
use Rattle.tree_places.specs.declared.table.TreeTable.{TreeTable}
use Rattle.tree_places.specs.Tables.{tree_at}
use Rattle.tree_places.specs.View.{nodes_of}
use Rattle.term_forms.specs.declared.forms.Form.{Form}

-- the tree at a place, and how many places there are
abbrev pub tree_of : TreeTable → ℕ → Tree
tree_of t = tree_at (nodes_of t)

abbrev pub count_of : TreeTable → ℕ
count_of t = length (nodes_of t)

-- the form that a form by places stands for
abbrev pub lin_of : (ℕ → Tree) → Form → Lin
lin_of tree f = lin (tree_parts tree (f.parts.items)) (f.constant)

-- a part as it is, or turned
abbrev pub signed : (plus : Bool) → Part → Part
signed true p = turned p
signed false p = p

abbrev pub signed_number : (plus : Bool) → ℤ → ℤ
signed_number true z = neg_ℤ z
signed_number false z = z

-- the form, where it fits, by places
abbrev pub IsChecked : (count : ℕ) → (ℕ → Tree) → Lin → Option Form → Type 0
IsChecked count tree f None = checked f ≡ None
IsChecked count tree f (Some g) = (checked f ≡ Some (lin_of tree g)) × PartsWithin count (g.parts.items)

-- Trees that are kept as a row of nodes, each after its kids.
use Rattle.std.specs.Prelude.{◌≡◌, ℕ, zero, suc, ◌<◌, true, List, [], map, length, slice_index_or, All}
use Rattle.qed_terms.specs.declared.head.Head.{Head}
use Rattle.qed_terms.specs.declared.head.Head.TheVariants as h
use Rattle.qed_terms.specs.declared.tree_store.Node.{Node}
use Rattle.qed_terms.specs.Store.{is_well_formed}
use Rattle.qed_terms.specs.Tree.{Tree, node, stop, trees_of}

-- a head, and where its kids stand
abbrev pub Row : Type 0
Row = Head × List ℕ

abbrev pub row_of : Node → Row
row_of n = (n.head, n.kids.items)

abbrev pub row_at : List Row → ℕ → Row
row_at rows i = slice_index_or rows i (h.False, [])

-- each node's kids stand before it
abbrev pub IsOrdered : List Row → Type 0
IsOrdered rows = (i : ℕ) → i < length rows → All (λ k. k < i) (row_at rows i).1

-- the tree at a place, to a depth
abbrev pub tree_to : (depth : ℕ) → List Row → ℕ → Tree
tree_to zero rows i = node h.False stop
tree_to (suc depth) rows i = node (row_at rows i).0 (trees_of (map (tree_to depth rows) (row_at rows i).1))

-- the tree at a place, none of whose nodes stands after it
abbrev pub tree_at : List Row → ℕ → Tree
tree_at rows i = tree_to (suc i) rows i

-- a place in the row with a well formed tree
pub record Holds (rows : List Row) (i : ℕ) : Type 0 where
  pub below : i < length rows
  pub fits : is_well_formed (tree_at rows i) ≡ true

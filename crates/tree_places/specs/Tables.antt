-- Trees by places: a row of nodes, each over places before its own, of which no two are one tree.
use Rattle.std.specs.Prelude.{◌≡◌, ℕ, ◌<◌, List, [], ◌∷◌, ◌++◌, map, length, slice_get, slice_index_or, Option, Some, All, fold}
use Rattle.qed_terms.specs.declared.head.Head.{Head}
use Rattle.qed_terms.specs.Tree.{Tree, node, trees_of, false_tree}

-- a head, its number, and the places of its kids
pub record Node : Type 0 where
  pub head : Head
  pub number : ℕ
  pub kids : List ℕ

-- the tree at a place
abbrev pub tree_in : List Tree → ℕ → Tree
tree_in ts i = slice_index_or ts i false_tree

abbrev pub tree_over : List Tree → Node → Tree
tree_over ts n = node (n.head) (trees_of (map (tree_in ts) (n.kids)))

-- a node more, and its tree
abbrev pub grown : List Tree → Node → List Tree
grown ts n = ts ++ tree_over ts n ∷ []

abbrev pub trees_in : List Node → List Tree
trees_in ns = fold grown [] ns

abbrev pub tree_at : List Node → ℕ → Tree
tree_at ns i = tree_in (trees_in ns) i

-- The nodes, with their numbers and the table that finds a node by its head's number and its kids.
pub record IsTable (ns : List Node) (number : Head → Option ℕ) (find : List ℕ → Option ℕ) : Type 0 where
  pub all : length (trees_in ns) ≡ length ns
  pub is : (i : ℕ) (n : Node) → slice_get ns i ≡ Some n → tree_at ns i ≡ tree_over (trees_in ns) n
  pub before : (i : ℕ) (n : Node) → slice_get ns i ≡ Some n → All (λ k. k < i) (n.kids)
  pub numbered : (i : ℕ) (n : Node) → slice_get ns i ≡ Some n → number (n.head) ≡ Some (n.number)
  pub there : (i : ℕ) (n : Node) → slice_get ns i ≡ Some n → find (n.number ∷ n.kids) ≡ Some i
  pub found : (m i : ℕ) (ks : List ℕ) → find (m ∷ ks) ≡ Some i → (n : Node) × (slice_get ns i ≡ Some n) × (n.number ≡ m) × (n.kids ≡ ks)

-- these nodes are the first of those
abbrev pub Grows : List Node → List Node → Type 0
Grows ns ms = (more : List Node) × (ms ≡ ns ++ more)

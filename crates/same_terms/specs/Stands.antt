-- Rows over places that stand for the terms of a branch.
use Rattle.std.specs.Prelude.{Option, ◌≡◌, ◌⊎◌, ℕ, suc, ◌+◌, ◌*◌, ◌<◌, true, false, ℤ, pos, List, [], ◌∷◌, map, slice_get, Some}
use Rattle.qed_terms.specs.declared.head.Head.{Head}
use Rattle.qed_terms.specs.declared.head.Head.TheVariants as h
use Rattle.qed_terms.specs.Nodes.{kids_of}
use Rattle.qed_terms.specs.Tree.{Tree, head_of}
use Rattle.qed_linear.specs.Linear.{Part, part}
use Rattle.same_places.specs.Same.{Row, Pairs, RowsWithin, PairsWithin}
use Rattle.same_places.specs.Same as places
use Rattle.same_terms.specs.Written.{is_sum, written}
use Rattle.same_terms.specs.SameTerms.{is_binder, InBranch, IsRest}

-- what the label of a row stands for: a head over its kids, or the constant of a sum over its atoms
pub data Label : Type 0 where
  over_kids : Head → Label
  over_atoms : ℤ → Label

-- Labels from numbers of heads: twice the number for a head over its kids, and one more for a sum's constant over its atoms.
abbrev pub StandsFor : (Head → Option ℕ) → ℕ → Label → Type 0
StandsFor number n (over_kids head) = (m : ℕ) × (number head ≡ Some m) × (n ≡ 2 * m)
StandsFor number n (over_atoms z) = (m : ℕ) × (number (h.Num z) ≡ Some m) × (n ≡ 2 * m + 1)

-- trees with their number in a list
abbrev pub numbered : ℕ → List Tree → List Part
numbered n [] = []
numbered n (t ∷ ts) = part t (pos n) ∷ numbered (suc n) ts

-- a part of a row as one of trees
abbrev pub tree_part : (ℕ → Tree) → places.Part → Part
tree_part tree p = part (tree (p.0)) (p.1)

abbrev pub tree_parts : (ℕ → Tree) → List places.Part → List Part
tree_parts tree ps = map (tree_part tree) ps

-- a row of a term that isn't a quantifier: its head over its kids
pub record IsKidsRow (tree : ℕ → Tree) (stands_for : ℕ → Label → Type 0) (r : Row) : Type 0 where
  pub unbound : is_binder (head_of (tree (r.place))) ≡ false
  pub labelled : stands_for (r.label) (over_kids (head_of (tree (r.place))))
  pub kids : tree_parts tree (r.parts) ≡ numbered 0 (kids_of (tree (r.place)))

-- a row of a sum: its constant over its atoms
pub record IsAtomsRow (tree : ℕ → Tree) (stands_for : ℕ → Label → Type 0) (r : Row) : Type 0 where
  pub sum : is_sum (head_of (tree (r.place))) ≡ true
  pub labelled : stands_for (r.label) (over_atoms ((written (tree (r.place))).constant))
  pub atoms : tree_parts tree (r.parts) ≡ (written (tree (r.place))).parts

-- Each place is another tree, each tree of the branch has a place, rows are those of the terms of the branch, and pairs are its equalities.
pub record Stand (ls : List Tree) (count : ℕ) (tree : ℕ → Tree) (stands_for : ℕ → Label → Type 0) (rows : List Row) (pairs : Pairs) : Type 0 where
  pub rows_within : RowsWithin count rows
  pub pairs_within : PairsWithin count pairs
  pub once : (i j : ℕ) → i < count → j < count → tree i ≡ tree j → i ≡ j
  pub place : (t : Tree) → InBranch ls t → (i : ℕ) × (i < count) × (tree i ≡ t)
  pub one_meaning : (n : ℕ) (x y : Label) → stands_for n x → stands_for n y → x ≡ y
  pub one_label : (m n : ℕ) (x : Label) → stands_for m x → stands_for n x → m ≡ n
  pub row_is : (k : ℕ) (r : Row) → slice_get rows k ≡ Some r → InBranch ls (tree (r.place)) × (IsKidsRow tree stands_for r ⊎ IsAtomsRow tree stands_for r)
  pub kids_row : (i : ℕ) → i < count → InBranch ls (tree i) → is_binder (head_of (tree i)) ≡ false → (k : ℕ) × (r : Row) × (slice_get rows k ≡ Some r) × (r.place ≡ i) × IsKidsRow tree stands_for r
  pub atoms_row : (i : ℕ) → i < count → InBranch ls (tree i) → is_sum (head_of (tree i)) ≡ true → (k : ℕ) × (r : Row) × (slice_get rows k ≡ Some r) × (r.place ≡ i) × IsAtomsRow tree stands_for r
  pub pair_is : (k i j : ℕ) → slice_get pairs k ≡ Some (i, j) → IsRest ls (tree i) (tree j)
  pub pair_of : (a r : Tree) → IsRest ls a r → (k : ℕ) × (i : ℕ) × (j : ℕ) × (slice_get pairs k ≡ Some (i, j)) × (tree i ≡ a) × (tree j ≡ r)

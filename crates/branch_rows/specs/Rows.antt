-- Rows of marked places.
use Rattle.std.specs.Prelude.{◌≡◌, ◌⊎◌, ◌<◌, ◌++◌, true, false, pos, Bool, ℕ, suc, List, [], ◌∷◌, slice_get, Option, Some, None}
use Rattle.qed_terms.specs.declared.head.Head.{Head}
use Rattle.qed_terms.specs.Tree.{Tree, head_of}
use Rattle.same_places.specs.declared.rows.ClassRow.{ClassRow}
use Rattle.same_places.specs.Same.{Part, Row, PartsWithin, RowsWithin}
use Rattle.same_places.specs.View.{row_of}
use Rattle.same_terms.specs.SameTerms.{is_binder}
use Rattle.same_terms.specs.Stands.{StandsFor, IsKidsRow, IsAtomsRow}
use Rattle.same_terms.specs.Written.{is_sum}

-- places with their numbers in a list
abbrev pub numbered_places : ℕ → List ℕ → List Part
numbered_places n [] = []
numbered_places n (k ∷ ks) = (k, pos n) ∷ numbered_places (suc n) ks

-- the row of a place over its kids: none of a quantifier
abbrev pub KidsRowOf : (ℕ → Tree) → (Head → Option ℕ) → (count place : ℕ) → Option ClassRow → Type 0
KidsRowOf tree number count place None = is_binder (head_of (tree place)) ≡ true
KidsRowOf tree number count place (Some r) = ((row_of r).place ≡ place) × PartsWithin count ((row_of r).parts) × IsKidsRow tree (StandsFor number) (row_of r)

-- the row of a place over its atoms: none where it is no sum
abbrev pub AtomsRowOf : (ℕ → Tree) → (Head → Option ℕ) → (count place : ℕ) → Option ClassRow → Type 0
AtomsRowOf tree number count place None = is_sum (head_of (tree place)) ≡ false
AtomsRowOf tree number count place (Some r) = ((row_of r).place ≡ place) × PartsWithin count ((row_of r).parts) × IsAtomsRow tree (StandsFor number) (row_of r)

abbrev pub with_row : List Row → Option ClassRow → List Row
with_row rs None = rs
with_row rs (Some r) = rs ++ row_of r ∷ []

-- rows are those of the marked places before this one, and all of them
pub record AreRows (tree : ℕ → Tree) (number : Head → Option ℕ) (count : ℕ) (marked : ℕ → Bool) (n : ℕ) (rows : List Row) : Type 0 where
  pub within : RowsWithin count rows
  pub each : (k : ℕ) (r : Row) → slice_get rows k ≡ Some r → (marked (r.place) ≡ true) × (IsKidsRow tree (StandsFor number) r ⊎ IsAtomsRow tree (StandsFor number) r)
  pub kids : (i : ℕ) → i < n → marked i ≡ true → is_binder (head_of (tree i)) ≡ false → (k : ℕ) × (r : Row) × (slice_get rows k ≡ Some r) × (r.place ≡ i) × IsKidsRow tree (StandsFor number) r
  pub atoms : (i : ℕ) → i < n → marked i ≡ true → is_sum (head_of (tree i)) ≡ true → (k : ℕ) × (r : Row) × (slice_get rows k ≡ Some r) × (r.place ≡ i) × IsAtomsRow tree (StandsFor number) r

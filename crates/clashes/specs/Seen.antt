-- A place for each class: what was seen of a list of places.
use Rattle.std.specs.Prelude.{◌≡◌, ℕ, ◌<◌, nat_eq, true, ℤ, Bool, List, slice_index, length, Option, Some}
use Rattle.std.specs.Map.{lookup}
use Rattle.qed_terms.specs.Tree.{Tree, not_of}
use Rattle.same_terms.specs.Written.{number_in}
use Rattle.branch_rows.specs.Marks.{mark_at}
use Rattle.clashes.specs.Kinds.{AreApart}

-- the place that a table has for a class
abbrev pub place_in : List (ℕ × ℕ) → ℕ → Option ℕ
place_in entries class = lookup (λ c. nat_eq class c) entries

-- of the first so many places: what is found for a class is one of them that has it, and the class of each is found
pub record AreSeen (class_of : ℕ → ℕ) (places : List ℕ) (n : ℕ) (find : ℕ → Option ℕ) : Type 0 where
  pub each : (c k : ℕ) → find c ≡ Some k → (i : ℕ) × (i < n) × (slice_index places i ≡ k) × (class_of k ≡ c)
  pub every : (i : ℕ) → i < n → (k : ℕ) × (find (class_of (slice_index places i)) ≡ Some k)

abbrev pub HasNumber : Tree → Type 0
HasNumber t = (z : ℤ) × (number_in t ≡ Some z)

-- a place is marked and has a number
abbrev pub IsNumberThere : (ℕ → Tree) → List Bool → ℕ → Type 0
IsNumberThere tree marks k = (mark_at marks k ≡ true) × HasNumber (tree k)

-- the places of numbers, of those before this one that are marked
pub record AreNumbers (tree : ℕ → Tree) (marks : List Bool) (n : ℕ) (places : List ℕ) : Type 0 where
  pub each : (i : ℕ) → i < length places → (mark_at marks (slice_index places i) ≡ true) × (slice_index places i < n) × HasNumber (tree (slice_index places i))
  pub every : (k : ℕ) (z : ℤ) → k < n → mark_at marks k ≡ true → number_in (tree k) ≡ Some z → (i : ℕ) × (i < length places) × (slice_index places i ≡ k)

-- what is found for the class of a place is another number than the one there
pub record DiffersThere (tree : ℕ → Tree) (class_of : ℕ → ℕ) (find : ℕ → Option ℕ) (place : ℕ) : Type 0 where
  pub seen : ℕ
  pub found : find (class_of place) ≡ Some seen
  pub apart : AreApart (tree seen) (tree place)

-- the literal there is the `not` of a formula for whose class a place is found
pub record IsOppositeThere (tree : ℕ → Tree) (count : ℕ) (class_of : ℕ → ℕ) (find : ℕ → Option ℕ) (place : ℕ) : Type 0 where
  pub formula : ℕ
  pub below : formula < count
  pub is : tree place ≡ not_of (tree formula)
  pub seen : ℕ
  pub found : find (class_of formula) ≡ Some seen

-- The least relation on places that holds given pairs, and of places whose rows have one label and parts that pair off into related ones.
use Rattle.std.specs.Prelude.{◌≡◌, ◌↔◌, ℕ, ◌<◌, ℤ, List, [], ◌∷◌, length, slice_get, slice_index, Some, All}
use Rattle.same_places.specs.Pairing.{Takes}

-- A place, and a mark that says how it stands in a row: an argument has its number among the arguments, an atom of a sum its coefficient.
abbrev pub Part : Type 0
Part = ℕ × ℤ

-- What stands at a place is a label over parts. A place may have several rows: a sum is a label over its arguments in order, and its constant over
-- its atoms in any order.
pub record Row : Type 0 where
  pub place : ℕ
  pub label : ℕ
  pub parts : List Part

abbrev pub Pairs : Type 0
Pairs = List (ℕ × ℕ)

mutual
  pub data Same (rows : List Row) (pairs : Pairs) : ℕ → ℕ → Type 0 where
    itself : {i : ℕ} → Same rows pairs i i
    turned : {i j : ℕ} → Same rows pairs i j → Same rows pairs j i
    through : {i j k : ℕ} → Same rows pairs i j → Same rows pairs j k → Same rows pairs i k
    given : {i j : ℕ} → (k : ℕ) → slice_get pairs k ≡ Some (i, j) → Same rows pairs i j
    alike : {i j : ℕ} → (k l : ℕ) → (r s : Row) → slice_get rows k ≡ Some r → slice_get rows l ≡ Some s → r.place ≡ i → s.place ≡ j → r.label ≡ s.label →
        SameParts rows pairs (r.parts) (s.parts) → Same rows pairs i j

  -- parts that pair off into related ones of one mark
  pub data SameParts (rows : List Row) (pairs : Pairs) : List Part → List Part → Type 0 where
    no_parts : SameParts rows pairs [] []
    one_part : {i j : ℕ} {mark : ℤ} {ps qs rest : List Part} → Same rows pairs i j → Takes (j, mark) qs rest → SameParts rows pairs ps rest → SameParts rows pairs ((i, mark) ∷ ps) qs

-- ---- places below a count

abbrev pub PartsWithin : (count : ℕ) → List Part → Type 0
PartsWithin count ps = All (λ p. p.0 < count) ps

-- rows and pairs speak of places below the count alone
abbrev pub RowsWithin : (count : ℕ) → List Row → Type 0
RowsWithin count rows = (k : ℕ) (r : Row) → slice_get rows k ≡ Some r → (r.place < count) × PartsWithin count (r.parts)

abbrev pub PairsWithin : (count : ℕ) → Pairs → Type 0
PairsWithin count pairs = (k i j : ℕ) → slice_get pairs k ≡ Some (i, j) → (i < count) × (j < count)

-- ---- classes

-- the class of a place
abbrev pub at : List ℕ → ℕ → ℕ
at c i = slice_index c i

-- places are of one class exactly where they are related
abbrev pub AreClasses : (count : ℕ) → List Row → Pairs → List ℕ → Type 0
AreClasses count rows pairs c = (length c ≡ count) × ((i j : ℕ) → i < count → j < count → (at c i ≡ at c j) ↔ Same rows pairs i j)

-- How classes are found: one pass over the rows joins those of one key.
use Rattle.std.specs.Prelude.{◌≡◌, ◌⊎◌, ℕ, ◌+◌, ◌<◌, ◌==◌, ◌&&◌, nat_eq, if◌then◌else◌, Bool, false, pos, List, [], ◌∷◌, ◌++◌, map, length, slice_get, Option, Some, IsSorted}
use Rattle.std.specs.Ordering.{nat_cmp, int_cmp, int_eq, ordering_then}
use Rattle.std.specs.declared.cmp.Ordering.{Ordering}
use Rattle.same_places.specs.Pairing.{PairsOff}
use Rattle.same_places.specs.Same.{Part, Row, Pairs, Same, at}

-- ---- classes on the way

-- one class goes into another
abbrev pub into : (from to k : ℕ) → ℕ
into from to k = if k == from then to else k

-- in these classes, places of the one class are of the other
pub record IsMerged (from to : ℕ) (c d : List ℕ) : Type 0 where
  pub all : length d ≡ length c
  pub renamed : (i : ℕ) → i < length c → at d i ≡ into from to (at c i)

-- the classes of two places have become one
abbrev pub IsJoined : (i j : ℕ) → List ℕ → List ℕ → Type 0
IsJoined i j c d = IsMerged (at c i) (at c j) c d ⊎ IsMerged (at c j) (at c i) c d

-- places of one class are related
abbrev pub Sound : List Row → Pairs → List ℕ → Type 0
Sound rows pairs c = (i j : ℕ) → i < length c → j < length c → at c i ≡ at c j → Same rows pairs i j

-- what is of one class stays so
abbrev pub Joins : List ℕ → List ℕ → Type 0
Joins c d = (length d ≡ length c) × ((i j : ℕ) → i < length c → j < length c → at c i ≡ at c j → at d i ≡ at d j)

abbrev pub PairsHold : Pairs → List ℕ → Type 0
PairsHold pairs c = (k i j : ℕ) → slice_get pairs k ≡ Some (i, j) → at c i ≡ at c j

-- two parts of one mark, of which it is so
abbrev pub OneMark : (ℕ → ℕ → Type 0) → Part → Part → Type 0
OneMark r p q = (p.1 ≡ q.1) × r (p.0) (q.0)

-- rows of one label whose parts pair off into places of one class are of one class
abbrev pub Closed : List Row → List ℕ → Type 0
Closed rows c =
    (k l : ℕ) (r s : Row) → slice_get rows k ≡ Some r → slice_get rows l ≡ Some s → r.label ≡ s.label → PairsOff (OneMark (λ i j. at c i ≡ at c j)) (r.parts) (s.parts) → at c (r.place) ≡ at c (s.place)

-- ---- keys

-- a part, by the class of its place
abbrev pub class_part : List ℕ → Part → Part
class_part c p = (at c (p.0), p.1)

abbrev pub class_parts : List ℕ → List Part → List Part
class_parts c ps = map (class_part c) ps

abbrev pub part_cmp : Part → Part → Ordering
part_cmp p q = ordering_then (nat_cmp (p.0) (q.0)) (int_cmp (p.1) (q.1))

abbrev pub same_part : Part → Part → Bool
same_part p q = nat_eq (p.0) (q.0) && int_eq (p.1) (q.1)

abbrev pub one_if : Part → Part → ℕ
one_if p q = if same_part p q then 1 else 0

-- how often a part stands in a list
abbrev pub times_in : List Part → Part → ℕ
times_in [] p = 0
times_in (q ∷ qs) p = one_if p q + times_in qs p

-- each part as often in the one list as in the other
abbrev pub AsOften : List Part → List Part → Type 0
AsOften ps qs = (p : Part) → times_in ps p ≡ times_in qs p

-- The key of a row: the classes of its parts in order, and the label. Rows of one label have one key exactly where their parts pair off.
pub record IsKey (c : List ℕ) (r : Row) (key : List Part) : Type 0 where
  pub ordered : List Part
  pub whole : key ≡ ordered ++ (r.label, pos 0) ∷ []
  pub in_order : IsSorted part_cmp ordered
  pub as_often : AsOften ordered (class_parts c (r.parts))

-- ---- a pass

-- the place that was noted at a key
abbrev pub Seen : Type 0
Seen = List Part → Option ℕ

-- each place whose class is now this one is related to that place
abbrev pub Known : List Row → Pairs → List ℕ → (class i : ℕ) → Type 0
Known rows pairs c class i = (j : ℕ) → j < length c → at c j ≡ class → Same rows pairs j i

-- What an entry of the table says, also after classes were joined: the key is that of a row of the place, by what is known of its classes.
pub record IsNoted (rows : List Row) (pairs : Pairs) (c : List ℕ) (key : List Part) (place : ℕ) : Type 0 where
  pub number : ℕ
  pub row : Row
  pub there : slice_get rows number ≡ Some row
  pub of_place : row.place ≡ place
  pub ordered : List Part
  pub whole : key ≡ ordered ++ (row.label, pos 0) ∷ []
  pub known : PairsOff (OneMark (Known rows pairs c)) ordered (row.parts)

-- each of the first rows has its key in the table, with a place of its class
abbrev pub Found : List Row → List ℕ → Seen → ℕ → Type 0
Found rows c seen n = (l : ℕ) (r : Row) → l < n → slice_get rows l ≡ Some r → (key : List Part) × (k : ℕ) × IsKey c r key × (seen key ≡ Some k) × (at c k ≡ at c (r.place))

-- where a pass stands after so many rows
pub record Passing (count : ℕ) (rows : List Row) (start c : List ℕ) (moved : Bool) (seen : Seen) (n : ℕ) : Type 0 where
  pub all : length c ≡ count
  pub sound : (pairs : Pairs) → Sound rows pairs start → Sound rows pairs c
  pub joins : Joins start c
  pub within : (key : List Part) (k : ℕ) → seen key ≡ Some k → k < count
  pub noted : (pairs : Pairs) → Sound rows pairs start → (key : List Part) (k : ℕ) → seen key ≡ Some k → IsNoted rows pairs c key k
  pub found : moved ≡ false → Found rows c seen n

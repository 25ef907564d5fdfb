-- The places of each class, beside the class of each place.
use Rattle.std.specs.Prelude.{◌≡◌, ◌⊎◌, ℕ, ◌<◌, List, [], ◌∷◌, map, length, slice_index_or}
use Rattle.std.specs.declared.vec.Vec.{Vec}
use Rattle.same_places.specs.declared.joins.Classes.{Classes}
use Rattle.same_places.specs.Same.{at}

abbrev pub IsIn : ℕ → List ℕ → Type 0
IsIn x [] = ⊥
IsIn x (y ∷ ys) = (x ≡ y) ⊎ IsIn x ys

abbrev pub list_at : List (List ℕ) → ℕ → List ℕ
list_at lists k = slice_index_or lists k []

-- each place is in the list of its class, and in no other
pub record AreListed (c : List ℕ) (lists : List (List ℕ)) : Type 0 where
  pub all : length lists ≡ length c
  pub below : (i : ℕ) → i < length c → at c i < length c
  pub there : (i : ℕ) → i < length c → IsIn i (list_at lists (at c i))
  pub alone : (k i : ℕ) → IsIn i (list_at lists k) → (i < length c) × (at c i ≡ k)

-- the class of these places is now this one, that of the others is as it was
pub record IsRenamed (places : List ℕ) (to : ℕ) (c d : List ℕ) : Type 0 where
  pub all : length d ≡ length c
  pub these : (i : ℕ) → IsIn i places → at d i ≡ to
  pub others : (i : ℕ) → (IsIn i places → ⊥) → at d i ≡ at c i

abbrev pub place_list : {Z : Type 0} → Vec ℕ Z → List ℕ
place_list v = v.items

-- the classes of the code, and their lists
abbrev pub class_list : Classes → List ℕ
class_list s = s.class_of.items

abbrev pub place_lists : Classes → List (List ℕ)
place_lists s = map place_list (s.places_of.items)

abbrev pub IsKept : Classes → Type 0
IsKept s = AreListed (class_list s) (place_lists s)

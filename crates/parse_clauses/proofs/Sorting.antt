-- Clauses by their sorts, in the words of the code.
use Rattle.std.proofs.Common.{◌≡◌, ◌<◌, ◌≤◌, Bool, true, false, List, [], ◌∷◌, length, map, refl, arith, append_assoc, append-nil}
use Rattle.std.specs.List.{list_all}
use Rattle.c_grammar.specs.Annots.{Item, requires_item, ensures_item, assumes_item, invariant_item, assigns_item, loop_assigns_item, decreases_item, variant_item, is_at_most_one}
use Rattle.parse_clauses.specs.declared.items.Part.{Part}
use Rattle.parse_clauses.specs.declared.items.Item as C
use Rattle.parse_clauses.specs.Views.{view_item}
use Rattle.parse_clauses.specs.Sorts.{Sorted, sorted_of, and_then, is_in}

pub one_first : (s : Sorted) (x : Item) (xs : List Item) → and_then (and_then s (sorted_of (x ∷ []))) (sorted_of xs) ≡ and_then s (sorted_of (x ∷ xs))
one_first s (requires_item c) xs = simp (append_assoc, append-nil)
one_first s (ensures_item c) xs = simp (append_assoc, append-nil)
one_first s (assumes_item c) xs = simp (append_assoc, append-nil)
one_first s (invariant_item c) xs = simp (append_assoc, append-nil)
one_first s (assigns_item a) xs = simp (append_assoc, append-nil)
one_first s (loop_assigns_item a) xs = simp (append_assoc, append-nil)
one_first s (decreases_item m) xs = simp (append_assoc, append-nil)
one_first s (variant_item m) xs = simp (append_assoc, append-nil)

pub none_first : (s : Sorted) → and_then (sorted_of []) s ≡ s
none_first s = refl

pub none_last : (s : Sorted) → and_then s (sorted_of []) ≡ s
none_last s = simp append-nil

pub single : {X : Type 0} (xs : List X) → length xs ≤ 1 → is_at_most_one xs ≡ true
single [] le = refl
single (x ∷ []) le = refl
single (x ∷ y ∷ xs) le = absurd (omega arith)

pub several : {X : Type 0} (xs : List X) → 1 < length xs → is_at_most_one xs ≡ false
several [] le = absurd (omega arith)
several (x ∷ []) le = absurd (omega arith)
several (x ∷ y ∷ xs) le = refl

pub single_viewed : {X Y : Type 0} (see : X → Y) (xs : List X) → is_at_most_one (map see xs) ≡ is_at_most_one xs
single_viewed see [] = refl
single_viewed see (x ∷ []) = refl
single_viewed see (x ∷ y ∷ xs) = refl

pub all_viewed : {X Y : Type 0} (see : X → Y) (test : Y → Bool) (xs : List X) → list_all test (map see xs) ≡ list_all (λ x. test (see x)) xs
all_viewed see test [] = refl
all_viewed see test (x ∷ xs) = rw (all_viewed see test xs) refl

-- the clauses of the code
pub all_in : (part : Part) (items : List C.Item) → list_all (is_in part) (map view_item items) ≡ list_all (λ item. is_in part (view_item item)) items
all_in part items = all_viewed view_item (is_in part) items

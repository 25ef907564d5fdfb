-- What slots hold, by places.
use Rattle.std.proofs.Common.{◌≡◌, ◌↔◌, ℕ, zero, suc, List, [], ◌∷◌, map, length, Some, slice_get, refl, sym, ◌∙◌, subst, arith}
use Rattle.std.proofs.lemmas.List.{length-map}
use Rattle.std.proofs.lemmas.Option.{none-some, same_Some}
use Rattle.walk_steps.specs.State.{at_or}
use Rattle.walk_steps.proofs.Lists.{put_length}
use Rattle.memory_steps.specs.State.{Datum, State, nothing}
use Rattle.memory_steps.specs.Step.{Change}
use Rattle.memory_steps.specs.Run.{Changed, Changes}
use Rattle.memory_words.specs.Places.{Place, Sizes, slot, slots_in, places, changes_by, HoldTheSame, ChangedBy}
use Rattle.memory_words.specs.SlotLaws.{PutsAreHeld, SlotsAreWhatPlacesHold}
use Rattle.memory_words.proofs.Lists.{put_here, put_elsewhere, mapped_at, same_lists}
use Rattle.memory_words.proofs.SlotListing.{places_count, listed, back, below, differ}

pub puts_are_held : PutsAreHeld
puts_are_held z a d st there size = record {
  here = let h = below z a there in put_here nothing st.slots (slot z a) d (omega (arith, h, size));
  elsewhere = λ b l apart. put_elsewhere nothing st.slots (slot z a) (slot z b) d (λ e. apart (differ z a b there l e));
  size = put_length st.slots (slot z a) d;
}

-- ---- changes

module _ (sts : List State) (f : Place → Change) where
  -- at each place of a list of them
  abbrev ChangedAt : List Place → (old new : List Datum) → Type 0
  ChangedAt ps xs ys = (i : ℕ) (a : Place) → slice_get ps i ≡ Some a → Changed sts (f a) (at_or nothing xs i) (at_or nothing ys i)

  changes_at : (ps : List Place) (xs ys : List Datum) → Changes sts (map f ps) xs ys → length xs ≡ length ps → length ys ≡ length ps → ChangedAt ps xs ys
  changes_at [] xs ys c k l i a e = absurd (none-some a e)
  changes_at (p ∷ ps) [] ys c k l i a e = absurd (omega (arith, k))
  changes_at (p ∷ ps) (x ∷ xs) [] c k l i a e = absurd (omega (arith, l))
  changes_at (p ∷ ps) (x ∷ xs) (y ∷ ys) c k l zero a e = subst (λ a. Changed sts (f a) x y) (same_Some p a e) c.0
  changes_at (p ∷ ps) (x ∷ xs) (y ∷ ys) c k l (suc i) a e = changes_at ps xs ys c.1 (omega (arith, k)) (omega (arith, l)) i a e

  changes_by_items : (ps : List Place) (xs ys : List Datum) → ChangedAt ps xs ys → length xs ≡ length ps → length ys ≡ length ps → Changes sts (map f ps) xs ys
  changes_by_items [] [] [] c k l = refl
  changes_by_items [] (x ∷ xs) ys c k l = absurd (omega (arith, k))
  changes_by_items [] [] (y ∷ ys) c k l = absurd (omega (arith, l))
  changes_by_items (p ∷ ps) [] ys c k l = absurd (omega (arith, k))
  changes_by_items (p ∷ ps) (x ∷ xs) [] c k l = absurd (omega (arith, l))
  changes_by_items (p ∷ ps) (x ∷ xs) (y ∷ ys) c k l =
      (c 0 p refl, changes_by_items ps xs ys (λ i a e. c (suc i) a e) (omega (arith, k)) (omega (arith, l)))

-- ---- slots

module _ (z : Sizes) where
  as_many : {n : ℕ} → n ≡ slots_in z → n ≡ length (places z)
  as_many e = e ∙ sym (places_count z)

  same : (xs ys : List Datum) → length xs ≡ slots_in z → length ys ≡ slots_in z → HoldTheSame z xs ys → xs ≡ ys
  same xs ys k l hold = same_lists nothing (places z) xs ys (as_many k) (as_many l)
      (λ i a e. let h = back z i a e in subst (λ i. at_or nothing xs i ≡ at_or nothing ys i) h.1 (hold a h.0))

  changes : (sts : List State) (f : Place → Change) (xs ys : List Datum) → length xs ≡ slots_in z → length ys ≡ slots_in z
      → Changes sts (changes_by z f) xs ys ↔ ChangedBy z sts f xs ys
  changes sts f xs ys k l = (
    λ c a there. changes_at sts f (places z) xs ys c (as_many k) (as_many l) (slot z a) a (listed z a there),
    λ c. changes_by_items sts f (places z) xs ys
        (λ i a e. let h = back z i a e in subst (λ i. Changed sts (f a) (at_or nothing xs i) (at_or nothing ys i)) h.1 (c a h.0)) (as_many k) (as_many l),
  )

pub slots_are_what_places_hold : SlotsAreWhatPlacesHold
slots_are_what_places_hold z = record {
  same = same z;
  size = λ f. length-map (places z) f ∙ places_count z;
  by = λ f a there. mapped_at f nothing (places z) (slot z a) a (listed z a there);
  changes = changes z;
}

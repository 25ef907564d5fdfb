-- Slots at the start, place by place.
use Rattle.std.proofs.Common.{◌≡◌, ℕ, zero, suc, Bool, List, [], ◌∷◌, map, length, Some, slice_get, refl, ap, ◌∙◌, subst}
use Rattle.std.proofs.lemmas.Option.{none-some, same_Some}
use Rattle.walk_steps.specs.State.{at_or}
use Rattle.memory_steps.specs.State.{Datum, number, State, Base, FitsOne, nothing}
use Rattle.memory_steps.specs.Laws.{Origin, own, fixed, IsFrom}
use Rattle.memory_words.specs.Places.{Place, Sizes, IsIn, slot, slots_in, places, held}
use Rattle.memory_words.proofs.SlotListing.{places_count, listed}

-- what an origin says of what is held
abbrev pub OriginIs : Origin → (is_memory : Bool) → Datum → Type 0
OriginIs own b d = FitsOne b d
OriginIs (fixed z) b d = d ≡ number z

module _ (bases : Place → Base) (origins : Place → Origin) where
  one_from : (o : Origin) (b : Base) (d : Datum) (bs : List Base) (os : List Origin) (ds : List Datum) → OriginIs o b.is_memory d → IsFrom bs os ds
      → IsFrom (b ∷ bs) (o ∷ os) (d ∷ ds)
  one_from own b d bs os ds h k = (h, k)
  one_from (fixed z) b d bs os ds h k = (h, k)

  from_one : (o : Origin) (b : Base) (d : Datum) (bs : List Base) (os : List Origin) (ds : List Datum) → IsFrom (b ∷ bs) (o ∷ os) (d ∷ ds)
      → OriginIs o b.is_memory d × IsFrom bs os ds
  from_one own b d bs os ds h = (h.0, h.1)
  from_one (fixed z) b d bs os ds h = (h.0, h.1)

  pub all_from : (ps : List Place) (f : Place → Datum) → ((a : Place) → OriginIs (origins a) (bases a).is_memory (f a)) → IsFrom (map bases ps) (map origins ps) (map f ps)
  all_from [] f h = tt
  all_from (a ∷ ps) f h = one_from (origins a) (bases a) (f a) (map bases ps) (map origins ps) (map f ps) (h a) (all_from ps f h)

  pub as_many : (ps : List Place) (ds : List Datum) → IsFrom (map bases ps) (map origins ps) ds → length ds ≡ length ps
  as_many [] [] h = refl
  as_many [] (d ∷ ds) h = absurd h
  as_many (a ∷ ps) [] h = absurd h
  as_many (a ∷ ps) (d ∷ ds) h = ap suc (as_many ps ds (from_one (origins a) (bases a) d (map bases ps) (map origins ps) ds h).1)

  pub from_at : (ps : List Place) (ds : List Datum) → IsFrom (map bases ps) (map origins ps) ds → (i : ℕ) (a : Place) → slice_get ps i ≡ Some a
      → OriginIs (origins a) (bases a).is_memory (at_or nothing ds i)
  from_at [] ds h i a e = absurd (none-some a e)
  from_at (c ∷ ps) [] h i a e = absurd h
  from_at (c ∷ ps) (d ∷ ds) h zero a e =
      subst (λ a. OriginIs (origins a) (bases a).is_memory d) (same_Some c a e) (from_one (origins c) (bases c) d (map bases ps) (map origins ps) ds h).0
  from_at (c ∷ ps) (d ∷ ds) h (suc i) a e = from_at ps ds (from_one (origins c) (bases c) d (map bases ps) (map origins ps) ds h).1 i a e

  module _ (z : Sizes) (st : State) (from : IsFrom (map bases (places z)) (map origins (places z)) st.slots) where
    pub size_from : length st.slots ≡ slots_in z
    size_from = as_many (places z) st.slots from ∙ places_count z

    pub held_from : (a : Place) → IsIn z a → OriginIs (origins a) (bases a).is_memory (held z st a)
    held_from a there = from_at (places z) st.slots from (slot z a) a (listed z a there)

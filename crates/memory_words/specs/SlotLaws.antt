-- What is so of places, slots and leaves.
use Rattle.std.specs.Prelude.{◌≡◌, ◌↔◌, ◌<◌, ℕ, true, false, List, [], length, Some, slice_get}
use Rattle.qed_terms.specs.Tree.{Tree}
use Rattle.qed_terms.specs.Meaning as sense
use Rattle.same_memories.specs.Alike.{Respects}
use Rattle.walk_steps.specs.State.{at_or}
use Rattle.memory_steps.specs.State.{Datum, State, state, nothing}
use Rattle.memory_steps.specs.Step.{Change}
use Rattle.memory_steps.specs.Run.{Changes}
use Rattle.memory_steps.specs.Forms.{IsForm, IsTerm, IsClaim, IsFact}
use Rattle.memory_words.specs.Places.{Place, Sizes, IsIn, slot, slots_in, places, held, number_at, memory_at, with_held, slots_by, changes_by, HoldTheSame, ChangedBy}
use Rattle.memory_words.specs.Leaves.{leaf, memory_leaf, table_leaf, leaves_of, form, number_term, memory_term, claim, fact}

-- ---- places and slots

-- Each place has a slot of its own, and each slot is that of a place, as they are listed.
pub record PlacesHaveSlots (z : Sizes) : Type 0 where
  pub size : length (places z) ≡ slots_in z
  pub listed : (a : Place) → IsIn z a → slice_get (places z) (slot z a) ≡ Some a
  pub back : (i : ℕ) (a : Place) → slice_get (places z) i ≡ Some a → IsIn z a × (slot z a ≡ i)
  pub below : (a : Place) → IsIn z a → slot z a < slots_in z
  pub differ : (a b : Place) → IsIn z a → IsIn z b → slot z a ≡ slot z b → a ≡ b

abbrev pub SlotsOfPlaces : Type 0
SlotsOfPlaces = (z : Sizes) → PlacesHaveSlots z

-- What is put in a place is held there, and the other places hold what they held.
pub record PutIs (z : Sizes) (a : Place) (d : Datum) (st : State) : Type 0 where
  pub here : held z (with_held z a d st) a ≡ d
  pub elsewhere : (b : Place) → IsIn z b → (a ≡ b → ⊥) → held z (with_held z a d st) b ≡ held z st b
  pub size : length (with_held z a d st).slots ≡ length st.slots

abbrev pub PutsAreHeld : Type 0
PutsAreHeld = (z : Sizes) (a : Place) (d : Datum) (st : State) → IsIn z a → length st.slots ≡ slots_in z → PutIs z a d st

-- Slots are what they hold at all places.
pub record SlotsAre (z : Sizes) : Type 0 where
  pub same : (xs ys : List Datum) → length xs ≡ slots_in z → length ys ≡ slots_in z → HoldTheSame z xs ys → xs ≡ ys
  pub size : (f : Place → Datum) → length (slots_by z f) ≡ slots_in z
  pub by : (f : Place → Datum) (a : Place) → IsIn z a → at_or nothing (slots_by z f) (slot z a) ≡ f a
  pub changes : (sts : List State) (f : Place → Change) (xs ys : List Datum) → length xs ≡ slots_in z → length ys ≡ slots_in z
      → Changes sts (changes_by z f) xs ys ↔ ChangedBy z sts f xs ys

abbrev pub SlotsAreWhatPlacesHold : Type 0
SlotsAreWhatPlacesHold = (z : Sizes) → SlotsAre z

-- ---- leaves

-- where no state is remembered
abbrev pub no_state : State
no_state = state [] []

-- A leaf is what is held at its place in the state that it names, the present one or one that was remembered, and so is the leaf of a table.
pub record LeavesHold (m : sense.World) (sts : List State) (l : ℕ) : Type 0 where
  pub number : (z : Sizes) (a : Place) → sense.value m (leaves_of sts) (leaf z l a) ≡ number_at z (at_or no_state sts l) a
  pub memory : (z : Sizes) (a : Place) → sense.memory (sense.meaning m (leaves_of sts) (memory_leaf z l a)) ≡ memory_at z (at_or no_state sts l) a
  pub table : sense.table (sense.meaning m (leaves_of sts) (table_leaf l)) ≡ (at_or no_state sts l).table

abbrev pub LeavesAreHeld : Type 0
LeavesAreHeld = (m : sense.World) (sts : List State) (l : ℕ) → LeavesHold m sts l

-- ---- forms

-- Whatever a term or a formula over leaves is, what is written says what is told.
pub record AreGood (m : sense.World) (t : Tree) : Type 0 where
  pub form : IsForm m (form m t)
  pub number : IsTerm m false (number_term m t)
  pub memory : IsTerm m true (memory_term m t)
  pub claim : IsClaim m (claim m t)
  pub fact : IsFact m (fact m t)

abbrev pub FormsAreGood : Type 0
FormsAreGood = (m : sense.World) → Respects m → (t : Tree) → AreGood m t

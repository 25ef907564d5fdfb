-- Runs keep the sorts of slots: where a number is held, no run puts a memory.
use Rattle.std.specs.Prelude.{◌≡◌, ℕ, false, List}
use Rattle.qed_terms.specs.Meaning as sense
use Rattle.memory_steps.specs.State.{State, Base, HasSort, HaveSorts}
use Rattle.memory_steps.specs.Step.{Step, IsGood}
use Rattle.memory_steps.specs.Run.{End, goes_on, leaves, fails, Seg}
use Rattle.memory_words.specs.Places.{Place, Sizes, IsIn, held}
use Rattle.memory_words.specs.Shapes.{FileCells, is_memory}
use Rattle.memory_words.specs.Bases.{AreSorted}

-- where it comes to a state
abbrev pub EndHasSorts : List Base → End → Type 0
EndHasSorts bases (goes_on st) = HaveSorts bases st.slots
EndHasSorts bases (leaves k st) = HaveSorts bases st.slots
EndHasSorts bases (fails i) = Unit {0}

-- A step in which all is good keeps the sorts of its slots.
abbrev pub RunsKeepSorts : Type 0
RunsKeepSorts =
    (m : sense.World) (bases : List Base) (a : Step) → IsGood m bases a → (olds : List State) (n : ℕ) (st : State) (e : End) → HaveSorts bases st.slots → Seg olds n a st e
    → EndHasSorts bases e

-- So a place that isn't that of a memory of the file holds a number.
abbrev pub SortedPlacesHoldNumbers : Type 0
SortedPlacesHoldNumbers =
    (z : Sizes) (cells : FileCells) (bases : List Base) → AreSorted z cells bases → (st : State) → HaveSorts bases st.slots → (a : Place) → IsIn z a
    → is_memory cells a ≡ false → HasSort false (held z st a)

-- Bases of slots, which hold memories or numbers.
use Rattle.std.specs.Prelude.{◌≡◌, List}
use Rattle.memory_steps.specs.State.{Base}
use Rattle.memory_steps.specs.Step.{sort_at}
use Rattle.memory_words.specs.Places.{Place, Sizes, IsIn, slot}
use Rattle.memory_words.specs.Shapes.{FileCells, is_memory}

-- bases of the sorts of their places
abbrev pub AreSorted : Sizes → FileCells → List Base → Type 0
AreSorted z cells bases = (a : Place) → IsIn z a → sort_at bases (slot z a) ≡ is_memory cells a

-- The formulas of the examples compute to those worked out by hand.
use Rattle.std.proofs.Common.{refl}
use Rattle.memory_words.specs.WordExamples.{WorkedSets}

pub worked_sets : WorkedSets
worked_sets = record { of_int = refl; of_pointer = refl; of_none = refl; within = refl; nothing_within = refl }

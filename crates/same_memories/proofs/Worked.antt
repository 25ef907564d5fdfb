-- The memories worked by hand, computed.
use Rattle.std.proofs.Common.{refl}
use Rattle.same_memories.specs.Canonical.{canonical}
use Rattle.same_memories.specs.Examples.{WorkedMemories}

pub memories_worked_by_hand : WorkedMemories
unfolding canonical
memories_worked_by_hand = record { twice = refl; zeros = refl; signs = refl }

use Rattle.memory_words.proofs.slot_laws.leaves_are_held.Goals as goal
use Rattle.memory_words.proofs.Leaves as leaves

pub returns : goal.returns
returns c = leaves.leaves_are_held

use Rattle.qed_memories.proofs.Keeps.{memories_keep}
use Rattle.qed_memories.proofs.laws.memories_keep_meaning.Goals as goal

pub returns : goal.returns
returns c = memories_keep

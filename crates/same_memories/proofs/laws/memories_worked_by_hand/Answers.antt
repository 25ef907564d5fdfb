use Rattle.same_memories.proofs.Worked.{memories_worked_by_hand}
use Rattle.same_memories.proofs.laws.memories_worked_by_hand.Goals as goal

pub returns : goal.returns
returns c = memories_worked_by_hand

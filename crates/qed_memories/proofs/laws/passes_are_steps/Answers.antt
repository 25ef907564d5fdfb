use Rattle.qed_memories.proofs.Again.{passes_are_steps}
use Rattle.qed_memories.proofs.laws.passes_are_steps.Goals as goal

pub returns : goal.returns
returns c = passes_are_steps

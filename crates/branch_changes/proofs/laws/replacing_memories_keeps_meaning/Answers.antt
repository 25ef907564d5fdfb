use Rattle.branch_changes.proofs.Stated.{replacing_memories}
use Rattle.branch_changes.proofs.laws.replacing_memories_keeps_meaning.Goals as goal

pub returns : goal.returns
returns c = replacing_memories

use Rattle.typed_memories.proofs.Ending.{growing_ends_blocks}
use Rattle.typed_memories.proofs.change_laws.growing_ends_blocks.Goals as goal

pub returns : goal.returns
returns c = growing_ends_blocks

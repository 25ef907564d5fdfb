use Rattle.typed_memories.proofs.Making.{allocations_make_blocks}
use Rattle.typed_memories.proofs.change_laws.allocations_make_blocks.Goals as goal

pub returns : goal.returns
returns c = allocations_make_blocks

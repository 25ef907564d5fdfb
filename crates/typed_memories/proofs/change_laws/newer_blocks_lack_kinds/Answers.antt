use Rattle.typed_memories.proofs.Alone.{newer_blocks_lack_kinds}
use Rattle.typed_memories.proofs.change_laws.newer_blocks_lack_kinds.Goals as goal

pub returns : goal.returns
returns c = newer_blocks_lack_kinds

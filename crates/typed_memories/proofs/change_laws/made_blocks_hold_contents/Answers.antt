use Rattle.typed_memories.proofs.Filling.{made_blocks_hold_contents}
use Rattle.typed_memories.proofs.change_laws.made_blocks_hold_contents.Goals as goal

pub returns : goal.returns
returns c = made_blocks_hold_contents

use Rattle.typed_memories.proofs.Ending.{standing_blocks_stay}
use Rattle.typed_memories.proofs.change_laws.standing_blocks_stay.Goals as goal

pub returns : goal.returns
returns c = standing_blocks_stay

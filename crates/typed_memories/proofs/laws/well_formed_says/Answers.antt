use Rattle.typed_memories.proofs.Formed.{well_formed_says}
use Rattle.typed_memories.proofs.laws.well_formed_says.Goals as goal

pub returns : goal.returns
returns c = well_formed_says

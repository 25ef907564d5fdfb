use Rattle.typed_memories.proofs.Listing.{states_have_memories}
use Rattle.typed_memories.proofs.laws.states_have_memories.Goals as goal

pub returns : goal.returns
returns c = states_have_memories

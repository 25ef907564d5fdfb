use Rattle.typed_memories.proofs.Listing.{clean_has_memories}
use Rattle.typed_memories.proofs.laws.clean_has_memories.Goals as goal

pub returns : goal.returns
returns c = clean_has_memories

use Rattle.same_memories.proofs.Listing.{canonical_is_canonical}
use Rattle.same_memories.proofs.laws.canonical_is_canonical.Goals as goal

pub returns : goal.returns
returns c = canonical_is_canonical

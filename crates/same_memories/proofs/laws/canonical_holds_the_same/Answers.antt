use Rattle.same_memories.proofs.Listing.{canonical_holds_the_same}
use Rattle.same_memories.proofs.laws.canonical_holds_the_same.Goals as goal

pub returns : goal.returns
returns c = canonical_holds_the_same

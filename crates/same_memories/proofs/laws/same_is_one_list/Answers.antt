use Rattle.same_memories.proofs.Listing.{same_is_one_list}
use Rattle.same_memories.proofs.laws.same_is_one_list.Goals as goal

pub returns : goal.returns
returns c = same_is_one_list

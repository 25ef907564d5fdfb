use Rattle.same_memories.proofs.Listing.{one_list_for_each_map}
use Rattle.same_memories.proofs.laws.one_list_for_each_map.Goals as goal

pub returns : goal.returns
returns c = one_list_for_each_map

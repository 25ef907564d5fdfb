use Rattle.typed_memories.proofs.Sets.{regions_are_sets}
use Rattle.typed_memories.proofs.change_laws.regions_are_sets.Goals as goal

pub returns : goal.returns
returns c = regions_are_sets

use Rattle.typed_memories.proofs.Entries.{maps_are}
use Rattle.typed_memories.proofs.laws.maps_say.Goals as goal

pub returns : goal.returns
returns c = maps_are

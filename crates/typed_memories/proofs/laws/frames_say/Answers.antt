use Rattle.typed_memories.proofs.Stated.{frames_say}
use Rattle.typed_memories.proofs.laws.frames_say.Goals as goal

pub returns : goal.returns
returns c = frames_say

use Rattle.typed_memories.proofs.Framing.{frames_are_changes}
use Rattle.typed_memories.proofs.change_laws.frames_are_changes.Goals as goal

pub returns : goal.returns
returns c = frames_are_changes

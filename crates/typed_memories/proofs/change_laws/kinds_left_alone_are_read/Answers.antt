use Rattle.typed_memories.proofs.Alone.{kinds_left_alone_are_read}
use Rattle.typed_memories.proofs.change_laws.kinds_left_alone_are_read.Goals as goal

pub returns : goal.returns
returns c = kinds_left_alone_are_read

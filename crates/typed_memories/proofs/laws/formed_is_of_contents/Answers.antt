use Rattle.typed_memories.proofs.Stated.{formed_is_of_contents}
use Rattle.typed_memories.proofs.laws.formed_is_of_contents.Goals as goal

pub returns : goal.returns
returns c = formed_is_of_contents

use Rattle.typed_memories.proofs.Stated.{formed_decode_well}
use Rattle.typed_memories.proofs.laws.formed_decode_well.Goals as goal

pub returns : goal.returns
returns c = formed_decode_well

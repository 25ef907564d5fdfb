use Rattle.typed_memories.proofs.Decoding.{loads_agree}
use Rattle.typed_memories.proofs.laws.loads_agree.Goals as goal

pub returns : goal.returns
returns c = loads_agree

use Rattle.typed_memories.proofs.Storing.{stores_agree}
use Rattle.typed_memories.proofs.laws.stores_agree.Goals as goal

pub returns : goal.returns
returns c = stores_agree

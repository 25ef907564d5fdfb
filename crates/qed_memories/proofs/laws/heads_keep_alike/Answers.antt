use Rattle.qed_memories.proofs.Congruence.{heads_keep_alike}
use Rattle.qed_memories.proofs.laws.heads_keep_alike.Goals as goal

pub returns : goal.returns
returns c = heads_keep_alike

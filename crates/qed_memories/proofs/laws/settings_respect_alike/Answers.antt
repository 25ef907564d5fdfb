use Rattle.qed_memories.proofs.Congruence.{settings_respect}
use Rattle.qed_memories.proofs.laws.settings_respect_alike.Goals as goal

pub returns : goal.returns
returns c = settings_respect

use Rattle.same_memories.proofs.Functions.{settings_respect}
use Rattle.same_memories.proofs.laws.settings_respect.Goals as goal

pub returns : goal.returns
returns c = settings_respect

use Rattle.memory_words.proofs.Branches.{behind_dropped}
use Rattle.memory_words.proofs.put_laws.behind_dropped.Goals as goal

pub returns : goal.returns
returns c = behind_dropped

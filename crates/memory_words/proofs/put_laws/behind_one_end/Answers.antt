use Rattle.memory_words.proofs.Ends.{behind_one_end}
use Rattle.memory_words.proofs.put_laws.behind_one_end.Goals as goal

pub returns : goal.returns
returns c = behind_one_end

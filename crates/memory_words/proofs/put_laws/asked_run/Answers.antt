use Rattle.memory_words.proofs.Ends.{asked_run}
use Rattle.memory_words.proofs.put_laws.asked_run.Goals as goal

pub returns : goal.returns
returns c = asked_run

use Rattle.memory_words.proofs.Singles.{singles_run}
use Rattle.memory_words.proofs.put_laws.singles_run.Goals as goal

pub returns : goal.returns
returns c = singles_run

use Rattle.memory_words.proofs.Singles.{singles_are_runs}
use Rattle.memory_words.proofs.put_laws.singles_are_runs.Goals as goal

pub returns : goal.returns
returns c = singles_are_runs

use Rattle.memory_words.proofs.Setting.{results_are_set}
use Rattle.memory_words.proofs.put_laws.results_are_set.Goals as goal

pub returns : goal.returns
returns c = results_are_set

use Rattle.memory_words.proofs.Setting.{globals_are_set}
use Rattle.memory_words.proofs.put_laws.globals_are_set.Goals as goal

pub returns : goal.returns
returns c = globals_are_set

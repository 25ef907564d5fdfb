use Rattle.memory_words.proofs.Setting.{locals_are_set}
use Rattle.memory_words.proofs.put_laws.locals_are_set.Goals as goal

pub returns : goal.returns
returns c = locals_are_set

use Rattle.memory_words.proofs.Setting.{values_are_assigned}
use Rattle.memory_words.proofs.put_laws.values_are_assigned.Goals as goal

pub returns : goal.returns
returns c = values_are_assigned

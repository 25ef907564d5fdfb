use Rattle.memory_words.proofs.Setting.{temporaries_are_set}
use Rattle.memory_words.proofs.put_laws.temporaries_are_set.Goals as goal

pub returns : goal.returns
returns c = temporaries_are_set

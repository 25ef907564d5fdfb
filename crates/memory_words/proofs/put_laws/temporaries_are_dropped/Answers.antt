use Rattle.memory_words.proofs.Setting.{temporaries_are_dropped}
use Rattle.memory_words.proofs.put_laws.temporaries_are_dropped.Goals as goal

pub returns : goal.returns
returns c = temporaries_are_dropped

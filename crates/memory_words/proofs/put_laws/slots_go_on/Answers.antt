use Rattle.memory_words.proofs.PutStanding.{slots_go_on}
use Rattle.memory_words.proofs.put_laws.slots_go_on.Goals as goal

pub returns : goal.returns
returns c = slots_go_on

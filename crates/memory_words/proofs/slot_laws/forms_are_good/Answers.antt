use Rattle.memory_words.proofs.slot_laws.forms_are_good.Goals as goal
use Rattle.memory_words.proofs.Filling as filling

pub returns : goal.returns
returns c = filling.forms_are_good

use Rattle.memory_words.proofs.WordWorked.{worked_sets}
use Rattle.memory_words.proofs.word_laws.sets_worked_by_hand.Goals as goal

pub returns : goal.returns
returns c = worked_sets

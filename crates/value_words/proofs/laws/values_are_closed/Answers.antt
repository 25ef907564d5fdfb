use Rattle.value_words.proofs.laws.values_are_closed.Goals as goal
use Rattle.value_words.proofs.Closing as closing

pub returns : goal.returns
returns c = closing.values_are_closed

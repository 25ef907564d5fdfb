use Rattle.memory_steps.proofs.laws.exits_end.Goals as goal
use Rattle.memory_steps.proofs.Words as words

pub returns : goal.returns
returns c = words.exits_end

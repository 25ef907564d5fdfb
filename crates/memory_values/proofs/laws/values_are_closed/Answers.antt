use Rattle.memory_values.proofs.laws.values_are_closed.Goals as goal
use Rattle.memory_values.proofs.Closing as closing

pub returns : goal.returns
returns c = closing.values_are_closed

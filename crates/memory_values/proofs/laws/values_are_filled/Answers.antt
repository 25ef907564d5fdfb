use Rattle.memory_values.proofs.laws.values_are_filled.Goals as goal
use Rattle.memory_values.proofs.Filled as filled

pub returns : goal.returns
returns c = filled.values_are_filled

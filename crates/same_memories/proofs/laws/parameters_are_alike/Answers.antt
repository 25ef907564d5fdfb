use Rattle.same_memories.proofs.Functions.{parameters_are_alike}
use Rattle.same_memories.proofs.laws.parameters_are_alike.Goals as goal

pub returns : goal.returns
returns c = parameters_are_alike

use Rattle.typed_memories.proofs.Arguments.{parameters_hold_arguments}
use Rattle.typed_memories.proofs.change_laws.parameters_hold_arguments.Goals as goal

pub returns : goal.returns
returns c = parameters_hold_arguments

use Rattle.memory_fitting.proofs.Typing.{operands_stay_typed}
use Rattle.memory_fitting.proofs.laws.operands_stay_typed.Goals as goal

pub returns : goal.returns
returns c = operands_stay_typed

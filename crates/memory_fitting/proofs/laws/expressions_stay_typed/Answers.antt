use Rattle.memory_fitting.proofs.Typing.{expressions_stay_typed}
use Rattle.memory_fitting.proofs.laws.expressions_stay_typed.Goals as goal

pub returns : goal.returns
returns c = expressions_stay_typed

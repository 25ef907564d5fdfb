use Rattle.typed_values.proofs.Typing.{operands_are_typed}
use Rattle.typed_values.proofs.laws.operands_are_typed.Goals as goal

pub returns : goal.returns
returns c = operands_are_typed

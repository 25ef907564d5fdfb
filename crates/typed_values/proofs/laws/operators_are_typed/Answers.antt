use Rattle.typed_values.proofs.Typing.{operators_are_typed}
use Rattle.typed_values.proofs.laws.operators_are_typed.Goals as goal

pub returns : goal.returns
returns c = operators_are_typed

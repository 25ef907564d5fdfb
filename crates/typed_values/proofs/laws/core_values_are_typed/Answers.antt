use Rattle.typed_values.proofs.Typing.{core_values_are_typed}
use Rattle.typed_values.proofs.laws.core_values_are_typed.Goals as goal

pub returns : goal.returns
returns c = core_values_are_typed

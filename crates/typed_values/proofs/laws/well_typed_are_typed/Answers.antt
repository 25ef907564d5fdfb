use Rattle.typed_values.proofs.Typing.{well_typed_are_typed}
use Rattle.typed_values.proofs.laws.well_typed_are_typed.Goals as goal

pub returns : goal.returns
returns c = well_typed_are_typed

use Rattle.typed_values.proofs.Reading.{changed_are_typed}
use Rattle.typed_values.proofs.laws.changed_are_typed.Goals as goal

pub returns : goal.returns
returns c = changed_are_typed

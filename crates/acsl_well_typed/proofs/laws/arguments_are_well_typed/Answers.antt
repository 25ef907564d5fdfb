use Rattle.acsl_well_typed.proofs.Terms.{arguments_are_well_typed}
use Rattle.acsl_well_typed.proofs.laws.arguments_are_well_typed.Goals as goal

pub returns : goal.returns
returns c = arguments_are_well_typed

use Rattle.acsl_well_typed.proofs.Bodies.{definitions_are_well_typed}
use Rattle.acsl_well_typed.proofs.laws.definitions_are_well_typed.Goals as goal

pub returns : goal.returns
returns c = definitions_are_well_typed

use Rattle.acsl_same_meaning.proofs.Whole.{definitions_are_well_formed}
use Rattle.acsl_same_meaning.proofs.laws.definitions_are_well_formed.Goals as goal

pub returns : goal.returns
returns c = definitions_are_well_formed

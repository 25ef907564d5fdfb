use Rattle.value_terms.proofs.Places.{operands_are_well_formed}
use Rattle.value_terms.proofs.laws.operands_are_well_formed.Goals as goal

pub returns : goal.returns
returns c = operands_are_well_formed

use Rattle.value_terms.proofs.Places.{operands_are_meant}
use Rattle.value_terms.proofs.laws.operands_are_meant.Goals as goal

pub returns : goal.returns
returns c = operands_are_meant

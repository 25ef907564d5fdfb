use Rattle.value_terms.proofs.Staying.{values_are_of_kind}
use Rattle.value_terms.proofs.laws.values_are_of_kind.Goals as goal

pub returns : goal.returns
returns c = values_are_of_kind

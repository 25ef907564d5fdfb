use Rattle.acsl_same_meaning.proofs.Operators.{operators_keep}
use Rattle.acsl_same_meaning.proofs.laws.operators_keep.Goals as goal

pub returns : goal.returns
returns c = operators_keep

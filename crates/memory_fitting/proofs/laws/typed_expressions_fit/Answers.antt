use Rattle.memory_fitting.proofs.Valued.{typed_expressions_fit}
use Rattle.memory_fitting.proofs.laws.typed_expressions_fit.Goals as goal

pub returns : goal.returns
returns c = typed_expressions_fit

use Rattle.memory_fitting.proofs.Variables.{typed_variables_fit}
use Rattle.memory_fitting.proofs.laws.typed_variables_fit.Goals as goal

pub returns : goal.returns
returns c = typed_variables_fit

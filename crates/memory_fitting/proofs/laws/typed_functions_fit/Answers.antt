use Rattle.memory_fitting.proofs.Whole.{typed_functions_fit}
use Rattle.memory_fitting.proofs.laws.typed_functions_fit.Goals as goal

pub returns : goal.returns
returns c = typed_functions_fit

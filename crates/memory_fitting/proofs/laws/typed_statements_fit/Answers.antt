use Rattle.memory_fitting.proofs.Stated.{typed_statements_fit}
use Rattle.memory_fitting.proofs.laws.typed_statements_fit.Goals as goal

pub returns : goal.returns
returns c = typed_statements_fit

use Rattle.acsl_encode.proofs.Fitted.{formulas_fit}
use Rattle.acsl_encode.proofs.laws.formulas_fit.Goals as goal

pub returns : goal.returns
returns c = formulas_fit

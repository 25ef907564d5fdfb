use Rattle.acsl_encode.proofs.Formulas.{formulas_mean}
use Rattle.acsl_encode.proofs.laws.formulas_mean.Goals as goal

pub returns : goal.returns
returns c = formulas_mean

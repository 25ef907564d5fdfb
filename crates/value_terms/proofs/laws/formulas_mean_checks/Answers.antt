use Rattle.value_terms.proofs.Meaning.{formulas_mean_checks}
use Rattle.value_terms.proofs.laws.formulas_mean_checks.Goals as goal

pub returns : goal.returns
returns c = formulas_mean_checks

use Rattle.value_terms.proofs.Meaning.{terms_mean_values}
use Rattle.value_terms.proofs.laws.terms_mean_values.Goals as goal

pub returns : goal.returns
returns c = terms_mean_values

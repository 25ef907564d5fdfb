use Rattle.acsl_rules.proofs.Terms.{terms_fit}
use Rattle.acsl_rules.proofs.laws.terms_fit.Goals as goal

pub returns : goal.returns
returns c = terms_fit

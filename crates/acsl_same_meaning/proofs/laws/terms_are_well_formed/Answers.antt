use Rattle.acsl_same_meaning.proofs.Terms.{terms_are_well_formed}
use Rattle.acsl_same_meaning.proofs.laws.terms_are_well_formed.Goals as goal

pub returns : goal.returns
returns c = terms_are_well_formed

use Rattle.acsl_well_typed.proofs.Terms.{terms_are_well_typed}
use Rattle.acsl_well_typed.proofs.laws.terms_are_well_typed.Goals as goal

pub returns : goal.returns
returns c = terms_are_well_typed

use Rattle.acsl_binders.proofs.Typed.{spelled_programs_are_well_typed}
use Rattle.acsl_binders.proofs.laws.spelled_programs_are_well_typed.Goals as goal

pub returns : goal.returns
returns c = spelled_programs_are_well_typed

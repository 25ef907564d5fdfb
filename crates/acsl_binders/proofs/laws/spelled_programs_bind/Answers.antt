use Rattle.acsl_binders.proofs.Decls.{spelled_programs_bind}
use Rattle.acsl_binders.proofs.laws.spelled_programs_bind.Goals as goal

pub returns : goal.returns
returns c = spelled_programs_bind

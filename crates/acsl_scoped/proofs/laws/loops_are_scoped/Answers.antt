use Rattle.acsl_scoped.proofs.Regions.{loops_are_scoped}
use Rattle.acsl_scoped.proofs.laws.loops_are_scoped.Goals as goal

pub returns : goal.returns
returns c = loops_are_scoped

use Rattle.c_runs.proofs.Ranging.{ranges_say}
use Rattle.c_runs.proofs.truth_laws.ranges_say.Goals as goal

pub returns : goal.returns
returns c = ranges_say

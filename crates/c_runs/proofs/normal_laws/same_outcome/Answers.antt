use Rattle.c_runs.proofs.Outcomes.{same_outcome}
use Rattle.c_runs.proofs.normal_laws.same_outcome.Goals as goal

pub returns : goal.returns
returns c = same_outcome

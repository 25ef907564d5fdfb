use Rattle.normal_programs.proofs.Outcomes.{core_runs_as_spelled}
use Rattle.normal_programs.proofs.laws.core_runs_as_spelled.Goals as goal

pub returns : goal.returns
returns c = core_runs_as_spelled

use Rattle.typed_runs.proofs.Whole.{runs_leave_well}
use Rattle.typed_runs.proofs.laws.runs_leave_well.Goals as goal

pub returns : goal.returns
returns c = runs_leave_well

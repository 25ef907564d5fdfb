use Rattle.run_changes.proofs.Runs.{core_runs_change_what_they_may}
use Rattle.run_changes.proofs.laws.core_runs_change_what_they_may.Goals as goal

pub returns : goal.returns
returns c = core_runs_change_what_they_may

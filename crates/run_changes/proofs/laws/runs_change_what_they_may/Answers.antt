use Rattle.run_changes.proofs.Runs.{runs_change_what_they_may}
use Rattle.run_changes.proofs.laws.runs_change_what_they_may.Goals as goal

pub returns : goal.returns
returns c = runs_change_what_they_may

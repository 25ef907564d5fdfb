use Rattle.run_changes.proofs.Promises.{core_runs_keep_promises}
use Rattle.run_changes.proofs.laws.core_runs_keep_promises.Goals as goal

pub returns : goal.returns
returns c = core_runs_keep_promises

use Rattle.run_changes.proofs.Promises.{runs_keep_promises}
use Rattle.run_changes.proofs.laws.runs_keep_promises.Goals as goal

pub returns : goal.returns
returns c = runs_keep_promises

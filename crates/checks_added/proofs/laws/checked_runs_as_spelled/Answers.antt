use Rattle.checks_added.proofs.Outcomes.{checks_run_as_spelled}
use Rattle.checks_added.proofs.laws.checked_runs_as_spelled.Goals as goal

pub returns : goal.returns
returns c = checks_run_as_spelled

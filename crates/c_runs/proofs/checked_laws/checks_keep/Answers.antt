use Rattle.c_runs.proofs.Running.{checks_keep}
use Rattle.c_runs.proofs.checked_laws.checks_keep.Goals as goal

pub returns : goal.returns
returns c = checks_keep

use Rattle.c_runs.proofs.Changing.{changes_add}
use Rattle.c_runs.proofs.truth_laws.changes_add.Goals as goal

pub returns : goal.returns
returns c = changes_add

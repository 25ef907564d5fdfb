use Rattle.test_runs.proofs.KindRuns.{on_kinds}
use Rattle.test_runs.proofs.laws.runs_on_kinds.Goals as goal

pub returns : goal.returns
returns c = on_kinds

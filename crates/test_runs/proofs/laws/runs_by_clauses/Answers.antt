use Rattle.test_runs.proofs.ClauseRuns.{on_clauses}
use Rattle.test_runs.proofs.laws.runs_by_clauses.Goals as goal

pub returns : goal.returns
returns c = on_clauses

use Rattle.memory_calls.proofs.Runs as runs
use Rattle.memory_calls.proofs.havoc_laws.havoc_runs.Goals as goal

pub returns : goal.returns
returns c = runs.havoc_runs

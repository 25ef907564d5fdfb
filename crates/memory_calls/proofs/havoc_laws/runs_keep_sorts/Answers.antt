use Rattle.memory_calls.proofs.Sorts as sorts
use Rattle.memory_calls.proofs.havoc_laws.runs_keep_sorts.Goals as goal

pub returns : goal.returns
returns c = sorts.runs_keep_sorts

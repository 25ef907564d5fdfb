use Rattle.memory_calls.proofs.HavocStaying as staying
use Rattle.memory_calls.proofs.havoc_laws.stays_mean.Goals as goal

pub returns : goal.returns
returns c = staying.stays_mean

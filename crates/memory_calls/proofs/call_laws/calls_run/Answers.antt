use Rattle.memory_calls.proofs.call_laws.calls_run.Goals as goal
use Rattle.memory_calls.proofs.Calls as proof

pub returns : goal.returns
returns c = proof.calls_run

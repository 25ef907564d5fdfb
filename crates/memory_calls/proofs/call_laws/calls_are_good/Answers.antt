use Rattle.memory_calls.proofs.call_laws.calls_are_good.Goals as goal
use Rattle.memory_calls.proofs.CallGood as proof

pub returns : goal.returns
returns c = proof.calls_are_good

use Rattle.memory_calls.proofs.loop_laws.loops_are_good.Goals as goal
use Rattle.memory_calls.proofs.LoopGood as proof

pub returns : goal.returns
returns c = proof.loops_are_good

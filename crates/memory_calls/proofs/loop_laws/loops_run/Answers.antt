use Rattle.memory_calls.proofs.loop_laws.loops_run.Goals as goal
use Rattle.memory_calls.proofs.Loops as proof

pub returns : goal.returns
returns c = proof.loops_run

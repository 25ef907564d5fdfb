use Rattle.loop_words.proofs.laws.loops_run.Goals as goal
use Rattle.loop_words.proofs.Loops as proof

pub returns : goal.returns
returns c = proof.loops_run

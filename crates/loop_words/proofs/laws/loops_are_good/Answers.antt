use Rattle.loop_words.proofs.laws.loops_are_good.Goals as goal
use Rattle.loop_words.proofs.Good as proof

pub returns : goal.returns
returns c = proof.loops_are_good

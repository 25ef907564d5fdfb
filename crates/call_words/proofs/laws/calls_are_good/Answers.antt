use Rattle.call_words.proofs.laws.calls_are_good.Goals as goal
use Rattle.call_words.proofs.Good as proof

pub returns : goal.returns
returns c = proof.calls_are_good

use Rattle.call_words.proofs.laws.examples_hold.Goals as goal
use Rattle.call_words.proofs.Worked as proof

pub returns : goal.returns
returns c = proof.examples_hold

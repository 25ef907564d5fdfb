use Rattle.program_goals.proofs.laws.segments_are_words.Goals as goal
use Rattle.program_goals.proofs.Runs as proof

pub returns : goal.returns
returns c = proof.segments_are_words

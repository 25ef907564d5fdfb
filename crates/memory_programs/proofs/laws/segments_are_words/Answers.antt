use Rattle.memory_programs.proofs.laws.segments_are_words.Goals as goal
use Rattle.memory_programs.proofs.Runs as proof

pub returns : goal.returns
returns c = proof.segments_are_words

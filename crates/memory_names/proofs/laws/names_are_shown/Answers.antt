use Rattle.memory_names.proofs.laws.names_are_shown.Goals as goal
use Rattle.memory_names.proofs.Spelled as proof

pub returns : goal.returns
returns c = proof.names_are_shown

use Rattle.memory_functions.proofs.good_laws.calls_are_good.Goals as goal
use Rattle.memory_functions.proofs.Receiving as proof

pub returns : goal.returns
returns c = proof.calls_are_good

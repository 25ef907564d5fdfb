use Rattle.memory_functions.proofs.good_laws.calls_stay.Goals as goal
use Rattle.memory_functions.proofs.Calling as proof

pub returns : goal.returns
returns c = proof.calls_stay

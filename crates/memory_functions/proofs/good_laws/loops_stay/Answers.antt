use Rattle.memory_functions.proofs.good_laws.loops_stay.Goals as goal
use Rattle.memory_functions.proofs.Calling as proof

pub returns : goal.returns
returns c = proof.loops_stay

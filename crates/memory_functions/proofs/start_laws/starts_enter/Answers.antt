use Rattle.memory_functions.proofs.start_laws.starts_enter.Goals as goal
use Rattle.memory_functions.proofs.Entering as proof

pub returns : goal.returns
returns c = proof.starts_enter

use Rattle.memory_functions.proofs.start_laws.entries_start.Goals as goal
use Rattle.memory_functions.proofs.Starting as proof

pub returns : goal.returns
returns c = proof.entries_start

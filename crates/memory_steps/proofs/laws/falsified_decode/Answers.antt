use Rattle.memory_steps.proofs.laws.falsified_decode.Goals as goal
use Rattle.memory_steps.proofs.Exact as exact

pub returns : goal.returns
returns c = exact.falsified_decode

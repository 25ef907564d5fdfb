use Rattle.walk_steps.proofs.laws.falsified_decode.Goals as goal
use Rattle.walk_steps.proofs.Exact as exact

-- src/laws.rt:25:1
pub returns : goal.returns
returns c = exact.falsified_decode

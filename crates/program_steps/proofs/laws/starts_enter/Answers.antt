use Rattle.program_steps.proofs.laws.starts_enter.Goals as goal
use Rattle.program_steps.proofs.Entering as proof

pub returns : goal.returns
returns c = proof.starts_enter

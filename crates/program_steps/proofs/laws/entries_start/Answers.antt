use Rattle.program_steps.proofs.laws.entries_start.Goals as goal
use Rattle.program_steps.proofs.Sufficing as proof

pub returns : goal.returns
returns c = proof.entries_start

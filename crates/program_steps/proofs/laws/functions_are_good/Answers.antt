use Rattle.program_steps.proofs.laws.functions_are_good.Goals as goal
use Rattle.program_steps.proofs.Good as proof

pub returns : goal.returns
returns c = proof.functions_are_good

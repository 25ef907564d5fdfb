use Rattle.program_goals.proofs.laws.example_goals.Goals as goal
use Rattle.program_goals.proofs.Worked as proof

pub returns : goal.returns
returns c = proof.example_goals

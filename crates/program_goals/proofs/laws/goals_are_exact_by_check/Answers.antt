use Rattle.program_goals.proofs.laws.goals_are_exact_by_check.Goals as goal
use Rattle.program_goals.proofs.Checks as proof

pub returns : goal.returns
returns c = proof.goals_are_exact_by_check

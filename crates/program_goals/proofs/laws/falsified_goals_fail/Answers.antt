use Rattle.program_goals.proofs.laws.falsified_goals_fail.Goals as goal
use Rattle.program_goals.proofs.Exact as proof

pub returns : goal.returns
returns c = proof.falsified_goals_fail

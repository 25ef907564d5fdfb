use Rattle.memory_programs.proofs.laws.falsified_goals_fail.Goals as goal
use Rattle.memory_programs.proofs.Exact as proof

pub returns : goal.returns
returns c = proof.falsified_goals_fail

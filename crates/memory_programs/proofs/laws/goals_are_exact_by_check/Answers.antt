use Rattle.memory_programs.proofs.laws.goals_are_exact_by_check.Goals as goal
use Rattle.memory_programs.proofs.Exact as proof

pub returns : goal.returns
returns c = proof.goals_are_exact_by_check

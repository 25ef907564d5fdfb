use Rattle.memory_programs.proofs.laws.valid_goals_suffice.Goals as goal
use Rattle.memory_programs.proofs.Runs as proof

pub returns : goal.returns
returns c = proof.valid_goals_suffice

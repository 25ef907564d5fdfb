use Rattle.memory_programs.proofs.laws.stops_have_goals.Goals as goal
use Rattle.memory_programs.proofs.Exact as proof

pub returns : goal.returns
returns c = proof.stops_have_goals

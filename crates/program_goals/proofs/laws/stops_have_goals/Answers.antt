use Rattle.program_goals.proofs.laws.stops_have_goals.Goals as goal
use Rattle.program_goals.proofs.Checks as proof

pub returns : goal.returns
returns c = proof.stops_have_goals

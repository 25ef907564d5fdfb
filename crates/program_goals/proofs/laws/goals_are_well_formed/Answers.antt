use Rattle.program_goals.proofs.laws.goals_are_well_formed.Goals as goal
use Rattle.program_goals.proofs.Texts as proof

pub returns : goal.returns
returns c = proof.goals_are_well_formed

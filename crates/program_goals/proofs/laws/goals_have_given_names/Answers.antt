use Rattle.program_goals.proofs.laws.goals_have_given_names.Goals as goal
use Rattle.program_goals.proofs.Texts as proof

pub returns : goal.returns
returns c = proof.goals_have_given_names

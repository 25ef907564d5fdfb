use Rattle.plain_goals.proofs.laws.goals_of_texts_are_exact.Goals as goal
use Rattle.plain_goals.proofs.Whole as proof

pub returns : goal.returns
returns c = proof.goals_of_texts_are_exact

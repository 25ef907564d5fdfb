use Rattle.plain_goals.proofs.laws.plain_texts_have_goals.Goals as goal
use Rattle.plain_goals.proofs.Files as proof

pub returns : goal.returns
returns c = proof.plain_texts_have_goals

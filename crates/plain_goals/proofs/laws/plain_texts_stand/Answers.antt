use Rattle.plain_goals.proofs.Standing as proof
use Rattle.plain_goals.proofs.laws.plain_texts_stand.Goals as goal

pub returns : goal.returns
returns c = proof.plain_texts_stand

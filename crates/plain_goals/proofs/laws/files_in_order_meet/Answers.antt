use Rattle.plain_goals.proofs.laws.files_in_order_meet.Goals as goal
use Rattle.plain_goals.proofs.Files as proof

pub returns : goal.returns
returns c = proof.files_in_order_meet

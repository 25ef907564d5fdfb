use Rattle.plain_goals.proofs.laws.files_without_recursion_meet.Goals as goal
use Rattle.plain_goals.proofs.Files as proof

pub returns : goal.returns
returns c = proof.files_without_recursion_meet

use Rattle.plain_annotations.proofs.laws.operands_are_open.Goals as goal
use Rattle.plain_annotations.proofs.Arguments as proof

pub returns : goal.returns
returns c = proof.operands_are_open

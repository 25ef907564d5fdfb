use Rattle.plain_annotations.proofs.laws.promises_fit.Goals as goal
use Rattle.plain_annotations.proofs.Claims as proof

pub returns : goal.returns
returns c = proof.promises_fit

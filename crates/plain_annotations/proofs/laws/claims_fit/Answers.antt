use Rattle.plain_annotations.proofs.laws.claims_fit.Goals as goal
use Rattle.plain_annotations.proofs.Claims as proof

pub returns : goal.returns
returns c = proof.claims_fit

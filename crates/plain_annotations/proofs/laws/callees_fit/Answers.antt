use Rattle.plain_annotations.proofs.laws.callees_fit.Goals as goal
use Rattle.plain_annotations.proofs.Callees as proof

pub returns : goal.returns
returns c = proof.callees_fit

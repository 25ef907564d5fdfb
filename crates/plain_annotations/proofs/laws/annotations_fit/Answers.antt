use Rattle.plain_annotations.proofs.laws.annotations_fit.Goals as goal
use Rattle.plain_annotations.proofs.Fits as proof

pub returns : goal.returns
returns c = proof.annotations_fit

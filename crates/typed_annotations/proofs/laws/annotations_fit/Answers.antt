use Rattle.typed_annotations.proofs.Fits.{annotations_fit}
use Rattle.typed_annotations.proofs.laws.annotations_fit.Goals as goal

pub returns : goal.returns
returns c = annotations_fit

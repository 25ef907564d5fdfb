use Rattle.annotations_encoded.proofs.Annotations.{annotations_are_encoded}
use Rattle.annotations_encoded.proofs.laws.annotations_are_encoded.Goals as goal

pub returns : goal.returns
returns c = annotations_are_encoded

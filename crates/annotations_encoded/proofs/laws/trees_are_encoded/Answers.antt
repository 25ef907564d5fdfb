use Rattle.annotations_encoded.proofs.Encoded.{trees_are_encoded}
use Rattle.annotations_encoded.proofs.laws.trees_are_encoded.Goals as goal

pub returns : goal.returns
returns c = trees_are_encoded

use Rattle.annotations_encoded.proofs.Examples.{examples_hold}
use Rattle.annotations_encoded.proofs.laws.examples_hold.Goals as goal

pub returns : goal.returns
returns c = examples_hold

use Rattle.annotations_encoded.proofs.Bodies.{bodies_are_encoded}
use Rattle.annotations_encoded.proofs.laws.bodies_are_encoded.Goals as goal

pub returns : goal.returns
returns c = bodies_are_encoded

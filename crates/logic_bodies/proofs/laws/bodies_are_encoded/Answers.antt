use Rattle.logic_bodies.proofs.Encoded.{bodies_are_encoded}
use Rattle.logic_bodies.proofs.laws.bodies_are_encoded.Goals as goal

pub returns : goal.returns
returns c = bodies_are_encoded

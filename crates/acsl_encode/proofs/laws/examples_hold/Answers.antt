use Rattle.acsl_encode.proofs.Examples.{examples_hold}
use Rattle.acsl_encode.proofs.laws.examples_hold.Goals as goal

pub returns : goal.returns
returns c = examples_hold

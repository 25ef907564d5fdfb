use Rattle.logic_order.proofs.Examples.{examples_hold}
use Rattle.logic_order.proofs.laws.examples_hold.Goals as goal

pub returns : goal.returns
returns c = examples_hold

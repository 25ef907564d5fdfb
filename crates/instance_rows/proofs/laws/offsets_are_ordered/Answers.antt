use Rattle.instance_rows.proofs.Orders.{offsets_valid}
use Rattle.instance_rows.proofs.laws.offsets_are_ordered.Goals as goal

pub returns : goal.returns
returns c = offsets_valid

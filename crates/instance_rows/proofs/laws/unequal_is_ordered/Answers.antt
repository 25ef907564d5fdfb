use Rattle.instance_rows.proofs.Orders.{unequal_follows}
use Rattle.instance_rows.proofs.laws.unequal_is_ordered.Goals as goal

pub returns : goal.returns
returns c = unequal_follows

use Rattle.logic_order.proofs.Ordered.{files_in_order}
use Rattle.logic_order.proofs.laws.files_in_order.Goals as goal

pub returns : goal.returns
returns c = files_in_order

use Rattle.logic_order.proofs.Ordered.{functions_take}
use Rattle.logic_order.proofs.laws.functions_take.Goals as goal

pub returns : goal.returns
returns c = functions_take

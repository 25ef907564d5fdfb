use Rattle.memory_statements.proofs.Receiving.{cells_receive}
use Rattle.memory_statements.proofs.store_laws.cells_receive.Goals as goal

pub returns : goal.returns
returns c = cells_receive

use Rattle.memory_statements.proofs.Receiving.{blocks_receive}
use Rattle.memory_statements.proofs.store_laws.blocks_receive.Goals as goal

pub returns : goal.returns
returns c = blocks_receive

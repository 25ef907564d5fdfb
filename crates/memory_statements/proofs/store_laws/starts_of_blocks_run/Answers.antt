use Rattle.memory_statements.proofs.StoreStatements.{starts_of_blocks_run}
use Rattle.memory_statements.proofs.store_laws.starts_of_blocks_run.Goals as goal

pub returns : goal.returns
returns c = starts_of_blocks_run

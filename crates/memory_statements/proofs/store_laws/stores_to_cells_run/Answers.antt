use Rattle.memory_statements.proofs.StoreStatements.{stores_to_cells_run}
use Rattle.memory_statements.proofs.store_laws.stores_to_cells_run.Goals as goal

pub returns : goal.returns
returns c = stores_to_cells_run

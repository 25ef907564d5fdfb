use Rattle.memory_statements.proofs.store_laws.cells_are_stored.Goals as goal
use Rattle.memory_statements.proofs.Storing as storing

pub returns : goal.returns
returns c = storing.cells_are_stored

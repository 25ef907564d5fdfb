use Rattle.memory_statements.proofs.Writing.{cells_are_written}
use Rattle.memory_statements.proofs.store_laws.cells_are_written.Goals as goal

pub returns : goal.returns
returns c = cells_are_written

use Rattle.memory_statements.proofs.StoreSets.{cells_inside}
use Rattle.memory_statements.proofs.store_laws.cells_inside.Goals as goal

pub returns : goal.returns
returns c = cells_inside

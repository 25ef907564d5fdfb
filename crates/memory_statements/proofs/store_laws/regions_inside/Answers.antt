use Rattle.memory_statements.proofs.StoreSets.{regions_inside}
use Rattle.memory_statements.proofs.store_laws.regions_inside.Goals as goal

pub returns : goal.returns
returns c = regions_inside

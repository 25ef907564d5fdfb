use Rattle.memory_statements.proofs.Levels.{levels_read}
use Rattle.memory_statements.proofs.store_laws.levels_read.Goals as goal

pub returns : goal.returns
returns c = levels_read

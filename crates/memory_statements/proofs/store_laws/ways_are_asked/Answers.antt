use Rattle.memory_statements.proofs.Ways.{ways_are_asked}
use Rattle.memory_statements.proofs.store_laws.ways_are_asked.Goals as goal

pub returns : goal.returns
returns c = ways_are_asked

use Rattle.memory_statements.proofs.Ending.{nothing_ends}
use Rattle.memory_statements.proofs.scope_laws.nothing_ends.Goals as goal

pub returns : goal.returns
returns c = nothing_ends

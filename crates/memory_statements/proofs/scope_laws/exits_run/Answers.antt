use Rattle.memory_statements.proofs.Leaving.{exits_run}
use Rattle.memory_statements.proofs.scope_laws.exits_run.Goals as goal

pub returns : goal.returns
returns c = exits_run

use Rattle.memory_statements.proofs.WithBlocks.{scopes_run}
use Rattle.memory_statements.proofs.scope_laws.scopes_run.Goals as goal

pub returns : goal.returns
returns c = scopes_run

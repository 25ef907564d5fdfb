use Rattle.memory_statements.proofs.Ending.{scopes_end}
use Rattle.memory_statements.proofs.scope_laws.scopes_end.Goals as goal

pub returns : goal.returns
returns c = scopes_end

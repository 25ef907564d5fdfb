use Rattle.memory_statements.proofs.Ending.{all_scopes_end}
use Rattle.memory_statements.proofs.scope_laws.all_scopes_end.Goals as goal

pub returns : goal.returns
returns c = all_scopes_end

use Rattle.memory_statements.proofs.Opening.{openings_run}
use Rattle.memory_statements.proofs.scope_laws.openings_run.Goals as goal

pub returns : goal.returns
returns c = openings_run

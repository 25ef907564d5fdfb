use Rattle.memory_statements.proofs.Closed.{terms_are_closed}
use Rattle.memory_statements.proofs.store_laws.terms_are_closed.Goals as goal

pub returns : goal.returns
returns c = terms_are_closed

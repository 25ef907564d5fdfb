use Rattle.memory_statements.proofs.Remembering.{places_are_remembered}
use Rattle.memory_statements.proofs.scope_laws.places_are_remembered.Goals as goal

pub returns : goal.returns
returns c = places_are_remembered

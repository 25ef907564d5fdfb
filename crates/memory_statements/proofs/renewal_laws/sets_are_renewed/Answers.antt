use Rattle.memory_statements.proofs.RenewalSets as sets
use Rattle.memory_statements.proofs.renewal_laws.sets_are_renewed.Goals as goal

pub returns : goal.returns
returns c = sets.sets_are_renewed

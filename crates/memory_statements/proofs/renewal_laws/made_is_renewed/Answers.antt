use Rattle.memory_statements.proofs.Made as made
use Rattle.memory_statements.proofs.renewal_laws.made_is_renewed.Goals as goal

pub returns : goal.returns
returns c = made.made_is_renewed

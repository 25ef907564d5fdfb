use Rattle.memory_statements.proofs.Ended as ended
use Rattle.memory_statements.proofs.renewal_laws.ended_is_renewed.Goals as goal

pub returns : goal.returns
returns c = ended.ended_is_renewed

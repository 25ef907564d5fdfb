use Rattle.memory_statements.proofs.Machine as machine
use Rattle.memory_statements.proofs.renewal_laws.renewals_change_memories.Goals as goal

pub returns : goal.returns
returns c = machine.renewals_change_memories

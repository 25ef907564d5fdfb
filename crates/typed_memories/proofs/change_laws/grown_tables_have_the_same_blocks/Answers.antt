use Rattle.typed_memories.proofs.Tables.{grown_tables_have_the_same_blocks}
use Rattle.typed_memories.proofs.change_laws.grown_tables_have_the_same_blocks.Goals as goal

pub returns : goal.returns
returns c = grown_tables_have_the_same_blocks

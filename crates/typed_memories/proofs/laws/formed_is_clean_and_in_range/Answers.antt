use Rattle.typed_memories.proofs.Formed.{formed_is_clean_and_in_range}
use Rattle.typed_memories.proofs.laws.formed_is_clean_and_in_range.Goals as goal

pub returns : goal.returns
returns c = formed_is_clean_and_in_range

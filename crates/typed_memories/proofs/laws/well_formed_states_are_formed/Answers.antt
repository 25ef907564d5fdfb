use Rattle.typed_memories.proofs.Stated.{well_formed_states_are_formed}
use Rattle.typed_memories.proofs.laws.well_formed_states_are_formed.Goals as goal

pub returns : goal.returns
returns c = well_formed_states_are_formed

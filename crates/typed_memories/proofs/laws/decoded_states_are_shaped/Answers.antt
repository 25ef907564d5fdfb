use Rattle.typed_memories.proofs.Decoding.{decoded_states_are_shaped}
use Rattle.typed_memories.proofs.laws.decoded_states_are_shaped.Goals as goal

pub returns : goal.returns
returns c = decoded_states_are_shaped

use Rattle.memory_words.proofs.slot_laws.slots_are_what_places_hold.Goals as goal
use Rattle.memory_words.proofs.Holding as holding

pub returns : goal.returns
returns c = holding.slots_are_what_places_hold

use Rattle.memory_words.proofs.slot_laws.slots_of_places.Goals as goal
use Rattle.memory_words.proofs.SlotListing as listing

pub returns : goal.returns
returns c = listing.slots_of_places

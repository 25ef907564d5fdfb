use Rattle.memory_calls.proofs.Sorts as sorts
use Rattle.memory_calls.proofs.havoc_laws.sorted_places_hold_numbers.Goals as goal

pub returns : goal.returns
returns c = sorts.sorted_places_hold_numbers

use Rattle.std.proofs.Common.{◌≡◌, take}
use Rattle.walk_words.proofs.worlds.copy_slots.Given as goal

abbrev pub invariant-loop-term : goal.invariant-loop-term
invariant-loop-term l = l.copy.items ≡ take l.term-index l.slots

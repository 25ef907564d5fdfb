use Rattle.std.proofs.Common.{◌≡◌, ◌++◌, drop}
use Rattle.walk_words.proofs.worlds.extend_slots.Given as goal

-- those there and those to come are all
abbrev pub invariant-loop-at : goal.invariant-loop-at
invariant-loop-at l = l.slots.items ++ drop l.at l.terms ≡ l.initial.slots.items ++ drop l.from l.terms

use Rattle.std.proofs.Common.{◌≡◌, take}
use Rattle.memory_worlds.proofs.worlds.copy_terms.Given as goal

abbrev pub invariant-loop-term : goal.invariant-loop-term
invariant-loop-term l = l.copy.items ≡ take l.term-index l.terms

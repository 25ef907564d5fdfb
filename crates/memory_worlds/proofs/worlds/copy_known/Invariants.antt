use Rattle.std.proofs.Common.{◌≡◌, take}
use Rattle.memory_worlds.proofs.worlds.copy_known.Given as goal

abbrev pub invariant-loop-formula : goal.invariant-loop-formula
invariant-loop-formula l = l.copy.items ≡ take l.formula-index l.known

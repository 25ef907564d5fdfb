use Rattle.std.proofs.Common.{◌≡◌, take}
use Rattle.walk_live.proofs.sets.copy_set.Given as goal

abbrev pub invariant-loop-bit : goal.invariant-loop-bit
invariant-loop-bit l = l.copy.items ≡ take l.bit-index l.set

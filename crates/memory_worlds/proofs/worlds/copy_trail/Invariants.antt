use Rattle.std.proofs.Common.{◌≡◌, take}
use Rattle.memory_worlds.proofs.worlds.copy_trail.Given as goal

abbrev pub invariant-loop-mark : goal.invariant-loop-mark
invariant-loop-mark l = l.copy.items ≡ take l.mark-index l.trail

use Rattle.std.proofs.Common.{◌≡◌, map, take}
use Rattle.temporary_kinds.specs.Kinds.{or_int}
use Rattle.temporary_kinds.proofs.functions.settled.Given as goal

abbrev pub invariant-loop-at : goal.invariant-loop-at
invariant-loop-at l = l.made ≡ map or_int (take l.at l.kinds)

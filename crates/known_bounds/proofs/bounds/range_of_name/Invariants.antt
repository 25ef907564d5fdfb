use Rattle.std.proofs.Common.{◌≤◌, length}
use Rattle.known_bounds.proofs.bounds.range_of_name.Given as goal

-- no place behind the bounds
abbrev pub invariant-loop-at : goal.invariant-loop-at
invariant-loop-at l = l.at ≤ length l.bounds

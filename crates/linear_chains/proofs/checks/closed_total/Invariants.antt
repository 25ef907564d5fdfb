use Rattle.std.proofs.Common.{map, take}
use Rattle.linear_chains.specs.Tables.{WalkAt}
use Rattle.linear_chains.specs.View.{side_step}
use Rattle.linear_chains.proofs.checks.closed_total.Given as goal

abbrev pub invariant-loop-i : goal.invariant-loop-i
invariant-loop-i l = WalkAt (map side_step l.steps) l.start (take l.i l.places) l.at l.sum.total

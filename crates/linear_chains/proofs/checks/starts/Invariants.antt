use Rattle.std.proofs.Common.{◌≡◌, map, take}
use Rattle.linear_chains.specs.Tables.{from_at}
use Rattle.linear_chains.specs.View.{side_step, vec_items}
use Rattle.linear_chains.proofs.checks.starts.Given as goal

abbrev pub invariant-loop-i : goal.invariant-loop-i
invariant-loop-i l = map vec_items l.sides.items ≡ map (from_at (map side_step l.steps)) (take l.i l.places)

use Rattle.std.proofs.Common.{◌≡◌, take}
use Rattle.branch_rows.specs.Rows.{numbered_places}
use Rattle.branch_rows.proofs.rows.numbered_places.Given as goal

abbrev pub invariant-loop-i : goal.invariant-loop-i
invariant-loop-i l = l.parts.items ≡ numbered_places 0 (take l.i l.places)

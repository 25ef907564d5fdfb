use Rattle.std.proofs.Common.{◌≡◌, ℕ, map, take}
use Rattle.std.specs.Prelude.{◌+ℤ◌}
use Rattle.same_places.specs.Same.{at}
use Rattle.clashes.specs.Sums.{signed_place, class_sum, sum_in}
use Rattle.clashes.proofs.sums.put_parts.Given as goal

abbrev pub invariant-loop-part : goal.invariant-loop-part
invariant-loop-part l = (d : ℕ) → sum_in l.sums.entries d ≡ sum_in l.initial.sums.entries d +ℤ class_sum (at l.classes) d (map (signed_place l.turned) (take l.part-index l.parts))

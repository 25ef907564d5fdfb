use Rattle.std.proofs.Common.{◌≡◌, ℕ, ◌<◌, get_or}
use Rattle.std.specs.Prelude.{pos}
use Rattle.same_places.specs.Same.{Part, at}
use Rattle.clashes.specs.Sums.{sum_in}
use Rattle.clashes.proofs.sums.are_nothing.Given as goal

abbrev pub invariant-loop-part : goal.invariant-loop-part
invariant-loop-part l = (k : ℕ) (d : Part) → k < l.part-index → sum_in l.sums.entries (at l.classes ((get_or l.parts k d).0)) ≡ pos 0

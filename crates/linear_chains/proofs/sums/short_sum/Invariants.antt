use Rattle.std.proofs.Common.{ℕ, ◌<◌, length, map}
use Rattle.linear_chains.specs.Sums.{NoThird}
use Rattle.linear_chains.specs.Tables.{place_in}
use Rattle.linear_chains.specs.View.{link_of}
use Rattle.linear_chains.proofs.sums.short_sum.Given as goal

abbrev pub invariant-loop-i : goal.invariant-loop-i
invariant-loop-i l = (h k : ℕ) → h < l.i → h < k → k < length l.links → NoThird (map link_of l.links) (place_in l.table.entries) h k

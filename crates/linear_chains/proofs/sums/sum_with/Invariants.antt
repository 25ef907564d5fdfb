use Rattle.std.proofs.Common.{ℕ, ◌<◌, map}
use Rattle.linear_chains.specs.Sums.{NoThird}
use Rattle.linear_chains.specs.Tables.{place_in}
use Rattle.linear_chains.specs.View.{link_of}
use Rattle.linear_chains.proofs.sums.sum_with.Given as goal

abbrev pub invariant-loop-j : goal.invariant-loop-j
invariant-loop-j l = (k : ℕ) → l.i < k → k < l.j → NoThird (map link_of l.links) (place_in l.table.entries) l.i k

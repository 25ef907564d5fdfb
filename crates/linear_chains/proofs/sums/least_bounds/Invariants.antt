use Rattle.std.proofs.Common.{map}
use Rattle.linear_chains.specs.Sums.{IsLeast}
use Rattle.linear_chains.specs.Tables.{place_in}
use Rattle.linear_chains.specs.View.{link_of}
use Rattle.linear_chains.proofs.sums.least_bounds.Given as goal

abbrev pub invariant-loop-place : goal.invariant-loop-place
invariant-loop-place l = IsLeast (map link_of l.links) l.place (place_in l.table.entries)

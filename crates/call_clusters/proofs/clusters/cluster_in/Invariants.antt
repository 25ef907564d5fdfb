use Rattle.std.proofs.Common.{◌≡◌, ◌-◌, length}
use Rattle.call_clusters.specs.Rows.{least_from, both_ways}
use Rattle.call_clusters.proofs.clusters.cluster_in.Given as goal

abbrev pub invariant-loop-g : goal.invariant-loop-g
invariant-loop-g l = least_from (both_ways l.rows l.function) (length l.rows - l.g) l.g ≡ least_from (both_ways l.rows l.function) (length l.rows) 0

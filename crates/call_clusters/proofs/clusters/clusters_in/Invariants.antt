use Rattle.std.proofs.Common.{◌≡◌, ◌-◌, ◌++◌, length}
use Rattle.call_clusters.specs.Rows.{clusters_from}
use Rattle.call_clusters.proofs.clusters.clusters_in.Given as goal

abbrev pub invariant-loop-f : goal.invariant-loop-f
invariant-loop-f l = l.clusters ++ clusters_from l.rows (length l.rows - l.f) l.f ≡ clusters_from l.rows (length l.rows) 0

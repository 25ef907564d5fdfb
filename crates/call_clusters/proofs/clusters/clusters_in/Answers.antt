use Rattle.std.proofs.Common.{rules, length}
use Rattle.call_clusters.specs.Rows.{clusters_from}
use Rattle.call_clusters.proofs.Tables.{clusters_turn}
use Rattle.call_clusters.proofs.clusters.clusters_in.Goals as goal

pub loop-f-preserved : goal.loop-f-preserved
loop-f-preserved c =
    clusters_turn c.args.rows.now c.loop-f.f c.loop-f.clusters c.push.new.self (clusters_from c.args.rows.now (length c.args.rows.now) 0) _ (search rules) c.in_ok-cluster_in.ensures
    c.in_ok-push.ensures.ok c.loop-f.invariant

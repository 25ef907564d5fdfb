use Rattle.std.proofs.Common.{rules}
use Rattle.call_clusters.proofs.Tables.{mark_at}
use Rattle.call_clusters.proofs.rows.marks.Goals as goal

pub loop-i-preserved : goal.loop-i-preserved
loop-i-preserved c = mark_at c.args.count c.args.numbers.now c.loop-i.i c.loop-i.row.items c.mark.new.row.items (search rules) c.mark.ensures c.loop-i.invariant

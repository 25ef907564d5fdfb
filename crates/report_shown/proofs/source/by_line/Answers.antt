use Rattle.std.proofs.Common.{map}
use Rattle.report_shown.specs.View.{view_list}
use Rattle.report_shown.proofs.Placed.{placed_more}
use Rattle.report_shown.proofs.source.by_line.Goals as goal

pub loop-index-preserved : goal.loop-index-preserved
loop-index-preserved c =
    placed_more c.args.count c.loop-index.index c.args.goals.now _ (map view_list c.loop-index.found.items) (map view_list c.put_goal.new.found.items) c.loop-index-test.true c.in_ok-put_goal.ensures c.loop-index.invariant

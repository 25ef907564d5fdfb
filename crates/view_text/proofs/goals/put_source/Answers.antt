use Rattle.view_text.proofs.Lines.{line_more}
use Rattle.view_text.proofs.goals.put_source.Goals as goal

pub loop-index-preserved : goal.loop-index-preserved
loop-index-preserved c =
    line_more c.args.color c.args.lines.now c.args.lists.now c.loop-index.index _ _ _ _ _ c.loop-index-test.true c.in_ok-put_line.ensures c.in_ok-put_goals_at.ensures c.loop-index.invariant

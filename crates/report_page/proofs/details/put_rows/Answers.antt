use Rattle.report_read.specs.View.{view_goal}
use Rattle.report_page.specs.Page.{goal_pieces}
use Rattle.report_page.proofs.Pieces.{each_more, each_end}
use Rattle.report_page.proofs.details.put_rows.Goals as goal

pub loop-goal-preserved : goal.loop-goal-preserved
loop-goal-preserved c =
    each_more goal_pieces view_goal c.args.goals.now c.loop-goal.goal-index _ _ _ _ c.loop-goal-test.true c.in_ok-put_goal.ensures c.loop-goal.invariant

pub returns : goal.returns
returns c = each_end goal_pieces view_goal c.args.goals.now c.loop-goal.goal-index _ _ c.loop-goal-test.false c.loop-goal.invariant

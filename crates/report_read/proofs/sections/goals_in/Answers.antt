use Rattle.report_read.specs.Read.{goal_at}
use Rattle.report_read.specs.View.{view_goal}
use Rattle.report_read.proofs.Many.{seen_more, behind_more, behind_end}
use Rattle.report_read.proofs.Spelled.{goal_consumes}
use Rattle.report_read.proofs.sections.goals_in.Goals as goal

pub loop-goal-preserved : goal.loop-goal-preserved
loop-goal-preserved c = record {
  found = seen_more goal_at view_goal goal_consumes c.loop-goal.rest.now c.in-Some.behind.now c.in-Some.goal c.loop-goal.found.items c.push.new.self.items _ c.in-Some.ensures c.in_ok-push.ensures.items c.loop-goal.invariant.found;
  behind = behind_more goal_at goal_consumes c.loop-goal.rest.now c.in-Some.behind.now (view_goal c.in-Some.goal) _ c.in-Some.ensures c.loop-goal.invariant.behind;
}

pub returns-clause-behind : goal.returns-clause-behind
returns-clause-behind c = behind_end goal_at c.loop-goal.rest.now _ c.in_default.ensures c.loop-goal.invariant.behind

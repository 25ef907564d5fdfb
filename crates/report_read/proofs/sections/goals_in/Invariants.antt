use Rattle.std.proofs.Common.{◌≡◌, ◌++◌, map, length}
use Rattle.report_read.specs.Bytes.{all_of}
use Rattle.report_read.specs.Read.{goal_at}
use Rattle.report_read.specs.View.{view_goal}
use Rattle.report_read.proofs.sections.goals_in.Given as goal

abbrev pub invariant-loop-goal : goal.invariant-loop-goal
invariant-loop-goal l = record {
  found : map view_goal l.found.items ++ (all_of goal_at l.rest).0 ≡ (all_of goal_at l.text).0;
  behind : (all_of goal_at l.rest).1 ≡ (all_of goal_at l.text).1;
}

abbrev pub decreases-loop-goal : goal.decreases-loop-goal
decreases-loop-goal l = length l.rest

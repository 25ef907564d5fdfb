use Rattle.std.proofs.Common.{◌≡◌, ◌++◌, map, drop}
use Rattle.report_read.specs.Bytes.{joined}
use Rattle.report_read.specs.View.{view_goal}
use Rattle.view_text.specs.Text.{goal_text}
use Rattle.view_text.proofs.goals.put_goals.Given as goal

abbrev pub invariant-loop-goal : goal.invariant-loop-goal
invariant-loop-goal l = l.text.items ++ joined (map (goal_text l.color) (map view_goal (drop l.goal-index l.goals))) ≡ l.initial.text.items ++ joined (map (goal_text l.color) (map view_goal l.goals))

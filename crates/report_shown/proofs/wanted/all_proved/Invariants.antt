use Rattle.std.proofs.Common.{◌≡◌, drop}
use Rattle.report_shown.specs.Shown.{all_proved}
use Rattle.report_shown.specs.View.{view_goals}
use Rattle.report_shown.proofs.wanted.all_proved.Given as goal

abbrev pub invariant-loop-goal : goal.invariant-loop-goal
invariant-loop-goal l = all_proved (view_goals l.goals) ≡ all_proved (view_goals (drop l.goal-index l.goals))

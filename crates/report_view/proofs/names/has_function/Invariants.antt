use Rattle.std.proofs.Common.{◌≡◌, drop}
use Rattle.std.specs.List.{list_any}
use Rattle.report_shown.specs.View.{view_goals}
use Rattle.report_view.specs.Answer.{is_function}
use Rattle.report_view.proofs.names.has_function.Given as goal

abbrev pub invariant-loop-goal : goal.invariant-loop-goal
invariant-loop-goal l = list_any (is_function l.name) (view_goals l.goals) ≡ list_any (is_function l.name) (view_goals (drop l.goal-index l.goals))

use Rattle.std.proofs.Common.{◌≡◌, ◌++◌, drop}
use Rattle.std.specs.Prelude.{filter}
use Rattle.report_shown.specs.Shown.{is_wanted}
use Rattle.report_shown.specs.View.{view_goals, view_wanted}
use Rattle.report_shown.proofs.wanted.shown.Given as goal

-- those found, and those to come that pass, are all that pass
abbrev pub invariant-loop-goal : goal.invariant-loop-goal
invariant-loop-goal l =
    view_goals l.found.items ++ filter (is_wanted (view_wanted l.wanted)) (view_goals (drop l.goal-index l.goals)) ≡ filter (is_wanted (view_wanted l.wanted)) (view_goals l.goals)

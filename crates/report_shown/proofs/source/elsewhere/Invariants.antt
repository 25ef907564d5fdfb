use Rattle.std.proofs.Common.{◌≡◌, ◌++◌, drop, eqb, nat_lt, ◌||◌}
use Rattle.std.specs.Prelude.{filter}
use Rattle.report_read.specs.Report.{Goal}
use Rattle.report_shown.specs.View.{view_goals, view_list}
use Rattle.report_shown.proofs.source.elsewhere.Given as goal

abbrev pub invariant-loop-goal : goal.invariant-loop-goal
invariant-loop-goal l =
    view_goals l.found.items ++ filter (λ (g : Goal). eqb g.line 0 || nat_lt l.count g.line) (view_goals (drop l.goal-index l.goals)) ≡ filter (λ (g : Goal). eqb g.line 0 || nat_lt l.count g.line) (view_goals l.goals)

use Rattle.std.proofs.Common.{◌≡◌, map, drop}
use Rattle.report_read.specs.Report.{Goal}
use Rattle.report_read.specs.View.{bytes_of, view_goal}
use Rattle.report_shown.specs.Shown.{distinct_behind, checks_of}
use Rattle.report_shown.specs.View.{view_goals}
use Rattle.report_shown.proofs.names.checks_of.Given as goal

abbrev pub invariant-loop-goal : goal.invariant-loop-goal
invariant-loop-goal l = distinct_behind (map bytes_of l.names.items) (map (λ (g : Goal). g.check) (map view_goal (drop l.goal-index l.goals))) ≡ checks_of (view_goals l.goals)

use Rattle.std.proofs.Common.{◌≡◌, ◌+◌, ◌≤◌, drop, length}
use Rattle.std.specs.List.{prefix_len}
use Rattle.std.specs.Str.{bytes_eq}
use Rattle.report_read.specs.Report.{Goal}
use Rattle.report_shown.specs.View.{view_goals}
use Rattle.report_shown.proofs.cuts.same_len.Given as goal

abbrev pub invariant-loop-goal : goal.invariant-loop-goal
invariant-loop-goal l = record {
  so_far : l.len + prefix_len (λ (g : Goal). bytes_eq g.function l.function) (view_goals (drop l.goal-index l.goals)) ≡ prefix_len (λ (g : Goal). bytes_eq g.function l.function) (view_goals l.goals);
  within : l.len ≤ l.goal-index;
}

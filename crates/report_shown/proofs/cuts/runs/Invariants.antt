use Rattle.std.proofs.Common.{◌≡◌, ◌≤◌, ◌-◌, ◌++◌, map, drop, length}
use Rattle.report_shown.specs.Shown.{runs}
use Rattle.report_shown.specs.View.{view_goals, view_run}
use Rattle.report_shown.proofs.cuts.runs.Given as goal

abbrev pub invariant-loop-at : goal.invariant-loop-at
invariant-loop-at l = record {
  so_far : map view_run l.found.items ++ runs (view_goals (drop l.at l.goals)) ≡ runs (view_goals l.goals);
  within : l.at ≤ length l.goals;
}

abbrev pub decreases-loop-at : goal.decreases-loop-at
decreases-loop-at l = length l.goals - l.at

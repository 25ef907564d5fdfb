use Rattle.std.proofs.Common.{◌≡◌, ◌≤◌, map, length, take}
use Rattle.qed_linear.specs.Linear.{add_all}
use Rattle.qed_linear.specs.Totals.{total_lin}
use Rattle.qed_linear.specs.View.{lin_of}
use Rattle.qed_linear.proofs.SumSteps.{add_all_onto}
use Rattle.qed_linear.proofs.sums.sum_of.Given as goal

-- the forms that are left, with the sum so far
abbrev pub invariant-loop-left : goal.invariant-loop-left
invariant-loop-left l = record {
  within : l.left ≤ length l.forms;
  rest : add_all_onto (map lin_of (take l.left l.forms)) (total_lin l.total) ≡ add_all (map lin_of l.forms);
}

abbrev pub decreases-loop-left : goal.decreases-loop-left
decreases-loop-left l = l.left

use Rattle.std.proofs.Common.{◌≤◌, length, map, drop}
use Rattle.qed_linear.specs.Linear.{other_factors}
use Rattle.qed_linear.specs.View.{lin_of, AreOthers}
use Rattle.qed_linear.proofs.products.other_factors.Given as goal

abbrev pub invariant-loop-left : goal.invariant-loop-left
invariant-loop-left l = record {
  so_far : AreOthers l.others (other_factors (map lin_of (drop l.left l.forms)));
  within : l.left ≤ length l.forms;
}

abbrev pub decreases-loop-left : goal.decreases-loop-left
decreases-loop-left l = l.left

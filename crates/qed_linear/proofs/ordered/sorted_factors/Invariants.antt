use Rattle.std.proofs.Common.{◌≡◌, ◌≤◌, length, map, drop}
use Rattle.qed_terms.specs.View.{term_tree}
use Rattle.qed_linear.specs.Linear.{other_factors, sorted_factors}
use Rattle.qed_linear.specs.View.{lin_of}
use Rattle.qed_linear.proofs.ordered.sorted_factors.Given as goal

abbrev pub invariant-loop-left : goal.invariant-loop-left
invariant-loop-left l = record {
  so_far : map term_tree l.factors.items ≡ sorted_factors (other_factors (map lin_of (drop l.left l.forms)));
  within : l.left ≤ length l.forms;
}

abbrev pub decreases-loop-left : goal.decreases-loop-left
decreases-loop-left l = l.left

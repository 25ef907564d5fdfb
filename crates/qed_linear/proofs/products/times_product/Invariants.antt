use Rattle.std.proofs.Common.{◌≤◌, length, map, drop}
use Rattle.qed_linear.specs.Linear.{other_factors, times_product}
use Rattle.qed_linear.specs.View.{lin_of, IsProduct}
use Rattle.qed_linear.proofs.products.times_product.Given as goal

abbrev pub invariant-loop-left : goal.invariant-loop-left
invariant-loop-left l = record {
  so_far : IsProduct l.product (times_product (other_factors (map lin_of (drop l.left l.forms))));
  within : l.left ≤ length l.forms;
}

abbrev pub decreases-loop-left : goal.decreases-loop-left
decreases-loop-left l = l.left

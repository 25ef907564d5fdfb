use Rattle.std.proofs.Common.{◌≡◌, ◌≤◌, length, map, drop}
use Rattle.qed_terms.specs.View.{term_tree}
use Rattle.qed_linear.specs.Linear.{insert_factors}
use Rattle.qed_linear.proofs.ordered.insert_copies.Given as goal

abbrev pub invariant-loop-left : goal.invariant-loop-left
invariant-loop-left l = record {
  so_far : map term_tree l.factors.items ≡ insert_factors (map term_tree (drop l.left l.terms)) (map term_tree l.initial.factors.items);
  within : l.left ≤ length l.terms;
}

abbrev pub decreases-loop-left : goal.decreases-loop-left
decreases-loop-left l = l.left

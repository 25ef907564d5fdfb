use Rattle.std.proofs.Common.{◌≡◌, ◌≤◌, ◌+◌, ◌-◌, length, map, drop}
use Rattle.qed_terms.specs.View.{term_tree}
use Rattle.qed_linear.specs.View.{place}
use Rattle.qed_linear.proofs.ordered.place_of.Given as goal

-- those before here stand before the place
abbrev pub invariant-loop-at : goal.invariant-loop-at
invariant-loop-at l = record {
  within : l.at ≤ length l.factors;
  passed : place (term_tree l.factor) (map term_tree l.factors) ≡ l.at + place (term_tree l.factor) (map term_tree (drop l.at l.factors));
}

abbrev pub decreases-loop-at : goal.decreases-loop-at
decreases-loop-at l = length l.factors - l.at

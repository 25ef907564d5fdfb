use Rattle.std.proofs.Common.{◌≡◌, ◌≤◌, ◌-◌, length}
use Rattle.qed_terms.specs.View.{term_tree}
use Rattle.qed_linear.specs.View.{wide_value}
use Rattle.qed_linear.proofs.SumSteps.{Passed}
use Rattle.qed_linear.proofs.sums.add_part.Given as goal

abbrev pub invariant-loop-at : goal.invariant-loop-at
invariant-loop-at l = record {
  within : l.at ≤ length l.parts.items;
  same_parts : l.parts.items ≡ l.initial.parts.items;
  same_atom : l.atom ≡ l.fn.atom;
  passed : Passed l.parts.items l.at (term_tree l.fn.atom) (wide_value l.fn.times);
}

abbrev pub decreases-loop-at : goal.decreases-loop-at
decreases-loop-at l = length l.parts.items - l.at

use Rattle.std.proofs.Common.{◌≡◌, ◌≤◌, length, take}
use Rattle.qed_linear.specs.Linear.{add_parts}
use Rattle.qed_linear.specs.View.{parts_of, wide_parts}
use Rattle.qed_linear.proofs.sums.add_form.Given as goal

-- what is left, put into the sum so far
abbrev pub invariant-loop-left : goal.invariant-loop-left
invariant-loop-left l = record {
  within : l.left ≤ length l.form.parts.items;
  rest : add_parts (parts_of (take l.left l.form.parts.items)) (wide_parts l.parts.items) ≡ add_parts (parts_of l.form.parts.items) (wide_parts l.initial.parts.items);
}

abbrev pub decreases-loop-left : goal.decreases-loop-left
decreases-loop-left l = l.left

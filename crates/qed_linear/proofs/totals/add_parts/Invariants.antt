use Rattle.std.proofs.Common.{◌≡◌, ◌≤◌, ℕ, length, take}
use Rattle.qed_linear.specs.Linear.{add_parts}
use Rattle.qed_linear.specs.Totals.{total_parts}
use Rattle.qed_linear.specs.View.{parts_of, signed_parts}
use Rattle.qed_linear.proofs.totals.add_parts.Given as goal

abbrev pub invariant-loop-left : goal.invariant-loop-left
invariant-loop-left l = record {
  within : l.left ≤ length l.parts;
  rest : add_parts (signed_parts l.negative (parts_of (take l.left l.parts))) (total_parts l.total.entries) ≡ add_parts (signed_parts l.negative (parts_of l.parts)) (total_parts l.initial.total.entries);
}

abbrev pub decreases-loop-left : goal.decreases-loop-left
decreases-loop-left l = l.left

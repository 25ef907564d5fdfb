use Rattle.std.proofs.Common.{◌≡◌, ◌≤◌, ◌-◌, length}
use Rattle.qed_linear.proofs.Fitting.{changed_to, with_multiple}
use Rattle.qed_linear.proofs.calls.scale_parts.Given as goal

abbrev pub invariant-loop-at : goal.invariant-loop-at
invariant-loop-at l = record {
  within : l.at ≤ length l.fn.parts.items;
  same : length l.parts.items ≡ length l.fn.parts.items;
  so_far : l.parts.items ≡ changed_to (with_multiple l.by) l.fn.parts.items l.at;
}

abbrev pub decreases-loop-at : goal.decreases-loop-at
decreases-loop-at l = length l.fn.parts.items - l.at

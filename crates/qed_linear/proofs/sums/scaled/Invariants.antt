use Rattle.std.proofs.Common.{◌≡◌, take, true}
use Rattle.qed_linear.specs.Linear.{parts_fit, scale_parts}
use Rattle.qed_linear.specs.View.{parts_of}
use Rattle.qed_linear.proofs.sums.scaled.Given as goal

abbrev pub invariant-loop-part : goal.invariant-loop-part
invariant-loop-part l = record {
  so_far : parts_of l.parts.items ≡ scale_parts l.by (parts_of (take l.part-index l.form.parts.items));
  hold : parts_fit (parts_of l.parts.items) ≡ true;
}

use Rattle.std.proofs.Common.{◌≡◌, take}
use Rattle.qed_linear.specs.View.{parts_of, wide_parts}
use Rattle.qed_linear.specs.View.{signed_parts}
use Rattle.qed_linear.proofs.sums.widen_form.Given as goal

abbrev pub invariant-loop-part : goal.invariant-loop-part
invariant-loop-part l = wide_parts l.parts.items ≡ signed_parts l.negative (parts_of (take l.part-index l.form.parts.items))

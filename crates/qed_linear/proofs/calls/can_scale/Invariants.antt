use Rattle.std.proofs.Common.{◌≡◌, take, true}
use Rattle.qed_linear.specs.Linear.{numbers_fit, scale_parts}
use Rattle.qed_linear.specs.View.{parts_of}
use Rattle.qed_linear.proofs.calls.can_scale.Given as goal

abbrev pub invariant-loop-part : goal.invariant-loop-part
invariant-loop-part l = numbers_fit (scale_parts l.by (parts_of (take l.part-index l.parts))) ≡ true

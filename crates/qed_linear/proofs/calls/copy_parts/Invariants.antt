use Rattle.std.proofs.Common.{◌≡◌, take}
use Rattle.qed_linear.specs.View.{parts_of}
use Rattle.qed_linear.proofs.calls.copy_parts.Given as goal

abbrev pub invariant-loop-part : goal.invariant-loop-part
invariant-loop-part l = parts_of l.copies.items ≡ parts_of (take l.part-index l.parts)

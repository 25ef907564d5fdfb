use Rattle.std.proofs.Common.{◌≡◌, ◌≤◌, length, drop}
use Rattle.qed_linear.specs.Linear.{common_divisor}
use Rattle.qed_linear.specs.View.{parts_of}
use Rattle.qed_linear.proofs.divide.common_divisor.Given as goal

abbrev pub invariant-loop-left : goal.invariant-loop-left
invariant-loop-left l = record { within : l.left ≤ length l.parts; so_far : l.common ≡ common_divisor (parts_of (drop l.left l.parts)) }

abbrev pub decreases-loop-left : goal.decreases-loop-left
decreases-loop-left l = l.left

use Rattle.std.proofs.Common.{◌≡◌}
use Rattle.qed_linear.specs.Linear.{gcd}
use Rattle.qed_linear.proofs.divide.gcd.Given as goal

abbrev pub invariant-loop-rest : goal.invariant-loop-rest
invariant-loop-rest l = gcd l.kept l.rest ≡ gcd l.fn.left l.fn.right

abbrev pub decreases-loop-rest : goal.decreases-loop-rest
decreases-loop-rest l = l.rest

use Rattle.std.proofs.Common.{◌≡◌}
use Rattle.std.specs.Prelude.{pos, ◌+ℤ◌, ◌*ℤ◌}
use Rattle.wide_sums.specs.Sums.{wide_value}
use Rattle.wide_sums.proofs.products.product.Given as goal

abbrev pub invariant-loop-rest : goal.invariant-loop-rest
invariant-loop-rest l = wide_value l.sum +ℤ pos l.rest *ℤ wide_value l.power ≡ l.fn.left *ℤ l.fn.right

abbrev pub decreases-loop-rest : goal.decreases-loop-rest
decreases-loop-rest l = l.rest

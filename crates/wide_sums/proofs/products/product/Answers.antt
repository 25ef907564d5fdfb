use Rattle.std.proofs.Common.{◌∙◌, to_z, of_z}
use Rattle.std.specs.Prelude.{◌*ℤ◌}
use Rattle.std.specs.Int.{w128}
use Rattle.std.proofs.lemmas.Int.{to_z-of_z}
use Rattle.wide_sums.specs.Sums.{wide_value}
use Rattle.wide_sums.proofs.Doubling.{halved, ended}
use Rattle.wide_sums.proofs.products.product.Goals as goal

pub loop-rest-preserved : goal.loop-rest-preserved
loop-rest-preserved c =
    halved c.loop-rest.rest (wide_value c.loop-rest.sum) (wide_value c.in_ok-sum.sum) (wide_value c.loop-rest.power) (wide_value c.in_ok-power.power) (to_z w128 (of_z w128 c.args.left) *ℤ to_z w128 (of_z w128 c.args.right)) c.in_ok-sum.ensures c.in_ok-power.ensures c.loop-rest.invariant

pub returns : goal.returns
returns c =
    let left = to_z-of_z w128 c.args.left c.ranges.left in
    let right = to_z-of_z w128 c.args.right c.ranges.right in
    ended c.loop-rest.rest (wide_value c.loop-rest.sum) (wide_value c.loop-rest.power) (to_z w128 (of_z w128 c.args.left) *ℤ to_z w128 (of_z w128 c.args.right)) c.loop-rest-test.false c.loop-rest.invariant ∙ (λ i. left i *ℤ right i)

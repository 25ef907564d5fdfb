use Rattle.std.proofs.Common.{◌≡◌, ◌*ℤ◌, map, drop, subst, arith}
use Rattle.std.specs.Int.{w128}
use Rattle.std.proofs.lemmas.Int.{to_z-of_z}
use Rattle.qed_linear.specs.Linear.{other_factors, times_product}
use Rattle.qed_linear.specs.View.{lin_of, IsProduct}
use Rattle.qed_linear.proofs.products.times_product.Goals as goal

pub returns : goal.returns
returns c =
    let none : c.loop-left.left ≡ 0 = omega arith in
    let all = times_product (other_factors (map lin_of c.args.forms.now)) in
    let whole = subst (λ n. IsProduct c.loop-left.product (times_product (other_factors (map lin_of (drop n c.args.forms.now))))) none c.loop-left.invariant.so_far in
    c.narrow.ensures (all *ℤ c.args.by) (subst (λ b. IsProduct c.times.result (all *ℤ b)) (to_z-of_z w128 c.args.by c.ranges.by) (c.times.ensures all whole))

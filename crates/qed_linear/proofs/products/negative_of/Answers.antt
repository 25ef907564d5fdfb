use Rattle.std.proofs.Common.{Some, pos, ◌-ℤ◌, ◌∙◌, ap, arith}
use Rattle.std.specs.Int.{w128}
use Rattle.std.proofs.lemmas.Int.{to_z_pos, to_z-of_z}
use Rattle.qed_linear.proofs.Factors.{small_negative, least_negative, large_negative, negative_fits}
use Rattle.qed_linear.proofs.products.negative_of.Goals as goal

pub returns-then-size-lt170141183460469231731687303715884105728 : goal.returns-then-size-lt170141183460469231731687303715884105728
returns-then-size-lt170141183460469231731687303715884105728 c =
    let low = c.if-size-lt170141183460469231731687303715884105728.true in
    let e = to_z_pos w128 c.args.size (omega (arith, low)) in
    rw e (ap Some (to_z-of_z w128 (pos 0 -ℤ pos c.args.size) (negative_fits c.args.size (omega (arith, low)))) ∙ small_negative c.args.size (omega (arith, low)))

pub returns-then-size-eq170141183460469231731687303715884105728 : goal.returns-then-size-eq170141183460469231731687303715884105728
returns-then-size-eq170141183460469231731687303715884105728 c = least_negative c.args.size (omega (arith, c.if-size-eq170141183460469231731687303715884105728.true))

pub returns : goal.returns
returns c =
    large_negative c.args.size (λ k. omega (arith, k, c.if-size-lt170141183460469231731687303715884105728.false)) (λ k. omega (arith, k, c.if-size-eq170141183460469231731687303715884105728.false))

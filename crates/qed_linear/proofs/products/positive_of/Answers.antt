use Rattle.std.proofs.Common.{Some, ◌∙◌, ap, arith}
use Rattle.std.specs.Int.{w128}
use Rattle.std.proofs.lemmas.Int.{to_z_pos}
use Rattle.qed_linear.proofs.Factors.{small_positive, large_positive}
use Rattle.qed_linear.proofs.products.positive_of.Goals as goal

pub returns-then-size-lt170141183460469231731687303715884105728 : goal.returns-then-size-lt170141183460469231731687303715884105728
returns-then-size-lt170141183460469231731687303715884105728 c =
    let low = c.if-size-lt170141183460469231731687303715884105728.true in
    ap Some (to_z_pos w128 c.args.size (omega (arith, low))) ∙ small_positive c.args.size (omega (arith, low))

pub returns : goal.returns
returns c = large_positive c.args.size (λ k. omega (arith, k, c.if-size-lt170141183460469231731687303715884105728.false))

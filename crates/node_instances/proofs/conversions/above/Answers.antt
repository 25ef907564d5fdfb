use Rattle.std.proofs.Common.{◌+ℤ◌, pos, arith}
use Rattle.std.proofs.lemmas.Int.{ints}
use Rattle.node_instances.proofs.NumberSteps.{two_kept}
use Rattle.node_instances.proofs.conversions.above.Goals as goal

pub returns : goal.returns
returns c f =
    let range = c.args.range in
    let r = c.requires in
    two_kept f _ (λ a b. a +ℤ b) range.high (pos 1) (omega (arith, ints, r.high_from, r.high_to)) (omega (arith, ints, r.high_from, r.high_to)) (omega (arith, ints, r.high_from, r.high_to)) (c.number.ensures f)

use Rattle.std.proofs.Common.{◌+ℤ◌, arith}
use Rattle.std.proofs.lemmas.Int.{ints}
use Rattle.node_instances.proofs.NumberSteps.{two_kept}
use Rattle.node_instances.proofs.conversions.turn_above.Goals as goal

pub returns : goal.returns
returns c f =
    let range = c.args.range in
    let r = c.requires in
    two_kept f _ (λ a b. a +ℤ b) range.high (range.many) (omega (arith, ints, r.high_from, r.high_to, r.many_from, r.many_to)) (omega (arith, ints, r.high_from, r.high_to, r.many_from, r.many_to)) (omega (arith, ints, r.high_from, r.high_to, r.many_from, r.many_to)) (c.number.ensures f)

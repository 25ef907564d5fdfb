use Rattle.std.proofs.Common.{◌-ℤ◌, pos, arith}
use Rattle.std.proofs.lemmas.Int.{ints}
use Rattle.node_instances.proofs.NumberSteps.{two_kept}
use Rattle.node_instances.proofs.conversions.below.Goals as goal

pub returns : goal.returns
returns c f =
    let range = c.args.range in
    let r = c.requires in
    two_kept f _ (λ a b. a -ℤ b) range.low (pos 1) (omega (arith, ints, r.low_from, r.low_to)) (omega (arith, ints, r.low_from, r.low_to)) (omega (arith, ints, r.low_from, r.low_to)) (c.number.ensures f)

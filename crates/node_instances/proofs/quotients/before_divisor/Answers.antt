use Rattle.std.proofs.Common.{◌-ℤ◌, pos, FitsSigned, rules, arith}
use Rattle.std.specs.Int.{w128}
use Rattle.std.proofs.lemmas.Int.{ints}
use Rattle.node_instances.proofs.NumberSteps.{two_kept}
use Rattle.node_instances.proofs.quotients.before_divisor.Goals as goal

pub returns : goal.returns
returns c f =
    let at = c.args.at in
    let fits : FitsSigned w128 at.by = search rules in
    let size = fits.sfits in
    let one : FitsSigned w128 (pos 1) = omega (arith, ints) in
    two_kept f _ (λ a b. a -ℤ b) at.by (pos 1) fits one (omega (arith, ints, size, c.requires)) (c.number.ensures f)

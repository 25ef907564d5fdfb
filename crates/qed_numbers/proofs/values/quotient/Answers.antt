use Rattle.std.proofs.Common.{of_z, ap}
use Rattle.std.specs.Int.{w128}
use Rattle.std.proofs.lemmas.Int.{to_z-of_z}
use Rattle.qed_numbers.proofs.Fitting.{quotient_is}
use Rattle.qed_numbers.proofs.values.quotient.Goals as goal

pub returns : goal.returns
returns c =
    let a = to_z-of_z w128 c.args.left c.ranges.left in
    let b = to_z-of_z w128 c.args.right c.ranges.right in
    quotient_is c.checked_div.result c.args.left c.args.right c.ranges.right (λ e. c.if-right-eq0.false (ap (of_z w128) e))
    (rw (a, b) at c.checked_div.ensures)

use Rattle.std.proofs.Common.{◌∙◌, rules, FitsSigned}
use Rattle.std.specs.Int.{w128}
use Rattle.std.proofs.lemmas.Int.{to_z-of_z}
use Rattle.qed_linear.proofs.Fitting.{multiple_fits, multiple_wide}
use Rattle.qed_linear.proofs.calls.multiple.Goals as goal

pub returns-in-Some : goal.returns-in-Some
returns-in-Some c =
    let p = c.in-Some.product in
    let fits : FitsSigned w128 p = search rules in
    let e = rw (to_z-of_z w128 c.args.by c.ranges.by, to_z-of_z w128 c.args.times c.ranges.times) at c.in-Some.ensures in
    to_z-of_z w128 p fits ∙ multiple_fits c.args.by c.args.times p e.0 e.1

pub returns-in-None : goal.returns-in-None
returns-in-None c =
    let u = rw (to_z-of_z w128 c.args.by c.ranges.by, to_z-of_z w128 c.args.times c.ranges.times) at c.in-None.ensures in
    to_z-of_z w128 c.args.times c.ranges.times ∙ multiple_wide c.args.by c.args.times u

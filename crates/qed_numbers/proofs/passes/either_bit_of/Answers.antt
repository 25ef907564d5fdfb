use Rattle.std.proofs.Common.{Some, ◌∙◌, ap, rules, FitsSigned}
use Rattle.std.specs.Int.{w128}
use Rattle.std.proofs.lemmas.Int.{to_z-of_z}
use Rattle.qed_terms.specs.Operators.{either_bit}
use Rattle.qed_numbers.proofs.Fitting.{two_fitted}
use Rattle.qed_numbers.proofs.passes.either_bit_of.Goals as goal

pub returns-in-Some-Some : goal.returns-in-Some-Some
returns-in-Some-Some c =
    let z = c.either_bit.result in
    let a = c.in-Some-Some.left in
    let b = c.in-Some-Some.right in
    let fits : FitsSigned w128 z = search rules in
    let fit_a : FitsSigned w128 a = search rules in
    let fit_b : FitsSigned w128 b = search rules in
    ap Some (to_z-of_z w128 z fits) ∙ two_fitted either_bit c.args.left c.args.right a b z c.in-Some-Some.is-0 c.in-Some-Some.is-1 (rw (to_z-of_z w128 a fit_a, to_z-of_z w128 b fit_b) at c.either_bit.ensures) fits

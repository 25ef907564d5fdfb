use Rattle.std.proofs.Common.{◌∙◌, ap}
use Rattle.std.specs.Prelude.{pos, negsuc}
use Rattle.std.specs.Int.{w128}
use Rattle.std.specs.Ordering.{int_eq}
use Rattle.std.proofs.lemmas.Int.{to_z-of_z}
use Rattle.equality_variables.proofs.Apart.{unit_one, unit_minus, no_sign}
use Rattle.equality_variables.proofs.givens.unit_sign.Goals as goal

pub returns-then-are_equal : goal.returns-then-are_equal
returns-then-are_equal c = unit_one c.args.times c.are_equal.result (c.are_equal.ensures ∙ ap (λ z. int_eq z (pos 1)) (to_z-of_z w128 c.args.times c.ranges.times)) c.if-are_equal.true

pub returns-then-are_equal-2 : goal.returns-then-are_equal-2
returns-then-are_equal-2 c = unit_minus c.args.times c.are_equal-2.result (c.are_equal-2.ensures ∙ ap (λ z. int_eq z (negsuc 0)) (to_z-of_z w128 c.args.times c.ranges.times)) c.if-are_equal-2.true

pub returns : goal.returns
returns c =
    let same = to_z-of_z w128 c.args.times c.ranges.times in
    no_sign c.args.times c.are_equal.result c.are_equal-2.result (c.are_equal.ensures ∙ ap (λ z. int_eq z (pos 1)) same) c.if-are_equal.false (c.are_equal-2.ensures ∙ ap (λ z. int_eq z (negsuc 0)) same) c.if-are_equal-2.false

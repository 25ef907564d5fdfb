use Rattle.std.proofs.Common.{rules, ◌≡◌, FitsSigned, sym, subst, ◌∙◌}
use Rattle.std.specs.Int.{w128}
use Rattle.std.specs.Ordering.{int_eq}
use Rattle.std.proofs.lemmas.Int.{to_z-of_z}
use Rattle.same_places.specs.Same.{at}
use Rattle.clashes.specs.Sums.{parts_between, EachSumVanishes, Cancel}
use Rattle.clashes.proofs.Together.{numbers_equal, numbers_apart, told_also}
use Rattle.clashes.proofs.differences.cancel.Goals as goal

pub returns-then-not-are_equal : goal.returns-then-not-are_equal
returns-then-not-are_equal c = λ so.
    let y = c.args.left.now.constant in
    let z = c.args.right.now.constant in
    let l : FitsSigned w128 y = search rules in
    let r : FitsSigned w128 z = search rules in
    let e = c.are_equal.ensures ∙ (λ i. int_eq (to_z-of_z w128 y l i) (to_z-of_z w128 z r i)) in
    numbers_apart y z c.are_equal.result e c.if-not-are_equal.true (so.constants)

pub returns : goal.returns
returns c =
    let y = c.args.left.now.constant in
    let z = c.args.right.now.constant in
    let l : FitsSigned w128 y = search rules in
    let r : FitsSigned w128 z = search rules in
    let e = c.are_equal.ensures ∙ (λ i. int_eq (to_z-of_z w128 y l i) (to_z-of_z w128 z r i)) in
    let class_of = at c.args.classes.now in
    let first = c.as_slice.ensures.value in
    let second = c.as_slice-2.ensures.value in
    let same : parts_between c.as_slice.result.now c.as_slice-2.result.now ≡ parts_between c.args.left.now.parts.items c.args.right.now.parts.items = λ i. parts_between (first i) (second i) in
    let before = parts_between c.as_slice.result.now c.as_slice-2.result.now in
    told_also c.in_ok-answer.answer (EachSumVanishes class_of before before) (Cancel class_of c.args.left.now c.args.right.now)
    (λ v. record { constants = numbers_equal y z c.are_equal.result e c.if-not-are_equal.false; vanish = subst (λ ps. EachSumVanishes class_of ps ps) same v })
    (λ so. subst (λ ps. EachSumVanishes class_of ps ps) (sym same) (so.vanish))
    c.in_ok-answer.ensures

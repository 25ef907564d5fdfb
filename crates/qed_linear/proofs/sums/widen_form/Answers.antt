use Rattle.std.proofs.Common.{take_all, ◌∙◌, ap, arith, rules, FitsSigned}
use Rattle.std.specs.Int.{w128}
use Rattle.std.proofs.lemmas.Int.{to_z-of_z}
use Rattle.qed_terms.specs.View.{term_tree}
use Rattle.qed_linear.specs.Linear.{lin}
use Rattle.qed_linear.specs.View.{parts_of, wide_value, signed_value, signed_parts}
use Rattle.qed_linear.proofs.SumSteps.{signed_is, signed_more}
use Rattle.qed_linear.proofs.sums.widen_form.Goals as goal

pub loop-part-preserved : goal.loop-part-preserved
loop-part-preserved c =
    let x = c.part-item.result in
    let p = rw c.deref-part-items.ensures.value at c.part-item.is in
    let fits : FitsSigned w128 x.times = search rules in
    let e = c.widen-times.ensures ∙ ap (signed_value c.args.negative) (to_z-of_z w128 x.times fits) in
    signed_more c.args.negative c.loop-part.parts.items c.push_wide.new.parts.items c.args.form.now.parts.items c.loop-part.part-index x (term_tree c.in_ok-copy.field-0) (wide_value c.widen-times.result)
    (omega arith) p (ap term_tree c.in_ok-copy.ensures) e c.loop-part.invariant c.in_ok-push_wide.ensures

pub returns : goal.returns
returns c =
    let f = c.args.form.now in
    let b = c.args.negative in
    let fits : FitsSigned w128 f.constant = search rules in
    let all = take_all c.loop-part.part-index f.parts.items (omega arith) in
    let e = c.loop-part.invariant ∙ ap (λ ys. signed_parts b (parts_of ys)) all in
    let k = c.widen.ensures ∙ ap (signed_value b) (to_z-of_z w128 f.constant fits) in
    (λ i. lin (e i) (k i)) ∙ signed_is b (parts_of f.parts.items) f.constant

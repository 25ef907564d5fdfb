use Rattle.std.proofs.Common.{◌≡◌, ◌∙◌, ap, rules, FitsSigned, ◌+ℤ◌}
use Rattle.std.specs.Int.{w128}
use Rattle.std.proofs.lemmas.Int.{to_z-of_z}
use Rattle.qed_linear.specs.Linear.{add_parts}
use Rattle.qed_linear.specs.Totals.{total_parts}
use Rattle.qed_linear.specs.View.{parts_of, signed_parts, signed_value, wide_value}
use Rattle.qed_linear.proofs.TotalSteps.{added_to}
use Rattle.qed_linear.proofs.totals.add_to_total.Goals as goal

pub returns : goal.returns
returns c =
    let f = c.args.form.now in
    let b = c.args.negative in
    let old = c.args.total.now in
    let fits : FitsSigned w128 f.constant = search rules in
    let z = c.widen.ensures ∙ ap (signed_value b) (to_z-of_z w128 f.constant fits) in
    added_to b (parts_of f.parts.items) (total_parts old.parts.entries) (total_parts c.add_parts.new.total.entries) f.constant (wide_value old.constant) (wide_value c.in_ok-total.field-0)
    (c.in_ok-add_parts.ensures ∙ ap (λ ys. add_parts (signed_parts b (parts_of ys)) (total_parts old.parts.entries)) c.as_slice.ensures.value)
    (c.in_ok-total.ensures ∙ ap (λ x. x +ℤ wide_value old.constant) z)

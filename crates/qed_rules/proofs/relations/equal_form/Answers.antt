use Rattle.std.proofs.Common.{◌≡◌, sym, ◌∙◌, ap, arith, rules, FitsSigned}
use Rattle.std.specs.Int.{w128}
use Rattle.std.proofs.lemmas.Int.{to_z-of_z}
use Rattle.qed_terms.specs.View.{formula_tree}
use Rattle.qed_linear.specs.Linear.{common_divisor, divides, make_lead_positive}
use Rattle.qed_rules.specs.Rules.{equals_zero, equal_tree}
use Rattle.qed_linear.specs.View.{parts_of, lin_of}
use Rattle.qed_linear.proofs.Divisors.{above_zero}
use Rattle.qed_linear.proofs.TermForms.{some_parts}
use Rattle.qed_rules.proofs.RelationPasses.{equal_tree_is}
use Rattle.qed_linear.proofs.Places.{if_ok}
use Rattle.qed_rules.proofs.relations.equal_form.Goals as goal

pub returns : goal.returns
returns c =
    let f = c.args.form in
    let some = above_zero _ (sym c.is_empty.ensures ∙ c.if-is_empty.false) in
    let a = some_parts f.parts.items (omega (arith, some)) in
    let fits : FitsSigned w128 f.constant = search rules in
    let d = c.common_divisor-by.ensures ∙ ap (λ ys. common_divisor (parts_of ys)) c.as_slice.ensures.value in
    let b = sym (c.divides.ensures ∙ (λ i. divides (d i) (to_z-of_z w128 f.constant fits i))) ∙ c.if-not-divides.false in
    if_ok c.with_zero.result
    (λ formula. formula_tree formula ≡ equals_zero (lin_of c.in_ok-form-2.form))
    (λ formula. formula_tree formula ≡ equal_tree (lin_of f))
    (λ formula k. k ∙ ap equals_zero (c.in_ok-form-2.ensures ∙ ap make_lead_positive c.in_ok-form.ensures) ∙ sym (equal_tree_is (lin_of f) a b))
    c.with_zero.ensures

use Rattle.std.proofs.Common.{◌≡◌, false, true, map, sym, ◌∙◌, ap}
use Rattle.qed_terms.specs.View.{formula_tree}
use Rattle.qed_rules.specs.Passes.{normal_junction, normal_not}
use Rattle.qed_rules.proofs.FormulaPasses.{normal_not_not, normal_not_and, normal_not_or}
use Rattle.qed_linear.proofs.Places.{if_ok}
use Rattle.qed_rules.proofs.negations.+normal_not.Goals as goal

pub normal_not-returns-in-Not : goal.normal_not-returns-in-Not
normal_not-returns-in-Not t c =
    if_ok c.copy.result
    (λ r. r ≡ c.get.result.now)
    (λ r. formula_tree r ≡ normal_not (formula_tree c.args.formula.now))
    (λ r k. ap formula_tree (k ∙ c.get.ensures) ∙ sym (normal_not_not c.in-Not.inner) ∙ ap (λ x. normal_not (formula_tree x)) (sym c.in-Not.is))
    c.copy.ensures

pub normal_not-returns-in_ok-normal_nots-in-And : goal.normal_not-returns-in_ok-normal_nots-in-And
normal_not-returns-in_ok-normal_nots-in-And t c =
    let ys = c.in_ok-normal_nots-in-And.field-0 in
    if_ok c.normal_junction.result
    (λ r. formula_tree r ≡ normal_junction false (map formula_tree ys))
    (λ r. formula_tree r ≡ normal_not (formula_tree c.args.formula.now))
    (λ r k. k ∙ normal_not_and c.in-And.operands ys c.in_ok-normal_nots-in-And.ensures ∙ ap (λ x. normal_not (formula_tree x)) (sym c.in-And.is))
    c.normal_junction.ensures

pub normal_not-returns-in_ok-normal_nots-in-Or : goal.normal_not-returns-in_ok-normal_nots-in-Or
normal_not-returns-in_ok-normal_nots-in-Or t c =
    let ys = c.in_ok-normal_nots-in-Or.field-0 in
    if_ok c.normal_junction-in-Or.result
    (λ r. formula_tree r ≡ normal_junction true (map formula_tree ys))
    (λ r. formula_tree r ≡ normal_not (formula_tree c.args.formula.now))
    (λ r k. k ∙ normal_not_or c.in-Or.operands ys c.in_ok-normal_nots-in-Or.ensures ∙ ap (λ x. normal_not (formula_tree x)) (sym c.in-Or.is))
    c.normal_junction-in-Or.ensures

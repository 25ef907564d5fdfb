use Rattle.std.proofs.Common.{get_or, sym, subst, ap, ◌∙◌, rules, FitsSigned}
use Rattle.std.specs.Int.{w128}
use Rattle.std.proofs.lemmas.Int.{to_z-of_z}
use Rattle.branch_changes.specs.Givens.{unit_sign}
use Rattle.equality_variables.proofs.Apart.{no_unit, some_unit}
use Rattle.equality_variables.proofs.givens.given_at.Goals as goal

pub variable-requires : goal.variable-requires
variable-requires g c =
    let items = c.args.form.now.parts.items in
    let part = c.index-parts-at.result in
    let is = c.index-parts-at.is ∙ ap (λ z. get_or z c.args.at part) c.as_slice-parts.ensures.value in
    subst (λ p. g.S.TermStore.held c.args.store.now p.0) (sym is) (c.requires.held c.args.at part c.requires.at)

pub returns-in-None-clause-given : goal.returns-in-None-clause-given
returns-in-None-clause-given g c =
    let part = c.index-parts-at.result in
    let is = c.index-parts-at.is ∙ ap (λ z. get_or z c.args.at part) c.as_slice-parts.ensures.value in
    let given : FitsSigned w128 part.1 = search rules in
    no_unit (g.S.TermStore.tree c.args.store.now) c.args.form.now c.args.at part c.requires.at is (ap unit_sign (sym (to_z-of_z w128 part.1 given)) ∙ sym c.unit_sign.ensures ∙ c.in-None.is)

pub returns-in_ok-made-in-Some-clause-given : goal.returns-in_ok-made-in-Some-clause-given
returns-in_ok-made-in-Some-clause-given g c =
    let part = c.index-parts-at.result in
    let is = c.index-parts-at.is ∙ ap (λ z. get_or z c.args.at part) c.as_slice-parts.ensures.value in
    let given : FitsSigned w128 part.1 = search rules in
    some_unit (g.S.TermStore.tree c.args.store.now) c.args.form.now c.args.at part c.requires.at is c.in-Some.plus _ _ (ap unit_sign (sym (to_z-of_z w128 part.1 given)) ∙ sym c.unit_sign.ensures ∙ c.in-Some.is) c.in_ok-name-in-Some.ensures c.in_ok-made-in-Some.ensures.given

use Rattle.std.proofs.Common.{sym, ◌∙◌, ap}
use Rattle.qed_terms.specs.View.{term_tree, formula_tree}
use Rattle.qed_terms.specs.declared.term.Term.TheVariants as t
use Rattle.qed_terms.specs.declared.term.Formula.TheVariants as f
use Rattle.qed_substitution.specs.Substitution.{replace}
use Rattle.qed_substitution.proofs.Replaced.{replace_op, replace_app, replace_rel, replace_and, replace_or}
use Rattle.qed_substitution.proofs.replace.+replace.Goals as goal

pub replace_in_term-returns-in_ok-replace_in_terms-in-Op : goal.replace_in_term-returns-in_ok-replace_in_terms-in-Op
replace_in_term-returns-in_ok-replace_in_terms-in-Op l c =
    let x = c.args.name.now in
    let u = term_tree c.args.by.now in
    let us = c.in_ok-replace_in_terms-in-Op.field-0 in
    ap (λ o. term_tree (t.Op o us)) c.in_ok-op-in-Op.ensures ∙ replace_op x u c.in-Op.op c.in-Op.kids us c.in_ok-replace_in_terms-in-Op.ensures ∙ ap (λ z. replace x u (term_tree z)) (sym c.in-Op.is)

pub replace_in_term-returns-in_ok-replace_in_terms-in-App : goal.replace_in_term-returns-in_ok-replace_in_terms-in-App
replace_in_term-returns-in_ok-replace_in_terms-in-App l c =
    let x = c.args.name.now in
    let u = term_tree c.args.by.now in
    let us = c.in_ok-replace_in_terms-in-App.field-0 in
    ap (λ g. term_tree (t.App g us)) c.in_ok-function-in-App.ensures ∙ replace_app x u c.in-App.function c.in-App.kids us c.in_ok-replace_in_terms-in-App.ensures ∙ ap (λ z. replace x u (term_tree z)) (sym c.in-App.is)

pub replace_in_formula-returns-in_ok-replace_in_terms-in-Rel : goal.replace_in_formula-returns-in_ok-replace_in_terms-in-Rel
replace_in_formula-returns-in_ok-replace_in_terms-in-Rel l c =
    let x = c.args.name.now in
    let u = term_tree c.args.by.now in
    let us = c.in_ok-replace_in_terms-in-Rel.field-0 in
    ap (λ o. formula_tree (f.Rel o us)) c.in_ok-op-in-Rel.ensures ∙ replace_rel x u c.in-Rel.op c.in-Rel.terms us c.in_ok-replace_in_terms-in-Rel.ensures ∙ ap (λ z. replace x u (formula_tree z)) (sym c.in-Rel.is)

pub replace_in_formula-returns-in_ok-replace_in_formulas-in-And : goal.replace_in_formula-returns-in_ok-replace_in_formulas-in-And
replace_in_formula-returns-in_ok-replace_in_formulas-in-And l c =
    let x = c.args.name.now in
    let u = term_tree c.args.by.now in
    replace_and x u c.in-And.parts c.in_ok-replace_in_formulas-in-And.field-0 c.in_ok-replace_in_formulas-in-And.ensures ∙ ap (λ z. replace x u (formula_tree z)) (sym c.in-And.is)

pub replace_in_formula-returns-in_ok-replace_in_formulas-in-Or : goal.replace_in_formula-returns-in_ok-replace_in_formulas-in-Or
replace_in_formula-returns-in_ok-replace_in_formulas-in-Or l c =
    let x = c.args.name.now in
    let u = term_tree c.args.by.now in
    replace_or x u c.in-Or.parts c.in_ok-replace_in_formulas-in-Or.field-0 c.in_ok-replace_in_formulas-in-Or.ensures ∙ ap (λ z. replace x u (formula_tree z)) (sym c.in-Or.is)

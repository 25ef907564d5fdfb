use Rattle.std.proofs.Common.{map, sym, ◌∙◌, ap}
use Rattle.qed_terms.specs.View.{term_tree, formula_tree}
use Rattle.qed_terms.specs.declared.term.Term.TheVariants as t
use Rattle.qed_terms.specs.declared.term.Formula.TheVariants as f
use Rattle.qed_terms.specs.Tree.{trees_of}
use Rattle.qed_calls.specs.Calls.{with_arguments}
use Rattle.qed_calls.specs.View.{params}
use Rattle.qed_calls.proofs.Placed.{place_op, place_app, place_rel, place_and, place_or}
use Rattle.qed_calls.proofs.arguments.+place.Goals as goal

pub place_in_term-returns-in_ok-place_in_terms-in-Op : goal.place_in_term-returns-in_ok-place_in_terms-in-Op
place_in_term-returns-in_ok-place_in_terms-in-Op l c =
    let ps = params c.args.names.now in
    let ks = trees_of (map term_tree c.args.kids.now) in
    let us = c.in_ok-place_in_terms-in-Op.field-0 in
    ap (λ o. term_tree (t.Op o us)) c.in_ok-op-in-Op.ensures ∙ place_op ps ks c.in-Op.op c.in-Op.parts us c.in_ok-place_in_terms-in-Op.ensures ∙ ap (λ z. with_arguments ps ks (term_tree z)) (sym c.in-Op.is)

pub place_in_term-returns-in_ok-place_in_terms-in-App : goal.place_in_term-returns-in_ok-place_in_terms-in-App
place_in_term-returns-in_ok-place_in_terms-in-App l c =
    let ps = params c.args.names.now in
    let ks = trees_of (map term_tree c.args.kids.now) in
    let us = c.in_ok-place_in_terms-in-App.field-0 in
    ap (λ g. term_tree (t.App g us)) c.in_ok-function-in-App.ensures ∙ place_app ps ks c.in-App.function c.in-App.parts us c.in_ok-place_in_terms-in-App.ensures ∙ ap (λ z. with_arguments ps ks (term_tree z)) (sym c.in-App.is)

pub place_in_formula-returns-in_ok-place_in_terms-in-Rel : goal.place_in_formula-returns-in_ok-place_in_terms-in-Rel
place_in_formula-returns-in_ok-place_in_terms-in-Rel l c =
    let ps = params c.args.names.now in
    let ks = trees_of (map term_tree c.args.kids.now) in
    let us = c.in_ok-place_in_terms-in-Rel.field-0 in
    ap (λ o. formula_tree (f.Rel o us)) c.in_ok-op-in-Rel.ensures ∙ place_rel ps ks c.in-Rel.op c.in-Rel.terms us c.in_ok-place_in_terms-in-Rel.ensures ∙ ap (λ z. with_arguments ps ks (formula_tree z)) (sym c.in-Rel.is)

pub place_in_formula-returns-in_ok-place_in_formulas-in-And : goal.place_in_formula-returns-in_ok-place_in_formulas-in-And
place_in_formula-returns-in_ok-place_in_formulas-in-And l c =
    let ps = params c.args.names.now in
    let ks = trees_of (map term_tree c.args.kids.now) in
    place_and ps ks c.in-And.parts c.in_ok-place_in_formulas-in-And.field-0 c.in_ok-place_in_formulas-in-And.ensures ∙ ap (λ z. with_arguments ps ks (formula_tree z)) (sym c.in-And.is)

pub place_in_formula-returns-in_ok-place_in_formulas-in-Or : goal.place_in_formula-returns-in_ok-place_in_formulas-in-Or
place_in_formula-returns-in_ok-place_in_formulas-in-Or l c =
    let ps = params c.args.names.now in
    let ks = trees_of (map term_tree c.args.kids.now) in
    place_or ps ks c.in-Or.parts c.in_ok-place_in_formulas-in-Or.field-0 c.in_ok-place_in_formulas-in-Or.ensures ∙ ap (λ z. with_arguments ps ks (formula_tree z)) (sym c.in-Or.is)

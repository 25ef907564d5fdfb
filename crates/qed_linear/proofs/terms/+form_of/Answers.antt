use Rattle.std.proofs.Common.{◌≡◌, ◌∙◌, sym, ap, rules, FitsSigned, Some, None, option_map}
use Rattle.std.specs.Int.{w128}
use Rattle.std.proofs.lemmas.Int.{to_z-of_z}
use Rattle.qed_terms.specs.View.{term_tree}
use Rattle.qed_linear.specs.Linear.{number, to_lin, atom_lin}
use Rattle.qed_linear.specs.View.{lin_of}
use Rattle.qed_linear.proofs.TermForms.{to_lin_num, to_lin_op}
use Rattle.qed_linear.proofs.Places.{if_ok}
use Rattle.qed_linear.proofs.terms.+form_of.Goals as goal

pub form_of-returns-in-Num : goal.form_of-returns-in-Num
form_of-returns-in-Num t c =
    let fits : FitsSigned w128 c.in-Num.value = search rules in
    c.number.ensures ∙ ap number (to_z-of_z w128 c.in-Num.value fits) ∙ sym (to_lin_num c.in-Num.value fits) ∙ ap (λ x. to_lin (term_tree x)) (sym c.in-Num.is)

pub form_of-returns-in-Some : goal.form_of-returns-in-Some
form_of-returns-in-Some t c =
    let form = sym (ap (option_map lin_of) c.in-Some.is) ∙ c.in_ok-form-in-Op.ensures in
    sym (to_lin_op c.in-Op.op c.in-Op.kids (Some (lin_of c.in-Some.form)) form) ∙ ap (λ x. to_lin (term_tree x)) (sym c.in-Op.is)

pub form_of-returns-in_ok-copy-in-None : goal.form_of-returns-in_ok-copy-in-None
form_of-returns-in_ok-copy-in-None t c =
    let form = sym (ap (option_map lin_of) c.in-None.is) ∙ c.in_ok-form-in-Op.ensures in
    let same = sym (to_lin_op c.in-Op.op c.in-Op.kids None form) ∙ ap (λ x. to_lin (term_tree x)) (sym c.in-Op.is) in
    if_ok c.atom.result
    (λ form. lin_of form ≡ atom_lin (term_tree c.in_ok-copy-in-None.field-0))
    (λ form. lin_of form ≡ to_lin (term_tree c.args.term.now))
    (λ form k. k ∙ ap (λ x. atom_lin (term_tree x)) (c.in_ok-copy-in-None.ensures ∙ c.in-Op.is) ∙ same)
    c.atom.ensures

use Rattle.std.proofs.Common.{Some, sym, ◌∙◌, ap, rules, FitsSigned}
use Rattle.std.specs.Int.{w128}
use Rattle.std.proofs.lemmas.Int.{to_z-of_z}
use Rattle.qed_terms.specs.View.{term_tree}
use Rattle.qed_linear.specs.Linear.{number, own_form}
use Rattle.qed_linear.proofs.OwnForms.{own_num}
use Rattle.qed_linear.proofs.terms.own_form.Goals as goal

pub returns-in-Num : goal.returns-in-Num
returns-in-Num c =
    let z = c.in-Num.value in
    let fits : FitsSigned w128 z = search rules in
    ap Some (c.number.ensures ∙ ap number (to_z-of_z w128 z fits)) ∙ own_num z fits ∙ ap (λ x. own_form (term_tree x)) (sym c.in-Num.is)

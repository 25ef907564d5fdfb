use Rattle.std.proofs.Common.{◌≡◌, map, option_map, sym, ◌∙◌, ap}
use Rattle.qed_terms.specs.declared.head.Head.TheVariants as h
use Rattle.qed_terms.specs.Tree.{node, trees_of}
use Rattle.qed_terms.specs.View.{term_tree}
use Rattle.qed_linear.specs.Linear.{of_lin}
use Rattle.qed_rules.specs.Passes.{linear_term}
use Rattle.qed_linear.specs.View.{lin_of}
use Rattle.qed_rules.proofs.TermPasses.{op_some, op_none}
use Rattle.qed_linear.proofs.Places.{if_ok}
use Rattle.qed_rules.proofs.terms.by_form.Goals as goal

pub returns-in-Some : goal.returns-in-Some
returns-in-Some c =
    let form = lin_of c.in-Some.form in
    if_ok c.into_term.result
    (λ t. term_tree t ≡ of_lin form)
    (λ t. term_tree t ≡ linear_term (node (h.Term c.args.op) (trees_of (map term_tree c.args.kids))))
    (λ t k. k ∙ op_some c.args.op c.args.kids form (sym (ap (option_map lin_of) c.in-Some.is) ∙ c.in_ok-form.ensures))
    c.into_term.ensures

pub returns-in-None : goal.returns-in-None
returns-in-None c = op_none c.args.op c.args.kids (sym (ap (option_map lin_of) c.in-None.is) ∙ c.in_ok-form.ensures)

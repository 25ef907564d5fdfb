use Rattle.std.proofs.Common.{◌≡◌, map, take}
use Rattle.qed_terms.specs.View.{term_tree}
use Rattle.qed_linear.specs.Linear.{to_lin}
use Rattle.qed_linear.specs.View.{lin_of}
use Rattle.qed_linear.proofs.terms.+form_of.Given as goal

abbrev pub invariant-forms_of-loop-term : goal.invariant-forms_of-loop-term
invariant-forms_of-loop-term l = map lin_of l.forms.items ≡ map (λ t. to_lin (term_tree t)) (take l.term-index l.terms)

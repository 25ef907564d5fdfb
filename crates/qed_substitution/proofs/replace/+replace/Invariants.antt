use Rattle.std.proofs.Common.{◌≡◌, ◌+◌, ◌*◌, max, map, take}
use Rattle.qed_terms.specs.declared.term.Term.{size-Term}
use Rattle.qed_terms.specs.declared.term.Formula.{size-Formula}
use Rattle.qed_terms.specs.View.{term_tree, formula_tree}
use Rattle.qed_substitution.specs.Substitution.{replace}
use Rattle.qed_substitution.proofs.replace.+replace.Given as goal

-- twice the depth, and one more where the kids' depths are at hand
abbrev pub decreases-replace_in_term : goal.decreases-replace_in_term
decreases-replace_in_term l = size-Term l.term.now * 2

abbrev pub decreases-replace_in_formula : goal.decreases-replace_in_formula
decreases-replace_in_formula l = size-Formula l.formula.now * 2

abbrev pub decreases-replace_in_terms : goal.decreases-replace_in_terms
decreases-replace_in_terms l = goal.size-replace_in_terms l * 2 + 1

abbrev pub decreases-replace_in_formulas : goal.decreases-replace_in_formulas
decreases-replace_in_formulas l = goal.size-replace_in_formulas l * 2 + 1

abbrev pub decreases-replace_in_both : goal.decreases-replace_in_both
decreases-replace_in_both l = max (size-Formula l.left.now) (size-Formula l.right.now) * 2 + 1

abbrev pub decreases-replace_in_quantifier : goal.decreases-replace_in_quantifier
decreases-replace_in_quantifier l = max (max (size-Term l.low.now) (size-Term l.high.now)) (size-Formula l.body.now) * 2 + 1

abbrev pub invariant-replace_in_terms-loop-term : goal.invariant-replace_in_terms-loop-term
invariant-replace_in_terms-loop-term l = map term_tree l.new ≡ map (λ t. replace l.name (term_tree l.by) (term_tree t)) (take l.term-index l.terms)

abbrev pub invariant-replace_in_formulas-loop-formula : goal.invariant-replace_in_formulas-loop-formula
invariant-replace_in_formulas-loop-formula l = map formula_tree l.new ≡ map (λ f. replace l.name (term_tree l.by) (formula_tree f)) (take l.formula-index l.formulas)

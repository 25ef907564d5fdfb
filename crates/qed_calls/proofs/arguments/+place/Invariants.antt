use Rattle.std.proofs.Common.{◌≡◌, ◌+◌, ◌*◌, max, map, take}
use Rattle.qed_terms.specs.declared.term.Term.{size-Term}
use Rattle.qed_terms.specs.declared.term.Formula.{size-Formula}
use Rattle.qed_terms.specs.View.{term_tree, formula_tree}
use Rattle.qed_terms.specs.Tree.{trees_of}
use Rattle.qed_calls.specs.Calls.{with_arguments}
use Rattle.qed_calls.specs.View.{params}
use Rattle.qed_calls.proofs.arguments.+place.Given as goal

-- twice the depth, and one more where the kids' depths are at hand
abbrev pub decreases-place_in_term : goal.decreases-place_in_term
decreases-place_in_term l = size-Term l.term.now * 2

abbrev pub decreases-place_in_formula : goal.decreases-place_in_formula
decreases-place_in_formula l = size-Formula l.formula.now * 2

abbrev pub decreases-place_in_terms : goal.decreases-place_in_terms
decreases-place_in_terms l = goal.size-place_in_terms l * 2 + 1

abbrev pub decreases-place_in_formulas : goal.decreases-place_in_formulas
decreases-place_in_formulas l = goal.size-place_in_formulas l * 2 + 1

abbrev pub decreases-place_in_both : goal.decreases-place_in_both
decreases-place_in_both l = max (size-Formula l.left.now) (size-Formula l.right.now) * 2 + 1

abbrev pub decreases-place_in_quantifier : goal.decreases-place_in_quantifier
decreases-place_in_quantifier l = max (max (size-Term l.low.now) (size-Term l.high.now)) (size-Formula l.body.now) * 2 + 1

abbrev pub invariant-place_in_terms-loop-term : goal.invariant-place_in_terms-loop-term
invariant-place_in_terms-loop-term l = map term_tree l.new ≡ map (λ t. with_arguments (params l.names) (trees_of (map term_tree l.kids)) (term_tree t)) (take l.term-index l.terms)

abbrev pub invariant-place_in_formulas-loop-formula : goal.invariant-place_in_formulas-loop-formula
invariant-place_in_formulas-loop-formula l = map formula_tree l.new ≡ map (λ f. with_arguments (params l.names) (trees_of (map term_tree l.kids)) (formula_tree f)) (take l.formula-index l.formulas)

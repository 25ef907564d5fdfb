use Rattle.std.proofs.Common.{◌+◌, ◌*◌, map, take}
use Rattle.qed_terms.specs.Tree.{trees_of}
use Rattle.qed_terms.specs.View.{term_tree, formula_tree, view_setting}
use Rattle.qed_rules.specs.Passes.{pass_call}
use Rattle.qed_rules.specs.Rules.{step}
use Rattle.qed_rules.specs.View.{view_pass}
use Rattle.qed_simplify.specs.Normal.{Normals}
use Rattle.qed_simplify.proofs.Existence.{work_on, works_on}
use Rattle.qed_simplify.proofs.Steps.{pass_work}
use Rattle.qed_simplify.proofs.walk.+normalise.Given as goal

-- twice the work that the normal form is, and one more where that of the kids or of what goes again is at hand
abbrev pub decreases-normalise_term : goal.decreases-normalise_term
decreases-normalise_term l = 2 * (work_on (view_setting l.world.now)) (term_tree l.term.now)

abbrev pub decreases-normalise : goal.decreases-normalise
decreases-normalise l = 2 * (work_on (view_setting l.world.now)) (formula_tree l.formula.now)

abbrev pub decreases-normalise_terms : goal.decreases-normalise_terms
decreases-normalise_terms l = 2 * (works_on (view_setting l.world.now)) (trees_of (map term_tree l.terms.now)) + 1

abbrev pub decreases-normalise_all : goal.decreases-normalise_all
decreases-normalise_all l = 2 * (works_on (view_setting l.world.now)) (trees_of (map formula_tree l.formulas.now)) + 1

abbrev pub decreases-normalise_both : goal.decreases-normalise_both
decreases-normalise_both l = 2 * ((work_on (view_setting l.world.now)) (formula_tree l.left.now) + (work_on (view_setting l.world.now)) (formula_tree l.right.now)) + 1

abbrev pub decreases-normalise_range : goal.decreases-normalise_range
decreases-normalise_range l = 2 * ((work_on (view_setting l.world.now)) (term_tree l.low.now) + (work_on (view_setting l.world.now)) (term_tree l.high.now) + (work_on (view_setting l.world.now)) (formula_tree l.body.now)) + 1

abbrev pub decreases-settle : goal.decreases-settle
decreases-settle l = (pass_work (view_setting l.world.now)) (view_pass l.pass)

abbrev pub invariant-normalise_terms-loop-term : goal.invariant-normalise_terms-loop-term
invariant-normalise_terms-loop-term l = Normals (step (view_setting l.world)) (trees_of (map term_tree (take l.term-index l.terms))) (trees_of (map term_tree l.normals))

abbrev pub invariant-normalise_all-loop-formula : goal.invariant-normalise_all-loop-formula
invariant-normalise_all-loop-formula l = Normals (step (view_setting l.world)) (trees_of (map formula_tree (take l.formula-index l.formulas))) (trees_of (map formula_tree l.normals))

abbrev pub decreases-settle_call : goal.decreases-settle_call
decreases-settle_call l = pass_work (view_setting l.world.now) (pass_call (view_setting l.world.now).logic l.name.now (trees_of (map term_tree l.kids)))

use Rattle.std.proofs.Common.{◌≡◌, map, take}
use Rattle.qed_terms.specs.View.{formula_tree}
use Rattle.qed_rules.specs.Passes.{normal_not}
use Rattle.qed_rules.proofs.negations.+normal_not.Given as goal

abbrev pub invariant-normal_nots-loop-formula : goal.invariant-normal_nots-loop-formula
invariant-normal_nots-loop-formula l = map formula_tree l.normals ≡ map (λ f. normal_not (formula_tree f)) (take l.formula-index l.formulas)

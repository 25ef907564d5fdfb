use Rattle.std.proofs.Common.{◌≡◌, map, take}
use Rattle.qed_terms.specs.Tree.{not_of}
use Rattle.qed_terms.specs.View.{formula_tree}
use Rattle.qed_rules.proofs.turns.nots.Given as goal

abbrev pub invariant-loop-formula : goal.invariant-loop-formula
invariant-loop-formula l = map formula_tree l.nots ≡ map (λ f. not_of (formula_tree f)) (take l.formula-index l.formulas)

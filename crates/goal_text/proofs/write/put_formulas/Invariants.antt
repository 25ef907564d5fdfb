use Rattle.std.proofs.Common.{drop, map}
use Rattle.qed_terms.specs.View.{formula_tree}
use Rattle.goal_text.proofs.Writing.{Putting}
use Rattle.goal_text.proofs.write.put_formulas.Given as goal

-- what is put and what is to come are the whole
abbrev pub invariant-loop-formula : goal.invariant-loop-formula
invariant-loop-formula l = Putting l.fn.text.items l.text.items (map formula_tree l.formulas) (map formula_tree (drop l.formula-index l.formulas))

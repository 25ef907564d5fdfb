use Rattle.std.proofs.Common.{◌≡◌, false, map, take}
use Rattle.qed_terms.specs.View.{formula_tree}
use Rattle.formula_sets.specs.Sets.{some_among}
use Rattle.formula_sets.proofs.sets.have_common.Given as goal

abbrev pub invariant-loop-formula : goal.invariant-loop-formula
invariant-loop-formula l = some_among (map formula_tree (take l.formula-index l.formulas)) (map formula_tree l.others) ≡ false

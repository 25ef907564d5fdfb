use Rattle.std.proofs.Common.{◌≡◌, false, map, take}
use Rattle.qed_terms.specs.View.{formula_tree}
use Rattle.qed_rules.specs.Rules.{has, is_truth_constant}
use Rattle.qed_rules.proofs.junctions.has_truth_constant.Given as goal

abbrev pub invariant-loop-operand : goal.invariant-loop-operand
invariant-loop-operand l = has (is_truth_constant l.value) (map formula_tree (take l.operand-index l.operands)) ≡ false

use Rattle.std.proofs.Common.{◌≡◌, ◌++◌, map, drop}
use Rattle.qed_terms.specs.View.{formula_tree}
use Rattle.qed_rules.specs.Marked.{opposites}
use Rattle.qed_rules.proofs.junctions.opposites.Given as goal

abbrev pub invariant-loop-operand : goal.invariant-loop-operand
invariant-loop-operand l = map formula_tree l.others ++ opposites (map formula_tree (drop l.operand-index l.operands)) ≡ opposites (map formula_tree l.operands)

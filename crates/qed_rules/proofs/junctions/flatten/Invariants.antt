use Rattle.std.proofs.Common.{◌≡◌, ◌++◌, map, length}
use Rattle.qed_terms.specs.View.{formula_tree}
use Rattle.qed_rules.specs.Rules.{flatten}
use Rattle.qed_rules.proofs.junctions.flatten.Given as goal

abbrev pub invariant-loop-operand : goal.invariant-loop-operand
invariant-loop-operand l = record {
  count : l.operand-iterator.rest.len ≡ length l.operand-iterator.rest.items;
  so_far : map formula_tree l.flat ++ flatten l.all (map formula_tree l.operand-iterator.rest.items) ≡ flatten l.all (map formula_tree l.fn.operands);
}

use Rattle.std.proofs.Common.{◌≡◌, ◌++◌, map, length}
use Rattle.qed_terms.specs.View.{formula_tree}
use Rattle.qed_rules.specs.Rules.{drop_units}
use Rattle.qed_rules.proofs.junctions.drop_units.Given as goal

abbrev pub invariant-loop-operand : goal.invariant-loop-operand
invariant-loop-operand l = record {
  count : l.operand-iterator.rest.len ≡ length l.operand-iterator.rest.items;
  so_far : map formula_tree l.others ++ drop_units l.unit (map formula_tree l.operand-iterator.rest.items) ≡ drop_units l.unit (map formula_tree l.fn.operands);
}

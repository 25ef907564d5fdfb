use Rattle.std.proofs.Common.{◌≡◌, ◌+◌, ◌++◌, map, drop, length}
use Rattle.qed_terms.specs.View.{formula_tree}
use Rattle.qed_rules.specs.Marked.{kept_by}
use Rattle.qed_rules.proofs.junctions.keep_marked.Given as goal

abbrev pub invariant-loop-operand : goal.invariant-loop-operand
invariant-loop-operand l = record {
  count : l.operand-iterator.rest.len ≡ length l.operand-iterator.rest.items;
  place : l.at + length l.operand-iterator.rest.items ≡ length l.fn.operands;
  so_far : map formula_tree l.kept ++ kept_by (drop l.at l.fn.marks) (map formula_tree l.operand-iterator.rest.items) ≡ kept_by l.fn.marks (map formula_tree l.fn.operands);
}

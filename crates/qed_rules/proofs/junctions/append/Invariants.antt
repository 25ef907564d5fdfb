use Rattle.std.proofs.Common.{◌≡◌, ◌++◌, length}
use Rattle.qed_rules.proofs.junctions.append.Given as goal

abbrev pub invariant-loop-operand : goal.invariant-loop-operand
invariant-loop-operand l = record {
  count : l.operand-iterator.rest.len ≡ length l.operand-iterator.rest.items;
  so_far : l.all ++ l.operand-iterator.rest.items ≡ l.initial.all ++ l.fn.operands;
}

use Rattle.std.proofs.Common.{◌≡◌, ◌++◌, false, length, map}
use Rattle.acsl_trees.specs.Operands.{view_operand}
use Rattle.acsl_rules.specs.Chains.{nulls_behind}
use Rattle.acsl_rules.proofs.chains.nulls_behind.Given as goal

-- the values so far, and those that are to come
abbrev pub invariant-loop-value : goal.invariant-loop-value
invariant-loop-value l = record {
  count : l.value-iterator.rest.len ≡ length l.value-iterator.rest.items;
  so_far : map view_operand l.found ++ nulls_behind l.pointer_before l.left (map view_operand l.value-iterator.rest.items) ≡ nulls_behind false l.fn.ops (map view_operand l.fn.values);
}

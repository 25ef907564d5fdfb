use Rattle.std.proofs.Common.{◌≡◌, length, map}
use Rattle.acsl_trees.specs.Operands.{view_operand}
use Rattle.acsl_rules.specs.Chains.{onto, all_valued}
use Rattle.acsl_rules.proofs.chains.all_valued.Given as goal

-- the values so far, and those that are to come
abbrev pub invariant-loop-term : goal.invariant-loop-term
invariant-loop-term l = record {
  count : l.term-iterator.rest.len ≡ length l.term-iterator.rest.items;
  so_far : onto (map view_operand l.values) (all_valued l.line (map view_operand l.term-iterator.rest.items)) ≡ all_valued l.line (map view_operand l.fn.terms);
}

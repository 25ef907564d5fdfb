use Rattle.std.proofs.Common.{◌≡◌, ◌≤◌, map, drop, length}
use Rattle.typed_prog.specs.declared.tree.Value.{size-Value}
use Rattle.typed_prog.specs.Tree as t
use Rattle.typed_prog.specs.View.{view_value, view_value_node}
use Rattle.c_sequence.specs.Sequence.{and_also, node_effects, all_effects}
use Rattle.c_sequence.proofs.found.+effects.Given as goal

-- those in the operand that is left and those found beside it make all, and that operand is no larger
abbrev pub invariant-effects-loop-rest : goal.invariant-effects-loop-rest
invariant-effects-loop-rest l = record {
  all : and_also (node_effects (view_value_node l.rest.node)) l.found ≡ node_effects (view_value_node l.value.node);
  no_larger : size-Value l.rest ≤ size-Value l.value;
}

abbrev pub invariant-all_effects-loop-left : goal.invariant-all_effects-loop-left
invariant-all_effects-loop-left l = record {
  behind : l.found ≡ all_effects (t.values_of (map view_value (drop l.left l.operands)));
  within : l.left ≤ length l.operands;
}

abbrev pub decreases-all_effects-loop-left : goal.decreases-all_effects-loop-left
decreases-all_effects-loop-left l = l.left

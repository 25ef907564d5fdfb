use Rattle.std.proofs.Common.{◌≡◌, ◌≤◌, map, drop, length}
use Rattle.typed_prog.specs.declared.tree.Value.{size-Value}
use Rattle.typed_prog.specs.Tree as t
use Rattle.typed_prog.specs.View.{view_value, view_value_node}
use Rattle.c_sequence.specs.Sequence.{plain_of, node_summed, all_summed}
use Rattle.c_sequence.specs.Around.{whole}
use Rattle.c_sequence.proofs.summaries.+summed.Given as goal

-- what stands around the operand that is left makes the whole, and that operand is no larger
abbrev pub invariant-summed-loop-rest : goal.invariant-summed-loop-rest
invariant-summed-loop-rest l = record {
  all : whole l.around (node_summed (plain_of l.globals l.locals) l.embedded (view_value_node l.rest.node)) ≡ node_summed (plain_of l.globals l.locals) l.embedded (view_value_node l.value.node);
  no_larger : size-Value l.rest ≤ size-Value l.value;
}

abbrev pub invariant-all_summed-loop-left : goal.invariant-all_summed-loop-left
invariant-all_summed-loop-left l = record {
  behind : l.whole ≡ all_summed (plain_of l.globals l.locals) l.embedded (t.values_of (map view_value (drop l.left l.operands)));
  within : l.left ≤ length l.operands;
}

abbrev pub decreases-all_summed-loop-left : goal.decreases-all_summed-loop-left
decreases-all_summed-loop-left l = l.left

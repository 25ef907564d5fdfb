use Rattle.std.proofs.Common.{◌≡◌, ◌+◌, ◌*◌, max, drop}
use Rattle.typed_prog.specs.declared.tree.Value.{size-Value}
use Rattle.typed_prog.specs.Tree.{values_of}
use Rattle.typed_prog.specs.View.{view_value, view_values}
use Rattle.core_trees.specs.View.{view_variables}
use Rattle.c_runs.specs.Plans.{pures}
use Rattle.normal_values.proofs.Operands.{RestInto}
use Rattle.normal_values.proofs.pure.+pure.Given as goal

abbrev pub decreases-pure_made : goal.decreases-pure_made
decreases-pure_made l = size-Value l.value.now * 8

abbrev pub decreases-leaf_test : goal.decreases-leaf_test
decreases-leaf_test l = size-Value l.value.now * 8 + 1

abbrev pub decreases-pure_test : goal.decreases-pure_test
decreases-pure_test l = size-Value l.value.now * 8 + 2

abbrev pub decreases-logic_test : goal.decreases-logic_test
decreases-logic_test l = max (size-Value l.first.now) (size-Value l.second.now) * 8 + 3

abbrev pub decreases-logic_made : goal.decreases-logic_made
decreases-logic_made l = max (size-Value l.first.now) (size-Value l.second.now) * 8 + 4

abbrev pub decreases-choice_by_jumps : goal.decreases-choice_by_jumps
decreases-choice_by_jumps l = max (max (size-Value l.first.now) (size-Value l.second.now)) (size-Value l.test.now) * 8 + 3

abbrev pub decreases-choice_by_branch : goal.decreases-choice_by_branch
decreases-choice_by_branch l = max (max (size-Value l.first.now) (size-Value l.second.now)) (size-Value l.test.now) * 8 + 3

abbrev pub decreases-pures : goal.decreases-pures
decreases-pures l = goal.size-pures l * 8 + 3

-- what was pushed, and what will be for those that are left, is the whole
abbrev pub invariant-pures-loop-value : goal.invariant-pures-loop-value
invariant-pures-loop-value l = record {
  counted : l.at ≡ l.value-index;
  rest : RestInto l.fn.out l.out l.operands (pures (view_variables l.variables) (view_value l.done) (values_of (view_values (drop l.value-index l.values))) l.next)
      (pures (view_variables l.variables) (view_value l.done) (values_of (view_values l.values)) l.fn.next);
}

use Rattle.std.proofs.Common.{◌≡◌, ◌+◌, ◌*◌, max, drop}
use Rattle.typed_prog.specs.declared.tree.Value.{size-Value}
use Rattle.typed_prog.specs.Tree.{values_of}
use Rattle.typed_prog.specs.View.{view_values}
use Rattle.core_trees.specs.View.{view_variables}
use Rattle.c_runs.specs.Plans.{first_plan}
use Rattle.normal_plans.proofs.whole.+whole.Given as goal

abbrev pub decreases-planned_made : goal.decreases-planned_made
decreases-planned_made l = size-Value l.value.now * 8

abbrev pub decreases-first_in : goal.decreases-first_in
decreases-first_in l = size-Value l.value.now * 8

abbrev pub decreases-leaf_test : goal.decreases-leaf_test
decreases-leaf_test l = size-Value l.value.now * 8 + 1

abbrev pub decreases-value_sent : goal.decreases-value_sent
decreases-value_sent l = size-Value l.value.now * 8 + 1

abbrev pub decreases-planned_test : goal.decreases-planned_test
decreases-planned_test l = size-Value l.value.now * 8 + 2

abbrev pub decreases-planned_sent : goal.decreases-planned_sent
decreases-planned_sent l = size-Value l.value.now * 8 + 2

abbrev pub decreases-logic_test : goal.decreases-logic_test
decreases-logic_test l = max (size-Value l.first.now) (size-Value l.second.now) * 8 + 3

abbrev pub decreases-logic_made : goal.decreases-logic_made
decreases-logic_made l = max (size-Value l.first.now) (size-Value l.second.now) * 8 + 4

abbrev pub decreases-choice_by_jumps : goal.decreases-choice_by_jumps
decreases-choice_by_jumps l = max (max (size-Value l.first.now) (size-Value l.second.now)) (size-Value l.test.now) * 8 + 3

abbrev pub decreases-choice_by_branch : goal.decreases-choice_by_branch
decreases-choice_by_branch l = max (max (size-Value l.first.now) (size-Value l.second.now)) (size-Value l.test.now) * 8 + 3

abbrev pub decreases-choice_made : goal.decreases-choice_made
decreases-choice_made l = max (max (size-Value l.first.now) (size-Value l.second.now)) (size-Value l.test.now) * 8 + 4

abbrev pub decreases-first_of : goal.decreases-first_of
decreases-first_of l = goal.size-first_of l * 8 + 3

abbrev pub decreases-applied_made : goal.decreases-applied_made
decreases-applied_made l = goal.size-applied_made l * 8 + 4

abbrev pub decreases-effect_made : goal.decreases-effect_made
decreases-effect_made l = goal.size-effect_made l * 8 + 4

abbrev pub decreases-effect_sent : goal.decreases-effect_sent
decreases-effect_sent l = goal.size-effect_sent l * 8 + 4

-- nothing comes first so far, and nothing was pushed
abbrev pub invariant-first_of-loop-value : goal.invariant-first_of-loop-value
invariant-first_of-loop-value l = record {
  first : first_plan (view_variables l.variables) (values_of (view_values (drop l.value-index l.values))) l.next ≡ first_plan (view_variables l.variables) (values_of (view_values l.values)) l.next;
  same : l.out ≡ l.fn.out;
}

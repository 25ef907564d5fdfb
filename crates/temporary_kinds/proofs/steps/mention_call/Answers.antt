use Rattle.checked_trees.specs.View.{view_goal}
use Rattle.typed_prog.specs.Tree.{values_of}
use Rattle.typed_prog.specs.View.{view_values}
use Rattle.temporary_kinds.specs.Kinds.{values_kind, values_count, goal_kind, goal_count}
use Rattle.temporary_kinds.proofs.Telling.{then_told}
use Rattle.temporary_kinds.proofs.steps.mention_call.Goals as goal

pub returns : goal.returns
returns c =
    then_told c.args.kinds.now.items c.mention_values.new.kinds.items c.mention_goal.new.kinds.items (values_kind (values_of (view_values c.args.operands.now)))
    (goal_kind (view_goal c.args.to.now) c.args.given) (values_count (values_of (view_values c.args.operands.now))) (goal_count (view_goal c.args.to.now))
    c.in_ok-mention_values.ensures c.in_ok-mention_goal.ensures

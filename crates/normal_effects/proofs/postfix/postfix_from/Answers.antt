use Rattle.typed_prog.specs.Tree.{values_of}
use Rattle.typed_prog.specs.View.{view_value, view_values}
use Rattle.core_trees.specs.View.{view_variables}
use Rattle.normal_effects.proofs.Storing.{postfix_whole}
use Rattle.normal_effects.proofs.postfix.postfix_from.Goals as goal

pub returns : goal.returns
returns c =
    postfix_whole c.args.out.now c.old_saved.new.out c.new_made.new.out c.value_stored.new.out (view_variables c.args.variables.now) c.args.like.now.ty c.args.like.now.line c.args.path.now c.args.by
    (view_value c.args.done.now) (values_of (view_values c.others_of-others.result.now)) (values_of (view_values c.args.operands.now)) c.args.next c.in_ok-old.next c.in_ok-value.next c.in_ok-last.last
    c.in_ok-old.old c.in_ok-value.value c.in_ok-left.left c.others_of-others.ensures c.in_ok-old.ensures c.in_ok-left.ensures c.in_ok-value.ensures c.in_ok-last.ensures

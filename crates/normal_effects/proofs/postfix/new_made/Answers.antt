use Rattle.c_runs.specs.Run.{first_operand}
use Rattle.typed_prog.specs.Tree.{values_of}
use Rattle.typed_prog.specs.View.{view_value, view_values}
use Rattle.core_trees.specs.View.{view_variables}
use Rattle.c_runs.specs.Plans.{pure}
use Rattle.normal_effects.proofs.Storing.{new_done}
use Rattle.normal_effects.proofs.postfix.new_made.Goals as goal

pub returns : goal.returns
returns c =
    let xs = view_variables c.args.variables.now in
    let es = values_of (view_values c.args.operands.now) in
    new_done c.args.out.now c.first_made.new.out c.save_if.new.out xs c.args.by c.args.like.now.ty c.args.like.now.line c.need-needed.result (values_of (view_values c.others_of.result.now)) es
    ((pure xs (view_value c.args.done.now) (first_operand es)).made c.args.next) c.args.old c.in_ok-other.other c.in_ok-value.value c.in_ok-value-2.value c.in_ok-other.next c.in_ok-value-2.next c.in_ok-other.ensures
    c.in_ok-value.ensures c.others_of.ensures c.need-needed.ensures c.in_ok-value-2.ensures

use Rattle.typed_prog.specs.Tree.{values_of}
use Rattle.typed_prog.specs.View.{view_values}
use Rattle.core_trees.specs.View.{view_variables}
use Rattle.c_runs.specs.Plans.{operands, first_plan}
use Rattle.normal_plans.proofs.Alone.{call_done}
use Rattle.normal_plans.proofs.operands.call_into.Goals as goal

pub returns : goal.returns
returns c =
    let xs = view_variables c.args.variables.now in
    let es = values_of (view_values c.args.operands.now) in
    call_done c.args.out.now c.operands_of.new.out c.push.new.out c.args.to c.args.function c.args.line (operands xs es (first_plan xs es) c.args.next) c.in_ok-arguments.arguments c.in_ok-arguments.last
    c.in_ok-arguments.ensures c.in_ok-push.ensures

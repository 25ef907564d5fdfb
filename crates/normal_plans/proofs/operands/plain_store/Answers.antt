use Rattle.typed_prog.specs.Tree.{values_of}
use Rattle.typed_prog.specs.View.{view_values}
use Rattle.core_trees.specs.View.{view_variables}
use Rattle.c_runs.specs.Plans.{operands, first_plan}
use Rattle.normal_plans.proofs.Alone.{plain_store_done}
use Rattle.normal_plans.proofs.operands.plain_store.Goals as goal

pub returns : goal.returns
returns c =
    let xs = view_variables c.args.variables.now in
    let y = operands xs (values_of (view_values c.args.operands.now)) (first_plan xs (values_of (view_values c.args.from.now))) c.args.next in
    plain_store_done c.args.out.now c.operands_of.new.out c.push_store.new.out xs c.args.like.now.ty c.args.like.now.line c.args.path.now y c.in_ok-values.values c.in_ok-values.last c.in_ok-values.ensures
    c.in_ok-push_store.ensures

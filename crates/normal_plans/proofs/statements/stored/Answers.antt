use Rattle.core_trees.specs.View.{view_variables}
use Rattle.normal_plans.proofs.Alone.{stored_plain}
use Rattle.normal_plans.proofs.statements.stored.Goals as goal

pub returns-in_ok-last-in-None : goal.returns-in_ok-last-in-None
returns-in_ok-last-in-None c =
    stored_plain c.args.out.now c.plain_store-in-None.new.out (view_variables c.args.variables.now) c.args.like.now.ty c.args.like.now.line c.args.path.now c.args.operands.now c.in-Some.first.now c.in-Some.others.now
    c.args.next c.in_ok-last-in-None.last c.in-Some.ensures.cases.0 c.in-None.ensures c.in_ok-last-in-None.ensures

use Rattle.core_trees.specs.View.{view_variables}
use Rattle.program_trees.specs.View.{view_stmts}
use Rattle.typed_prog.specs.View.{view_value}
use Rattle.normal_bodies.proofs.Doing.{operand_settled}
use Rattle.normal_bodies.proofs.steps.switch_begun.Goals as goal

pub returns : goal.returns
returns c =
    operand_settled c.args.out.now c.planned_made.new.out c.settled.new.out c.in_ok-lead.lead (view_variables c.args.variables.now) (view_value c.args.value.now) (view_stmts c.args.body.now)
    c.args.next c.in_ok-value.value c.in_ok-value.next c.in_ok-value-2.value c.in_ok-value-2.next c.in_ok-value.ensures c.in_ok-value-2.ensures c.in_ok-lead.ensures

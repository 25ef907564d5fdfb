use Rattle.std.proofs.Common.{ap, subst, ◌∙◌}
use Rattle.core_trees.specs.View.{view_variables}
use Rattle.program_trees.specs.View.{view_facts}
use Rattle.typed_prog.specs.Tree.{values_of}
use Rattle.typed_prog.specs.View.{view_value, view_value_node, view_values}
use Rattle.typed_prog.proofs.Equations.{view_value_node-Apply, view_value_node-Logic, view_value_node-Choose}
use Rattle.program_cells.specs.Programs.{value_parts, values_parts}
use Rattle.program_cells.specs.View.{Adds}
use Rattle.program_cells.proofs.Expressions.{operation_added, logic_added, choice_added}
use Rattle.program_cells.proofs.values.+add_value.Goals as goal

pub add_node-returns-in_ok-add_values-in-Apply : goal.add_node-returns-in_ok-add_values-in-Apply
add_node-returns-in_ok-add_values-in-Apply t c =
    operation_added (view_facts c.args.facts.now) (view_variables c.args.own.now) c.args.ty.now (view_value_node c.args.node.now) c.in-Apply.op
    (values_of (view_values c.in-Apply.operands)) c.args.cells.now c.add_op.new.cells c.add_values.new.cells
    (ap view_value_node c.in-Apply.is ∙ view_value_node-Apply c.in-Apply.op c.in-Apply.operands) c.in_ok-add_op-in-Apply.ensures
    (subst (λ vs. Adds c.add_op.new.cells c.add_values.new.cells (values_parts (view_facts c.args.facts.now) (view_variables c.args.own.now) (values_of (view_values vs))))
    c.as_slice.ensures c.in_ok-add_values-in-Apply.ensures)

pub add_node-returns-in_ok-add_value-in-Logic-2 : goal.add_node-returns-in_ok-add_value-in-Logic-2
add_node-returns-in_ok-add_value-in-Logic-2 t c =
    logic_added (view_facts c.args.facts.now) (view_variables c.args.own.now) c.args.ty.now (view_value_node c.args.node.now) c.in-Logic.field-0
    (view_value c.in-Logic.first) (view_value c.in-Logic.second) c.args.cells.now c.add_value.new.cells c.add_value-in-Logic.new.cells
    (ap view_value_node c.in-Logic.is ∙ view_value_node-Logic c.in-Logic.field-0 c.in-Logic.first c.in-Logic.second)
    (subst (λ v. Adds c.args.cells.now c.add_value.new.cells (value_parts (view_facts c.args.facts.now) (view_variables c.args.own.now) (view_value v)))
    c.get.ensures c.in_ok-add_value-in-Logic.ensures)
    (subst (λ v. Adds c.add_value.new.cells c.add_value-in-Logic.new.cells (value_parts (view_facts c.args.facts.now) (view_variables c.args.own.now) (view_value v)))
    c.get-in-Logic.ensures c.in_ok-add_value-in-Logic-2.ensures)

pub add_node-returns-in_ok-add_value-in-Choose-3 : goal.add_node-returns-in_ok-add_value-in-Choose-3
add_node-returns-in_ok-add_value-in-Choose-3 t c =
    choice_added (view_facts c.args.facts.now) (view_variables c.args.own.now) c.args.ty.now (view_value_node c.args.node.now) (view_value c.in-Choose.test)
    (view_value c.in-Choose.first) (view_value c.in-Choose.second) c.args.cells.now c.add_value-in-Choose.new.cells c.add_value-in-Choose-2.new.cells
    c.add_value-in-Choose-3.new.cells (ap view_value_node c.in-Choose.is ∙ view_value_node-Choose c.in-Choose.test c.in-Choose.first c.in-Choose.second)
    (subst (λ v. Adds c.args.cells.now c.add_value-in-Choose.new.cells (value_parts (view_facts c.args.facts.now) (view_variables c.args.own.now) (view_value v)))
    c.get-in-Choose.ensures c.in_ok-add_value-in-Choose.ensures)
    (subst (λ v. Adds c.add_value-in-Choose.new.cells c.add_value-in-Choose-2.new.cells (value_parts (view_facts c.args.facts.now) (view_variables c.args.own.now)
    (view_value v))) c.get-in-Choose-2.ensures c.in_ok-add_value-in-Choose-2.ensures)
    (subst (λ v. Adds c.add_value-in-Choose-2.new.cells c.add_value-in-Choose-3.new.cells (value_parts (view_facts c.args.facts.now) (view_variables c.args.own.now)
    (view_value v))) c.get-in-Choose-3.ensures c.in_ok-add_value-in-Choose-3.ensures)

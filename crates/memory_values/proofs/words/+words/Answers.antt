use Rattle.std.proofs.Common.{rules, FitsSigned, ap, ◌∙◌}
use Rattle.std.proofs.lemmas.Int.{to_z-of_z}
use Rattle.std.specs.Int.{w128}
use Rattle.qed_terms.specs.Tree.{num}
use Rattle.typed_prog.specs.View.{view_value_node}
use Rattle.typed_prog.proofs.Equations.{view_value_node-Constant, view_value_node-Null, view_value_node-Temporary, view_value_node-Apply, view_value_node-Logic, view_value_node-Choose, view_value_node-Effect}
use Rattle.value_terms.specs.Readings.{as_number, as_pointer}
use Rattle.memory_values.specs.declared.terms.ValueTerm.TheVariants as term
use Rattle.memory_values.specs.View.{facts_in, shape_in, view_reading}
use Rattle.memory_values.proofs.Making.{constant_made, null_made, temporary_made, operation_lent, logic_made, choice_made, effect_made, operand_turn}
use Rattle.memory_values.proofs.words.+words.Goals as goal

pub make-returns-in-Constant : goal.make-returns-in-Constant
make-returns-in-Constant t c =
    let fits : FitsSigned w128 c.in-Constant.number = search rules in
    constant_made (facts_in c.args.reading) (shape_in c.args.reading).variables (view_reading c.args.reading)
    (view_value_node c.args.value.now.node) c.args.value.now.ty c.args.value.now.line
    c.in-Constant.number c.args.items.now.items (term.Number c.number.result)
    (ap view_value_node c.in-Constant.is ∙ view_value_node-Constant c.in-Constant.number)
    (ap as_number (c.number.ensures ∙ ap num (to_z-of_z w128 c.in-Constant.number fits)))

pub make-returns-in-Null : goal.make-returns-in-Null
make-returns-in-Null t c =
    null_made (facts_in c.args.reading) (shape_in c.args.reading).variables (view_reading c.args.reading)
    (view_value_node c.args.value.now.node) c.args.value.now.ty c.args.value.now.line
    _ _ (ap view_value_node c.in-Null.is ∙ view_value_node-Null) (λ i. as_pointer (c.number-in-Null.ensures i) (c.number-in-Null-2.ensures i))

pub make-returns-in_ok-made-in-Temporary : goal.make-returns-in_ok-made-in-Temporary
make-returns-in_ok-made-in-Temporary t c =
    temporary_made (facts_in c.args.reading) (shape_in c.args.reading).variables (view_reading c.args.reading)
    (view_value_node c.args.value.now.node) c.args.value.now.ty c.args.value.now.line
    c.in-Temporary.number _ _ (ap view_value_node c.in-Temporary.is ∙ view_value_node-Temporary c.in-Temporary.number) c.in_ok-made-in-Temporary.ensures

pub make-returns-in_ok-made-in-Apply : goal.make-returns-in_ok-made-in-Apply
make-returns-in_ok-made-in-Apply t c =
    operation_lent (facts_in c.args.reading) (shape_in c.args.reading).variables (view_reading c.args.reading)
    (view_value_node c.args.value.now.node) c.args.value.now.ty c.args.value.now.line
    c.in-Apply.op c.in-Apply.operands c.as_slice-operands.result.now
    c.args.items.now.items c.make_all.new.items.items c.applied.new.items.items
    c.in_ok-terms-in-Apply.terms.items c.as_slice-terms.result.now
    c.in_ok-made-in-Apply.made
    (ap view_value_node c.in-Apply.is ∙ view_value_node-Apply c.in-Apply.op c.in-Apply.operands)
    c.as_slice-operands.ensures c.as_slice-terms.ensures.value c.in_ok-terms-in-Apply.ensures
    c.in_ok-made-in-Apply.ensures

pub make-returns-in-Logic : goal.make-returns-in-Logic
make-returns-in-Logic t c =
    logic_made (facts_in c.args.reading) (shape_in c.args.reading).variables (view_reading c.args.reading)
    (view_value_node c.args.value.now.node) c.args.value.now.ty c.args.value.now.line
    _ _ _ _ _ (ap view_value_node c.in-Logic.is ∙ view_value_node-Logic c.in-Logic.field-0 c.in-Logic.field-1 c.in-Logic.field-2) c.nothing.ensures

pub make-returns-in-Choose : goal.make-returns-in-Choose
make-returns-in-Choose t c =
    choice_made (facts_in c.args.reading) (shape_in c.args.reading).variables (view_reading c.args.reading)
    (view_value_node c.args.value.now.node) c.args.value.now.ty c.args.value.now.line
    _ _ _ _ _ (ap view_value_node c.in-Choose.is ∙ view_value_node-Choose c.in-Choose.field-0 c.in-Choose.field-1 c.in-Choose.field-2) c.nothing-in-Choose.ensures

pub make-returns-in-Effect : goal.make-returns-in-Effect
make-returns-in-Effect t c =
    effect_made (facts_in c.args.reading) (shape_in c.args.reading).variables (view_reading c.args.reading)
    (view_value_node c.args.value.now.node) c.args.value.now.ty c.args.value.now.line
    _ _ _ _ (ap view_value_node c.in-Effect.is ∙ view_value_node-Effect c.in-Effect.field-0 c.in-Effect.field-1) c.nothing-in-Effect.ensures

pub make_all-loop-value-preserved : goal.make_all-loop-value-preserved
make_all-loop-value-preserved t c =
    operand_turn (facts_in c.args.reading) (shape_in c.args.reading).variables (view_reading c.args.reading)
    c.args.items.now.items c.loop-value.items.items c.make.new.items.items c.loop-value.terms.items c.push.new.self.items c.in_ok-term.term c.args.values.now c.loop-value.value-index
    c.value-item.result c.loop-value-test.true c.value-item.is c.in_ok-term.ensures c.in_ok-push.ensures.items c.loop-value.invariant

use Rattle.std.proofs.Common.{true, IfOk, arith, sym, ap, ◌∙◌, subst}
use Rattle.typed_prog.specs.Tree.{values_of}
use Rattle.typed_prog.specs.View.{view_value, view_values}
use Rattle.core_trees.specs.View.{view_variables}
use Rattle.c_runs.specs.Plans.{planned, first_plan, whole_made}
use Rattle.normal_steps.proofs.Conditions.{straight_done}
use Rattle.normal_steps.proofs.Ways.{jumps_done, branch_done}
use Rattle.normal_steps.specs.Into.{MadeInto}
use Rattle.normal_effects.proofs.Behind.{effect_sent_done}
use Rattle.normal_plans.proofs.Wholes.{whole_done, applied_is, first_none}
use Rattle.normal_plans.proofs.whole.+whole.Goals as goal

pub choice_by_jumps-returns : goal.choice_by_jumps-returns
choice_by_jumps-returns t c =
    let xs = view_variables c.args.variables.now in
    jumps_done c.args.out.now c.joined.new.out c.new-inner.result c.planned_test.new.out c.planned_sent.new.out c.in_ok-outer.outer c.planned_sent-2.new.out c.args.like.now.ty c.args.like.now.line
    (planned xs (view_value c.args.first.now)) (planned xs (view_value c.args.second.now)) ((planned xs (view_value c.args.test.now)).test true 0 c.args.next) c.in_ok-put.put c.in_ok-put-2.put c.in_ok-left.left
    c.in_ok-tested.tested c.in_ok-put.slot c.in_ok-outer.free c.in_ok-put-2.last c.new-inner.ensures c.in_ok-tested.ensures c.in_ok-put.ensures c.in_ok-outer.ensures.0 c.in_ok-outer.ensures.1 c.in_ok-put-2.ensures
    c.in_ok-left.ensures.0 c.in_ok-left.ensures.1

pub choice_by_branch-returns : goal.choice_by_branch-returns
choice_by_branch-returns t c =
    let xs = view_variables c.args.variables.now in
    branch_done c.args.out.now c.planned_made.new.out c.branched.new.out c.new-yes.result c.planned_sent.new.out c.put_first.new.out c.new-no.result c.planned_sent-2.new.out c.args.like.now.ty c.args.like.now.line
    (planned xs (view_value c.args.first.now)) (planned xs (view_value c.args.second.now)) ((planned xs (view_value c.args.test.now)).made c.args.next) c.in_ok-tested.tested c.in_ok-left.left c.in_ok-put.put c.in_ok-put-2.put
    c.in_ok-tested.next c.in_ok-put.slot c.in_ok-free.free c.in_ok-put-2.last c.in_ok-tested.ensures c.new-yes.ensures c.in_ok-put.ensures c.in_ok-free.ensures.0 c.in_ok-free.ensures.1 c.new-no.ensures
    c.in_ok-put-2.ensures c.in_ok-left.ensures.0 c.in_ok-left.ensures.1

pub logic_test-returns-in_ok-next-4 : goal.logic_test-returns-in_ok-next-4
logic_test-returns-in_ok-next-4 t c =
    let xs = view_variables c.args.variables.now in
    straight_done c.args.out.now c.planned_test-else-decides-want.new.out c.planned_test-else-decides-want-2.new.out (planned xs (view_value c.args.first.now)) (planned xs (view_value c.args.second.now)) c.args.how
    c.decides.result c.args.want c.args.block c.args.next c.in_ok-next-3.next c.in_ok-next-4.next c.decides.ensures c.if-decides-want.false c.in_ok-next-3.ensures c.in_ok-next-4.ensures

pub applied_made-returns : goal.applied_made-returns
applied_made-returns t c =
    let xs = view_variables c.args.variables.now in
    whole_done c.args.out.now c.first_of.new.out c.pure_made.new.out xs (first_plan xs (values_of (view_values c.args.operands.now))) c.in_ok-done.done c.in_ok-left.left c.args.next c.in_ok-done.next c.in_ok-left.next
    (view_value c.args.value.now) c.in_ok-done.ensures c.in_ok-left.ensures

pub effect_sent-returns : goal.effect_sent-returns
effect_sent-returns t c =
    let xs = view_variables c.args.variables.now in
    let es = values_of (view_values c.args.operands.now) in
    effect_sent_done c.args.out.now c.first_of.new.out c.effect_sent_from.new.out xs c.args.like.now.ty c.args.like.now.line c.args.effect.now es (first_plan xs es) c.in_ok-done.done c.in_ok-put.put c.args.next c.in_ok-done.next
    c.in_ok-put.next c.in_ok-done.ensures c.in_ok-put.ensures

pub first_of-returns : goal.first_of-returns
first_of-returns t c =
    let xs = view_variables c.args.variables.now in
    let whole = first_plan xs (values_of (view_values c.args.values.now)) c.args.next in
    subst (λ ss. MadeInto c.args.out.now ss whole c.no_value.result c.args.next) (sym c.loop-value.invariant.same)
    (first_none c.args.out.now xs c.args.values.now c.loop-value.value-index c.args.next whole c.no_value.result (omega (arith, c.loop-value-test.false)) c.loop-value.invariant.first c.no_value.ensures)

pub planned_made-returns-in-Apply : goal.planned_made-returns-in-Apply
planned_made-returns-in-Apply t c =
    let xs = view_variables c.args.variables.now in
    let v = c.args.value.now in
    let same = ap (λ es. whole_made xs (view_value v) (first_plan xs (values_of (view_values es))) c.args.next) c.as_slice.ensures
    ∙ sym (applied_is xs v c.in-Apply.field-0 c.in-Apply.operands c.args.next c.in-Apply.is) in
    subst (λ m. IfOk c.applied_made.result (λ r. MadeInto c.args.out.now c.applied_made.new.out m r.0 r.1)) same c.applied_made.ensures

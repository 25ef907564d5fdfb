use Rattle.std.proofs.Common.{◌+◌, true, arith, refl, sym}
use Rattle.typed_prog.specs.Tree.{values_of}
use Rattle.typed_prog.specs.View.{view_value, view_values}
use Rattle.core_trees.specs.View.{view_variables}
use Rattle.c_runs.specs.Plans.{pure, pures}
use Rattle.normal_steps.specs.declared.puts.Put.TheVariants as put
use Rattle.normal_steps.proofs.Conditions.{straight_done}
use Rattle.normal_steps.proofs.Ways.{jumps_done, branch_done}
use Rattle.normal_values.proofs.Purely.{pure_sent}
use Rattle.normal_values.proofs.Operands.{operands_begin, operand_turn, operands_done}
use Rattle.normal_values.proofs.pure.+pure.Goals as goal

pub choice_by_jumps-returns : goal.choice_by_jumps-returns
choice_by_jumps-returns t c =
    let xs = view_variables c.args.variables.now in
    let d = view_value c.args.done.now in
    let a = view_value c.args.first.now in
    let b = view_value c.args.second.now in
    jumps_done c.args.out.now c.joined.new.out c.new-inner.result c.pure_test.new.out c.pure_made.new.out c.in_ok-outer.outer c.pure_made-2.new.out c.args.like.now.ty c.args.like.now.line (pure xs d a) (pure xs d b)
    ((pure xs d (view_value c.args.test.now)).test true 0 c.args.next) (put.Made c.in_ok-value.value) (put.Made c.in_ok-value-2.value) c.in_ok-left.left c.in_ok-tested.tested c.in_ok-value.slot c.in_ok-outer.free
    c.in_ok-value-2.last c.new-inner.ensures c.in_ok-tested.ensures (pure_sent c.pure_test.new.out c.pure_made.new.out xs d a c.in_ok-tested.tested c.in_ok-value.slot c.in_ok-value.value c.in_ok-value.ensures)
    c.in_ok-outer.ensures.0 c.in_ok-outer.ensures.1 (pure_sent c.in_ok-outer.outer c.pure_made-2.new.out xs d b c.in_ok-outer.free c.in_ok-value-2.last c.in_ok-value-2.value c.in_ok-value-2.ensures)
    c.in_ok-left.ensures.0 c.in_ok-left.ensures.1

pub choice_by_branch-returns : goal.choice_by_branch-returns
choice_by_branch-returns t c =
    let xs = view_variables c.args.variables.now in
    let d = view_value c.args.done.now in
    let a = view_value c.args.first.now in
    let b = view_value c.args.second.now in
    branch_done c.args.out.now c.pure_made.new.out c.branched.new.out c.new-yes.result c.pure_made-2.new.out c.put_first.new.out c.new-no.result c.pure_made-3.new.out c.args.like.now.ty c.args.like.now.line (pure xs d a)
    (pure xs d b) ((pure xs d (view_value c.args.test.now)).made c.args.next) c.in_ok-tested.tested c.in_ok-left.left (put.Made c.in_ok-value.value) (put.Made c.in_ok-value-2.value) c.in_ok-tested.next c.in_ok-value.slot
    c.in_ok-free.free c.in_ok-value-2.last c.in_ok-tested.ensures c.new-yes.ensures
    (pure_sent c.new-yes.result c.pure_made-2.new.out xs d a c.in_ok-tested.next c.in_ok-value.slot c.in_ok-value.value c.in_ok-value.ensures) c.in_ok-free.ensures.0 c.in_ok-free.ensures.1 c.new-no.ensures
    (pure_sent c.new-no.result c.pure_made-3.new.out xs d b c.in_ok-free.free c.in_ok-value-2.last c.in_ok-value-2.value c.in_ok-value-2.ensures) c.in_ok-left.ensures.0 c.in_ok-left.ensures.1

pub pures-loop-value-init : goal.pures-loop-value-init
pures-loop-value-init t c = record {
  counted = refl;
  rest = operands_begin c.args.out.now c.new-operands.result _ c.new-operands.ensures;
}

pub pures-loop-value-preserved : goal.pures-loop-value-preserved
pures-loop-value-preserved t c =
    let xs = view_variables c.args.variables.now in
    let d = view_value c.args.done.now in
    record {
      counted = omega (arith, c.loop-value.invariant.counted);
      rest = operand_turn c.args.out.now c.loop-value.out c.pure_made.new.out c.save_if.new.out xs c.loop-value.operands c.push.new.self c.args.values.now d c.loop-value.value-index (c.loop-value.at + 1) c.loop-value.next
          c.in_ok-operand.used c.in_ok-operand-2.used c.value-item.result c.in_ok-operand.operand c.in_ok-operand-2.operand (pures xs d (values_of (view_values c.args.values.now)) c.args.next)
          (omega (arith, c.loop-value-test.true)) c.value-item.is (omega (arith, c.loop-value.invariant.counted)) c.loop-value.invariant.rest c.in_ok-operand.ensures
          (rw (sym c.need_from-needed.ensures) c.in_ok-operand-2.ensures) c.in_ok-push.ensures.ok;
    }

pub pures-returns : goal.pures-returns
pures-returns t c =
    let xs = view_variables c.args.variables.now in
    let d = view_value c.args.done.now in
    operands_done c.args.out.now c.loop-value.out xs c.loop-value.operands c.args.values.now d c.loop-value.value-index c.loop-value.next (pures xs d (values_of (view_values c.args.values.now)) c.args.next)
    (omega (arith, c.loop-value-test.false)) c.loop-value.invariant.rest

pub logic_test-returns-in_ok-next-4 : goal.logic_test-returns-in_ok-next-4
logic_test-returns-in_ok-next-4 t c =
    let xs = view_variables c.args.variables.now in
    let d = view_value c.args.done.now in
    straight_done c.args.out.now c.pure_test-else-decides-want.new.out c.pure_test-else-decides-want-2.new.out (pure xs d (view_value c.args.first.now)) (pure xs d (view_value c.args.second.now)) c.args.how
    c.decides.result c.args.want c.args.block c.args.next c.in_ok-next-3.next c.in_ok-next-4.next c.decides.ensures c.if-decides-want.false c.in_ok-next-3.ensures c.in_ok-next-4.ensures

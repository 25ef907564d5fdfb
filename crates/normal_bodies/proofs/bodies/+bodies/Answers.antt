use Rattle.std.proofs.Common.{true, refl, sym, ap, ◌∙◌}
use Rattle.typed_prog.specs.View.{view_value}
use Rattle.c_runs.specs.Program as p
use Rattle.core_trees.specs.View.{view_claim, view_variables}
use Rattle.c_runs.specs.Plans.{planned}
use Rattle.program_trees.specs.View.{view_option, view_stmt, view_stmts}
use Rattle.program_trees.proofs.Equations.{view_stmt-Evaluate, view_stmt-Initial, view_stmt-Break, view_stmt-Continue, view_stmt-Return, view_stmt-Assert}
use Rattle.normal_bodies.proofs.Arms.{did_as, plain_arm, case_arm, default_arm, block_arm, jumps_arm, value_arm, loop_arm, switch_arm}
use Rattle.normal_bodies.proofs.Choosing.{first_way_done, jumps_done, value_done}
use Rattle.normal_bodies.proofs.Following.{follow_turn, follow_end}
use Rattle.normal_bodies.proofs.Grouping.{groups_turn, groups_first, groups_end, switch_done}
use Rattle.normal_bodies.proofs.bodies.+bodies.Goals as goal

-- ---- a statement

pub stmt_into-returns-in-Evaluate : goal.stmt_into-returns-in-Evaluate
stmt_into-returns-in-Evaluate t c =
    did_as c.args.out.now c.effect_of.new.out c.effect_of.result _ _
    (plain_arm (view_variables c.args.variables.now) c.args.exits.on_break c.args.exits.on_continue c.args.next c.args.stmt.now (p.evaluate (view_value c.in-Evaluate.value.now))
    (ap view_stmt c.in-Evaluate.is ∙ view_stmt-Evaluate c.in-Evaluate.value)) c.effect_of.ensures

pub stmt_into-returns-in_ok-scoped-in-Block : goal.stmt_into-returns-in_ok-scoped-in-Block
stmt_into-returns-in_ok-scoped-in-Block t c =
    block_arm (view_variables c.args.variables.now) c.args.exits.on_break c.args.exits.on_continue c.args.next c.args.stmt.now c.args.out.now c.scoped.new.out c.in_ok-body-in-Block.body
    c.in-Block.locals c.in-Block.body c.as_slice.result.now c.in_ok-body-in-Block.next c.in-Block.is c.as_slice.ensures c.in_ok-body-in-Block.ensures c.in_ok-scoped-in-Block.ensures

pub stmt_into-returns-in-Initial : goal.stmt_into-returns-in-Initial
stmt_into-returns-in-Initial t c =
    did_as c.args.out.now c.started.new.out c.started.result _ _
    (plain_arm (view_variables c.args.variables.now) c.args.exits.on_break c.args.exits.on_continue c.args.next c.args.stmt.now
    (p.initial c.in-Initial.variable c.in-Initial.field-1 (view_value c.in-Initial.value.now))
    (ap view_stmt c.in-Initial.is ∙ view_stmt-Initial c.in-Initial.variable c.in-Initial.field-1 c.in-Initial.value)) c.started.ensures

pub stmt_into-returns-then-jumps : goal.stmt_into-returns-then-jumps
stmt_into-returns-then-jumps t c =
    did_as c.args.out.now c.by_jumps.new.out c.by_jumps.result _ _
    (jumps_arm (view_variables c.args.variables.now) c.args.exits.on_break c.args.exits.on_continue c.args.next c.args.stmt.now c.in-Choose.test c.in-Choose.first c.in-Choose.second
    c.get.result.now c.get-then-jumps.result.now c.in-Choose.is c.get.ensures c.get-then-jumps.ensures (sym c.jumps.ensures ∙ c.if-jumps.true)) c.by_jumps.ensures

pub stmt_into-returns-else-jumps : goal.stmt_into-returns-else-jumps
stmt_into-returns-else-jumps t c =
    did_as c.args.out.now c.by_value.new.out c.by_value.result _ _
    (value_arm (view_variables c.args.variables.now) c.args.exits.on_break c.args.exits.on_continue c.args.next c.args.stmt.now c.in-Choose.test c.in-Choose.first c.in-Choose.second
    c.get-else-jumps.result.now c.get-else-jumps-2.result.now c.in-Choose.is c.get-else-jumps.ensures c.get-else-jumps-2.ensures (sym c.jumps.ensures ∙ c.if-jumps.false)) c.by_value.ensures

pub stmt_into-returns-in-Loop : goal.stmt_into-returns-in-Loop
stmt_into-returns-in-Loop t c =
    did_as c.args.out.now c.loop_into.new.out c.loop_into.result _ _
    (loop_arm (view_variables c.args.variables.now) c.args.exits.on_break c.args.exits.on_continue c.args.next c.args.stmt.now c.in-Loop.claims c.in-Loop.turns c.in-Loop.body
    c.get-in-Loop.result.now c.in-Loop.is c.get-in-Loop.ensures) c.loop_into.ensures

pub stmt_into-returns-in-Switch : goal.stmt_into-returns-in-Switch
stmt_into-returns-in-Switch t c =
    did_as c.args.out.now c.switch_into.new.out c.switch_into.result _ _
    (switch_arm (view_variables c.args.variables.now) c.args.exits.on_break c.args.exits.on_continue c.args.next c.args.stmt.now c.in-Switch.value c.in-Switch.body
    c.as_slice-in-Switch.result.now c.in-Switch.is c.as_slice-in-Switch.ensures) c.switch_into.ensures

pub stmt_into-returns-in-Break : goal.stmt_into-returns-in-Break
stmt_into-returns-in-Break t c =
    did_as c.args.out.now c.push_exit.new.out c.push_exit.result _ _
    (plain_arm (view_variables c.args.variables.now) c.args.exits.on_break c.args.exits.on_continue c.args.next c.args.stmt.now p.break
    (ap view_stmt c.in-Break.is ∙ view_stmt-Break)) c.push_exit.ensures

pub stmt_into-returns-in-Continue : goal.stmt_into-returns-in-Continue
stmt_into-returns-in-Continue t c =
    did_as c.args.out.now c.push_exit-in-Continue.new.out c.push_exit-in-Continue.result _ _
    (plain_arm (view_variables c.args.variables.now) c.args.exits.on_break c.args.exits.on_continue c.args.next c.args.stmt.now p.continue
    (ap view_stmt c.in-Continue.is ∙ view_stmt-Continue)) c.push_exit-in-Continue.ensures

pub stmt_into-returns-in-Return : goal.stmt_into-returns-in-Return
stmt_into-returns-in-Return t c =
    did_as c.args.out.now c.given.new.out c.given.result _ _
    (plain_arm (view_variables c.args.variables.now) c.args.exits.on_break c.args.exits.on_continue c.args.next c.args.stmt.now (p.return_of (view_option c.in-Return.value))
    (ap view_stmt c.in-Return.is ∙ view_stmt-Return c.in-Return.value)) c.given.ensures

pub stmt_into-returns-in-Assert : goal.stmt_into-returns-in-Assert
stmt_into-returns-in-Assert t c =
    did_as c.args.out.now c.push_claim.new.out c.push_claim.result _ _
    (plain_arm (view_variables c.args.variables.now) c.args.exits.on_break c.args.exits.on_continue c.args.next c.args.stmt.now (p.assert (view_claim c.in-Assert.claim))
    (ap view_stmt c.in-Assert.is ∙ view_stmt-Assert c.in-Assert.claim)) c.push_claim.ensures

pub stmt_into-returns-in-Case : goal.stmt_into-returns-in-Case
stmt_into-returns-in-Case t c =
    case_arm (view_variables c.args.variables.now) c.args.exits.on_break c.args.exits.on_continue c.args.next c.args.stmt.now c.args.out.now c.in-Case.field-0 c.in-Case.is

pub stmt_into-returns-in-Default : goal.stmt_into-returns-in-Default
stmt_into-returns-in-Default t c =
    default_arm (view_variables c.args.variables.now) c.args.exits.on_break c.args.exits.on_continue c.args.next c.args.stmt.now c.args.out.now c.in-Default.is

-- ---- statements

pub stmts_into-loop-stmt-init : goal.stmts_into-loop-stmt-init
stmts_into-loop-stmt-init t c = refl

pub stmts_into-loop-stmt-preserved : goal.stmts_into-loop-stmt-preserved
stmts_into-loop-stmt-preserved t c =
    follow_turn (view_variables c.args.variables.now) c.args.exits.on_break c.args.exits.on_continue c.args.stmts.now c.loop-stmt.stmt-index c.stmt-item.result c.loop-stmt.out c.stmt_into.new.out
    c.loop-stmt.next c.in_ok-next.next _ c.loop-stmt-test.true c.stmt-item.is c.in_ok-next.ensures c.loop-stmt.invariant

pub stmts_into-returns : goal.stmts_into-returns
stmts_into-returns t c =
    follow_end (view_variables c.args.variables.now) c.args.exits.on_break c.args.exits.on_continue c.args.stmts.now c.loop-stmt.stmt-index c.args.out.now c.loop-stmt.out c.loop-stmt.next
    _ c.loop-stmt-test.false c.loop-stmt.invariant

-- ---- choices

pub first_way-returns : goal.first_way-returns
first_way-returns t c =
    first_way_done c.new-made.result c.planned_test.new.out c.stmt_into.new.out c.push_exit.new.out (view_variables c.args.variables.now) c.args.exits.on_break c.args.exits.on_continue
    ((planned (view_variables c.args.variables.now) (view_value c.args.test.now)).test true 0 c.args.next) (view_stmt c.args.first.now) c.in_ok-within.within
    c.in_ok-next.next c.in_ok-next-2.next c.in_ok-next-3.next c.in_ok-within.ensures
    c.new-made.ensures c.in_ok-next.ensures c.in_ok-next-2.ensures c.in_ok-next-3.ensures

pub by_jumps-returns : goal.by_jumps-returns
by_jumps-returns t c =
    jumps_done c.args.out.now c.push_around.new.out c.in_ok-first.first c.in_ok-both.both c.stmt_into.new.out (view_variables c.args.variables.now) c.args.exits.on_break c.args.exits.on_continue
    ((planned (view_variables c.args.variables.now) (view_value c.args.test.now)).test true 0 c.args.next) (view_stmt c.args.first.now) (view_stmt c.args.second.now) c.in_ok-within.within
    c.in_ok-first.next c.in_ok-next.next c.in_ok-within.ensures c.in_ok-first.ensures c.in_ok-both.ensures c.in_ok-next.ensures c.in_ok-push_around.ensures

pub by_value-returns : goal.by_value-returns
by_value-returns t c =
    value_done c.args.out.now c.planned_made.new.out c.push_branch.new.out c.in_ok-first.first c.in_ok-second.second (view_variables c.args.variables.now) c.args.exits.on_break
    c.args.exits.on_continue ((planned (view_variables c.args.variables.now) (view_value c.args.test.now)).made c.args.next) c.in_ok-test.test (view_stmt c.args.first.now)
    (view_stmt c.args.second.now) c.in_ok-test.next c.in_ok-first.next c.in_ok-second.next c.in_ok-test.ensures c.in_ok-first.ensures c.in_ok-second.ensures c.in_ok-push_branch.ensures

-- ---- switches

pub groups_into-loop-stmt-init : goal.groups_into-loop-stmt-init
groups_into-loop-stmt-init t c =
    groups_first (view_variables c.args.variables.now) c.args.exits.on_continue c.args.body.now c.args.out.now c.args.next c.in_ok-left.left c.in_ok-left.ensures

pub groups_into-loop-stmt-preserved : goal.groups_into-loop-stmt-preserved
groups_into-loop-stmt-preserved t c =
    groups_turn (view_variables c.args.variables.now) c.args.exits.on_continue c.args.body.now c.loop-stmt.stmt-index c.stmt-item.result c.loop-stmt.out c.group_into.new.out
    c.loop-stmt.place c.in_ok-place.place _ c.loop-stmt-test.true c.stmt-item.is c.in_ok-place.ensures c.loop-stmt.invariant

pub groups_into-returns : goal.groups_into-returns
groups_into-returns t c =
    groups_end (view_variables c.args.variables.now) c.args.exits.on_continue c.args.body.now c.loop-stmt.stmt-index c.loop-stmt.out c.close.new.out c.loop-stmt.place _
    c.loop-stmt-test.false c.in_ok-close.ensures c.loop-stmt.invariant

pub switch_into-returns : goal.switch_into-returns
switch_into-returns t c =
    switch_done c.args.out.now c.switch_begun.new.out c.push_around.new.out c.in_ok-lead.lead c.groups_into.new.out (view_variables c.args.variables.now) c.args.exits.on_break
    c.args.exits.on_continue (view_value c.args.value.now) (view_stmts c.args.body.now) c.args.next c.in_ok-lead.next c.in_ok-next.next c.in_ok-lead.ensures c.in_ok-next.ensures
    c.in_ok-push_around.ensures

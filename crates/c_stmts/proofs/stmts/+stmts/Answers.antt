use Rattle.std.proofs.Common.{[], Ok, map, arith, subst, sym, ap, ◌∙◌}
use Rattle.std.proofs.lemmas.List.{map_push}
use Rattle.c_answers.specs.Answers.{Answer, Gives, after}
use Rattle.c_answers.proofs.After.{after_ok}
use Rattle.c_syntax.specs.View.{view_expr, view_loop}
use Rattle.c_syntax.specs.View.{view_stmt as spelled}
use Rattle.c_variables.specs.declared.context.Context.{Context}
use Rattle.typed_unit.specs.Stmt as s
use Rattle.typed_unit.specs.View.{view_stmt}
use Rattle.c_stmts.specs.Bodies.{spelled_stmts, see_stmt}
use Rattle.c_stmts.specs.Statements.{stmt, stmts, labelled, turns_behind}
use Rattle.c_stmts.proofs.Lists.{stmt_turn, item_turn, if_else_is}
use Rattle.c_stmts.proofs.stmts.+stmts.Goals as goal

pub labelled-loop-i-preserved : goal.labelled-loop-i-preserved
labelled-loop-i-preserved t c =
    item_turn c.args.kind c.loop-i.numbers.keys c.item.new.numbers.keys c.loop-i.context c.item.new.context c.args.stmts.now c.loop-i.i c.index-stmts-i.result (map view_stmt c.loop-i.done)
    (map view_stmt c.push.new.self) (view_stmt c.in_ok-stmt.stmt) (labelled c.args.kind [] c.args.context.now (spelled_stmts c.args.stmts.now)) (omega arith) c.index-stmts-i.is c.in_ok-stmt.ensures
    (ap (map view_stmt) c.in_ok-push.ensures.ok ∙ map_push view_stmt c.loop-i.done c.in_ok-stmt.stmt) c.loop-i.invariant

pub typed_stmt-returns-in-Some : goal.typed_stmt-returns-in-Some
typed_stmt-returns-in-Some t c =
    subst (λ y. Gives (see_stmt c.typed_if_else.new.context) c.typed_if_else.result (stmt c.args.context.now y))
    (if_else_is c.args.stmt.now c.in-If.test c.in-If.first c.in-Some.other c.get-in-Some.result.now c.get-in-Some-2.result.now c.in-If.other c.in-If.is c.in-Some.is c.get-in-Some.ensures c.get-in-Some-2.ensures)
    c.typed_if_else.ensures

pub typed_stmts-loop-i-preserved : goal.typed_stmts-loop-i-preserved
typed_stmts-loop-i-preserved t c =
    stmt_turn c.loop-i.context c.typed_stmt.new.context c.args.stmts.now c.loop-i.i c.index-stmts-i.result (map view_stmt c.loop-i.done) (map view_stmt c.push.new.self) (view_stmt c.in_ok-stmt.stmt)
    (stmts c.args.context.now (spelled_stmts c.args.stmts.now)) (omega arith) c.index-stmts-i.is c.in_ok-stmt.ensures
    (ap (map view_stmt) c.in_ok-push.ensures.ok ∙ map_push view_stmt c.loop-i.done c.in_ok-stmt.stmt) c.loop-i.invariant

pub typed_do-returns : goal.typed_do-returns
typed_do-returns t c =
    let there = c.typed_stmt.new.context in
    let on : s.Stmt × Context → Answer (s.Stmt × Context) =
    λ r. after (turns_behind r.1 (view_expr c.args.test.now)) (λ u. Ok (s.loop_of c.args.line (view_loop c.args.annot.now) u r.0, r.1)) in
    subst (Gives (see_stmt there) c.loop_behind.result)
    (sym (after_ok (stmt c.args.context.now (spelled c.args.body.now)) (see_stmt there c.in_ok-body.body) on c.in_ok-body.ensures))
    (c.loop_behind.ensures there (turns_behind there (view_expr c.args.test.now)) c.turns_behind-turns.ensures)

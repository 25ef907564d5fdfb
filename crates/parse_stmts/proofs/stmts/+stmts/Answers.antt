use Rattle.std.proofs.Common.{arith, sym, ap, map, ◌∙◌, ◌-◌, ◌+◌, ◌++◌, ◌∷◌, [], length}
use Rattle.std.proofs.lemmas.List.{map-append}
use Rattle.std.proofs.lemmas.Result.{err_from_is_err_and}
use Rattle.c_syntax.specs.View.{view_stmt}
use Rattle.c_grammar.specs.Tokens.{first_line}
use Rattle.parse_leaf_stmts.specs.Read.{locals_at}
use Rattle.parse_stmts.specs.Read.{item, stmts, stmt}
use Rattle.parse_stmts.specs.Views.{stmt_with, stmts_with, with_stmts}
use Rattle.parse_stmts.proofs.Turns.{item_local, beside_reads, stmts_end, stmts_turn, stmts_fault}
use Rattle.parse_stmts.proofs.stmts.+stmts.Goals as goal

pub item-returns-then-starts_type : goal.item-returns-then-starts_type
item-returns-then-starts_type t c =
    let types = c.args.types.now in
    let tokens = c.args.tokens.now in
    let inner = stmt types c.args.around.end c.args.room c.args.around.loops c.args.around.breaks in
    let now = c.in_ok-push.ensures.ok ∙ ap (λ line. c.args.starts.now ++ line ∷ []) c.first_line.ensures in
    rw (item_local types c.args.room c.args.cases inner c.args.starts.now tokens c.if-cases.false (sym c.starts_type.ensures ∙ c.if-starts_type.true))
    (beside_reads c.locals_at.result (c.args.starts.now ++ first_line tokens ∷ []) c.push.new.self (locals_at types c.args.room tokens) now c.locals_at.ensures)

pub stmts-returns-in-Some : goal.stmts-returns-in-Some
stmts-returns-in-Some t c =
    let one = item c.args.types.now c.args.room c.args.cases (stmt c.args.types.now c.args.around.end c.args.room c.args.around.loops c.args.around.breaks) in
    sym c.loop-turn.invariant
    ∙ stmts_end one (length c.args.tokens.now - c.loop-turn.turn) (map view_stmt c.loop-turn.items) c.loop-turn.starts c.loop-turn.rest.now c.in-Some.line c.in-Some.after.now (omega arith) c.in-Some.ensures

pub stmts-returns-in_err-one : goal.stmts-returns-in_err-one
stmts-returns-in_err-one t c =
    let one = item c.args.types.now c.args.room c.args.cases (stmt c.args.types.now c.args.around.end c.args.room c.args.around.loops c.args.around.breaks) in
    let p = err_from_is_err_and c.from_residual.result c.from_residual.ensures.1 in
    let left = length c.args.tokens.now - c.loop-turn.turn in
    rw (p.1, p.2, ← c.loop-turn.invariant)
    (stmts_fault (stmt_with c.item.new.starts) (stmts_with c.item.new.starts) one left (left - 1) (map view_stmt c.loop-turn.items) c.loop-turn.starts c.loop-turn.rest.now _ (omega arith) c.in_default.ensures c.in_err-one.ensures)

pub stmts-loop-turn-preserved : goal.stmts-loop-turn-preserved
stmts-loop-turn-preserved t c =
    let one = item c.args.types.now c.args.room c.args.cases (stmt c.args.types.now c.args.around.end c.args.room c.args.around.loops c.args.around.breaks) in
    let left = length c.args.tokens.now - c.loop-turn.turn in
    let later = length c.args.tokens.now - (c.loop-turn.turn + 1) in
    let found = c.in_ok-one.one in
    let pushed = ap (map view_stmt) c.in_ok-push.ensures.ok ∙ map-append view_stmt c.loop-turn.items (found ∷ []) in
    ap (λ ss. with_stmts ss (stmts one later c.item.new.starts c.in_ok-one.after.now)) pushed
    ∙ stmts_turn one left later (map view_stmt c.loop-turn.items) (view_stmt found) c.loop-turn.starts c.item.new.starts c.loop-turn.rest.now c.in_ok-one.after.now (omega arith) c.in_default.ensures c.in_ok-one.ensures
    ∙ c.loop-turn.invariant

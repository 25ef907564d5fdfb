use Rattle.std.proofs.Common.{arith, ◌∙◌, ◌-◌, ◌+◌, length, map, sym}
use Rattle.std.proofs.lemmas.Result.{err_from_is_err_and}
use Rattle.c_syntax.specs.View.{view_ctype, view_var}
use Rattle.parse_exprs.specs.Read.{cond_at, expr_at}
use Rattle.parse_decls.specs.Views.{view_param}
use Rattle.parse_decls.specs.Read.{declarator_at}
use Rattle.parse_decls.proofs.fields.more_declarators.Goals as goal
use Rattle.c_grammar.proofs.Turns.{items_end, items_stop, items_next, items_fault}

pub returns-in_default : goal.returns-in_default
returns-in_default c =
    let item = declarator_at c.args.types.now c.args.room (view_ctype c.args.base.now) in
    sym c.loop-turn.invariant ∙ items_stop item (length c.args.tokens.now - c.loop-turn.turn) (map view_var c.loop-turn.vars) c.loop-turn.rest.now c.in_default.ensures

pub returns-in_err-var : goal.returns-in_err-var
returns-in_err-var c =
    let item = declarator_at c.args.types.now c.args.room (view_ctype c.args.base.now) in
    let p = err_from_is_err_and c.from_residual.result c.from_residual.ensures.1 in
    let left = length c.args.tokens.now - c.loop-turn.turn in
    rw (p.1, p.2, ← c.loop-turn.invariant)
    (items_fault view_var (map view_var) item left (left - 1) (map view_var c.loop-turn.vars) c.loop-turn.rest.now _ c.in-Some.after.now _ (omega arith) c.in-Some.ensures c.in_err-var.ensures)

pub loop-turn-preserved : goal.loop-turn-preserved
loop-turn-preserved c =
    let item = declarator_at c.args.types.now c.args.room (view_ctype c.args.base.now) in
    let left = length c.args.tokens.now - c.loop-turn.turn in
    let later = length c.args.tokens.now - (c.loop-turn.turn + 1) in
    items_next view_var item left later c.loop-turn.vars _ c.in_ok-var.var c.loop-turn.rest.now _ c.in-Some.after.now c.in_ok-var.after.now (omega arith) c.in-Some.ensures c.in_ok-var.ensures c.in_ok-push.ensures.ok
    ∙ c.loop-turn.invariant

pub returns : goal.returns
returns c =
    let item = declarator_at c.args.types.now c.args.room (view_ctype c.args.base.now) in
    sym c.loop-turn.invariant ∙ items_end item (length c.args.tokens.now - c.loop-turn.turn) (map view_var c.loop-turn.vars) c.loop-turn.rest.now (omega arith)

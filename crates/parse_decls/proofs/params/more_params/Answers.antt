use Rattle.std.proofs.Common.{arith, ◌∙◌, ◌-◌, ◌+◌, length, map, sym}
use Rattle.std.proofs.lemmas.Result.{err_from_is_err_and}
use Rattle.c_syntax.specs.View.{view_ctype, view_var}
use Rattle.parse_exprs.specs.Read.{cond_at, expr_at}
use Rattle.parse_decls.specs.Views.{view_param}
use Rattle.parse_decls.specs.Read.{param_on_of}
use Rattle.parse_decls.proofs.params.more_params.Goals as goal
use Rattle.c_grammar.proofs.Turns.{items_end, items_stop, items_next, items_fault}

pub returns-in_default : goal.returns-in_default
returns-in_default c =
    let item = param_on_of c.args.types.now (cond_at c.args.types.now) c.args.room in
    sym c.loop-turn.invariant ∙ items_stop item (length c.args.tokens.now - c.loop-turn.turn) (map view_param c.loop-turn.params) c.loop-turn.rest.now c.in_default.ensures

pub returns-in_err-param : goal.returns-in_err-param
returns-in_err-param c =
    let item = param_on_of c.args.types.now (cond_at c.args.types.now) c.args.room in
    let p = err_from_is_err_and c.from_residual.result c.from_residual.ensures.1 in
    let left = length c.args.tokens.now - c.loop-turn.turn in
    rw (p.1, p.2, ← c.loop-turn.invariant)
    (items_fault view_param (map view_param) item left (left - 1) (map view_param c.loop-turn.params) c.loop-turn.rest.now _ c.in-Some.after.now _ (omega arith) c.in-Some.ensures c.in_err-param.ensures)

pub loop-turn-preserved : goal.loop-turn-preserved
loop-turn-preserved c =
    let item = param_on_of c.args.types.now (cond_at c.args.types.now) c.args.room in
    let left = length c.args.tokens.now - c.loop-turn.turn in
    let later = length c.args.tokens.now - (c.loop-turn.turn + 1) in
    items_next view_param item left later c.loop-turn.params _ c.in_ok-param.param c.loop-turn.rest.now _ c.in-Some.after.now c.in_ok-param.after.now (omega arith) c.in-Some.ensures c.in_ok-param.ensures c.in_ok-push.ensures.ok
    ∙ c.loop-turn.invariant

pub returns : goal.returns
returns c =
    let item = param_on_of c.args.types.now (cond_at c.args.types.now) c.args.room in
    sym c.loop-turn.invariant ∙ items_end item (length c.args.tokens.now - c.loop-turn.turn) (map view_param c.loop-turn.params) c.loop-turn.rest.now (omega arith)

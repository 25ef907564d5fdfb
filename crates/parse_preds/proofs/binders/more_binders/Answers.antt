use Rattle.std.proofs.Common.{arith, ◌∙◌, ◌-◌, ◌+◌, length, map}
use Rattle.std.proofs.lemmas.List.{map_push}
use Rattle.std.proofs.lemmas.Result.{err_from_is_err_and}
use Rattle.c_syntax.specs.View.{view_ctype, view_var}
use Rattle.parse_preds.proofs.Binding.{more_binders_fault, more_binders_turn}
use Rattle.parse_preds.proofs.binders.more_binders.Goals as goal

pub returns-in_err-next : goal.returns-in_err-next
returns-in_err-next c =
    let p = err_from_is_err_and c.from_residual-in_err-next.result c.from_residual-in_err-next.ensures.1 in
    let left = length c.args.tokens.now - c.loop-turn.turn in
    rw (p.1, p.2, ← c.loop-turn.invariant)
    (more_binders_fault view_var (map view_var) c.args.types.now left (left - 1) (map view_var c.loop-turn.binders) (view_ctype c.loop-turn.ty) c.loop-turn.rest.now
    c.in-Some.field-0-0 c.in-Some.after.now _ (omega arith) c.in-Some.ensures c.in_err-next.ensures)

pub loop-turn-preserved : goal.loop-turn-preserved
loop-turn-preserved c =
    let left = length c.args.tokens.now - c.loop-turn.turn in
    let later = length c.args.tokens.now - (c.loop-turn.turn + 1) in
    rw (c.in_ok-push-2.ensures.ok, map_push, c.in_ok-ty-2.ensures)
    (more_binders_turn c.args.types.now left later (map view_var c.loop-turn.binders) (view_var c.in_ok-next.next) (view_ctype c.loop-turn.ty) c.loop-turn.rest.now
    c.in-Some.field-0-0 c.in-Some.after.now c.in_ok-next.after.now (omega arith) c.in-Some.ensures c.in_ok-next.ensures
    ∙ c.loop-turn.invariant)

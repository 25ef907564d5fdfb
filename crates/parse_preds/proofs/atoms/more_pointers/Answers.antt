use Rattle.std.proofs.Common.{arith, ◌∙◌, ◌-◌, ◌+◌, length, map}
use Rattle.std.proofs.lemmas.List.{map_push}
use Rattle.std.proofs.lemmas.Result.{err_from_is_err_and}
use Rattle.c_syntax.specs.View.{view_term}
use Rattle.parse_terms.specs.Read.{pointer_at}
use Rattle.parse_preds.proofs.atoms.more_pointers.Goals as goal
use Rattle.c_grammar.proofs.Turns.{items_fault, items_turn}

pub returns-in_err-next : goal.returns-in_err-next
returns-in_err-next c =
    let p = err_from_is_err_and c.from_residual-in_err-next.result c.from_residual-in_err-next.ensures.1 in
    let left = length c.args.tokens.now - c.loop-turn.turn in
    rw (p.1, p.2, ← c.loop-turn.invariant)
    (items_fault view_term (map view_term) (pointer_at c.args.types.now c.args.room) left (left - 1) (map view_term c.loop-turn.pointers) c.loop-turn.rest.now
    c.in-Some.field-0-0 c.in-Some.after.now _ (omega arith) c.in-Some.ensures c.in_err-next.ensures)

pub loop-turn-preserved : goal.loop-turn-preserved
loop-turn-preserved c =
    let left = length c.args.tokens.now - c.loop-turn.turn in
    let later = length c.args.tokens.now - (c.loop-turn.turn + 1) in
    rw (c.in_ok-push-3.ensures.ok, map_push)
    (items_turn (pointer_at c.args.types.now c.args.room) left later (map view_term c.loop-turn.pointers) (view_term c.in_ok-next.next) c.loop-turn.rest.now
    c.in-Some.field-0-0 c.in-Some.after.now c.in_ok-next.after.now (omega arith) c.in-Some.ensures c.in_ok-next.ensures
    ∙ c.loop-turn.invariant)

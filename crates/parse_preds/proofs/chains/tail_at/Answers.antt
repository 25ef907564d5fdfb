use Rattle.std.proofs.Common.{arith, ◌∙◌, ◌-◌, ◌+◌, length, map}
use Rattle.std.proofs.lemmas.List.{map_push}
use Rattle.std.proofs.lemmas.Result.{err_from_is_err_and}
use Rattle.c_syntax.specs.View.{view_term}
use Rattle.parse_terms.specs.Read.{chain_term_at}
use Rattle.parse_preds.specs.Views.{view_tail}
use Rattle.parse_preds.proofs.Reading.{tail_fault, tail_turn}
use Rattle.parse_preds.proofs.chains.tail_at.Goals as goal

pub returns-in_err-next : goal.returns-in_err-next
returns-in_err-next c =
    let p = err_from_is_err_and c.from_residual-in_err-next.result c.from_residual-in_err-next.ensures.1 in
    let left = length c.args.tokens.now - c.loop-turn.turn in
    rw (p.1, p.2, ← c.loop-turn.invariant)
    (tail_fault view_term view_tail (chain_term_at c.args.types.now c.args.room) left (left - 1) (map view_term c.loop-turn.terms) c.loop-turn.ops c.loop-turn.rest.now
    c.in-Some.op c.in-Some.field-0-0-1 c.in-Some.after.now _ (omega arith) c.in-Some.ensures c.in_err-next.ensures)

pub loop-turn-preserved : goal.loop-turn-preserved
loop-turn-preserved c =
    let left = length c.args.tokens.now - c.loop-turn.turn in
    let later = length c.args.tokens.now - (c.loop-turn.turn + 1) in
    rw (c.in_ok-push-2.ensures.ok, c.in_ok-push-3.ensures.ok, map_push)
    (tail_turn (chain_term_at c.args.types.now c.args.room) left later (map view_term c.loop-turn.terms) c.loop-turn.ops (view_term c.in_ok-next.next) c.loop-turn.rest.now
    c.in-Some.op c.in-Some.field-0-0-1 c.in-Some.after.now c.in_ok-next.after.now (omega arith) c.in-Some.ensures c.in_ok-next.ensures
    ∙ c.loop-turn.invariant)

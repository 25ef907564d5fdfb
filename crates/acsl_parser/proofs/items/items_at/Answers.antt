use Rattle.std.proofs.Common.{arith, ◌∙◌, ◌-◌, ◌+◌, length, map, sym}
use Rattle.std.proofs.lemmas.Result.{err_from_is_err_and}
use Rattle.parse_clauses.specs.Views.{view_item}
use Rattle.acsl_parser.specs.Read.{starts_item, item_at}
use Rattle.acsl_parser.proofs.Reading.{all_end, all_stop, all_next, all_fault, items_all}
use Rattle.acsl_parser.proofs.items.items_at.Goals as goal

pub returns-then-not-starts_item : goal.returns-then-not-starts_item
returns-then-not-starts_item c =
    let item = item_at c.args.types.now c.args.room c.args.end in
    items_all c.args.types.now c.args.room c.args.end c.args.tokens.now ∙ sym c.loop-turn.invariant
    ∙ all_stop starts_item item (length c.args.tokens.now - c.loop-turn.turn) (map view_item c.loop-turn.items) c.loop-turn.rest.now (sym c.starts_item.ensures ∙ c.if-not-starts_item.true)

pub returns-in_err-item : goal.returns-in_err-item
returns-in_err-item c =
    let item = item_at c.args.types.now c.args.room c.args.end in
    let p = err_from_is_err_and c.from_residual.result c.from_residual.ensures.1 in
    let left = length c.args.tokens.now - c.loop-turn.turn in
    rw (p.1, p.2, items_all c.args.types.now c.args.room c.args.end c.args.tokens.now, ← c.loop-turn.invariant)
    (all_fault view_item starts_item item left (left - 1) (map view_item c.loop-turn.items) c.loop-turn.rest.now _ (omega arith) (sym c.starts_item.ensures ∙ c.if-not-starts_item.false) c.in_err-item.ensures)

pub loop-turn-preserved : goal.loop-turn-preserved
loop-turn-preserved c =
    let item = item_at c.args.types.now c.args.room c.args.end in
    let left = length c.args.tokens.now - c.loop-turn.turn in
    let later = length c.args.tokens.now - (c.loop-turn.turn + 1) in
    all_next view_item starts_item item left later c.loop-turn.items _ c.in_ok-item.item c.loop-turn.rest.now c.in_ok-item.after.now (omega arith) (sym c.starts_item.ensures ∙ c.if-not-starts_item.false) c.in_ok-item.ensures c.in_ok-push.ensures.ok
    ∙ c.loop-turn.invariant

pub returns : goal.returns
returns c =
    let item = item_at c.args.types.now c.args.room c.args.end in
    items_all c.args.types.now c.args.room c.args.end c.args.tokens.now ∙ sym c.loop-turn.invariant ∙ all_end starts_item item (length c.args.tokens.now - c.loop-turn.turn) (map view_item c.loop-turn.items) c.loop-turn.rest.now (omega arith)

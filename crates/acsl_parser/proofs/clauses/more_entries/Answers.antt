use Rattle.std.proofs.Common.{arith, ◌∙◌, ◌-◌, ◌+◌, length, map, sym}
use Rattle.std.proofs.lemmas.Result.{err_from_is_err_and}
use Rattle.c_syntax.specs.View.{view_term}
use Rattle.parse_terms.specs.Read.{entry_at}
use Rattle.acsl_parser.proofs.clauses.more_entries.Goals as goal
use Rattle.c_grammar.proofs.Turns.{items_end, items_stop, items_next, items_fault}

pub returns-in_default : goal.returns-in_default
returns-in_default c =
    let item = entry_at c.args.types.now c.args.room in
    sym c.loop-turn.invariant ∙ items_stop item (length c.args.tokens.now - c.loop-turn.turn) (map view_term c.loop-turn.items) c.loop-turn.rest.now c.in_default.ensures

pub returns-in_err-item : goal.returns-in_err-item
returns-in_err-item c =
    let item = entry_at c.args.types.now c.args.room in
    let p = err_from_is_err_and c.from_residual.result c.from_residual.ensures.1 in
    let left = length c.args.tokens.now - c.loop-turn.turn in
    rw (p.1, p.2, ← c.loop-turn.invariant)
    (items_fault view_term (map view_term) item left (left - 1) (map view_term c.loop-turn.items) c.loop-turn.rest.now _ c.in-Some.after.now _ (omega arith) c.in-Some.ensures c.in_err-item.ensures)

pub loop-turn-preserved : goal.loop-turn-preserved
loop-turn-preserved c =
    let item = entry_at c.args.types.now c.args.room in
    let left = length c.args.tokens.now - c.loop-turn.turn in
    let later = length c.args.tokens.now - (c.loop-turn.turn + 1) in
    items_next view_term item left later c.loop-turn.items _ c.in_ok-item.item c.loop-turn.rest.now _ c.in-Some.after.now c.in_ok-item.after.now (omega arith) c.in-Some.ensures c.in_ok-item.ensures c.in_ok-push.ensures.ok
    ∙ c.loop-turn.invariant

pub returns : goal.returns
returns c =
    let item = entry_at c.args.types.now c.args.room in
    sym c.loop-turn.invariant ∙ items_end item (length c.args.tokens.now - c.loop-turn.turn) (map view_term c.loop-turn.items) c.loop-turn.rest.now (omega arith)

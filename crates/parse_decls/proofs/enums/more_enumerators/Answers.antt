use Rattle.std.proofs.Common.{arith, ◌∙◌, ◌-◌, ◌+◌, length, map, sym}
use Rattle.std.proofs.lemmas.Result.{err_from_is_err_and}
use Rattle.c_syntax.specs.View.{view_var}
use Rattle.parse_exprs.specs.Read.{cond_at}
use Rattle.parse_decls.specs.Read.{enumerator_of}
use Rattle.parse_decls.proofs.Reading.{enumerators_end, enumerators_stop, enumerators_close, enumerators_next, enumerators_fault}
use Rattle.parse_decls.proofs.enums.more_enumerators.Goals as goal

pub returns-in_default : goal.returns-in_default
returns-in_default c =
    let item = enumerator_of c.args.types.now (cond_at c.args.types.now) c.args.room in
    sym c.loop-turn.invariant ∙ enumerators_stop item (length c.args.tokens.now - c.loop-turn.turn) (map view_var c.loop-turn.items) c.loop-turn.rest.now c.in_default.ensures

pub returns-then-at_brace : goal.returns-then-at_brace
returns-then-at_brace c =
    let item = enumerator_of c.args.types.now (cond_at c.args.types.now) c.args.room in
    let left = length c.args.tokens.now - c.loop-turn.turn in
    sym c.loop-turn.invariant ∙ enumerators_close item left (left - 1) (map view_var c.loop-turn.items) c.loop-turn.rest.now _ c.in-Some.after.now (omega arith) c.in-Some.ensures (sym c.at_brace.ensures ∙ c.if-at_brace.true)

pub returns-in_err-item : goal.returns-in_err-item
returns-in_err-item c =
    let item = enumerator_of c.args.types.now (cond_at c.args.types.now) c.args.room in
    let p = err_from_is_err_and c.from_residual.result c.from_residual.ensures.1 in
    let left = length c.args.tokens.now - c.loop-turn.turn in
    rw (p.1, p.2, ← c.loop-turn.invariant)
    (enumerators_fault view_var item left (left - 1) (map view_var c.loop-turn.items) c.loop-turn.rest.now _ c.in-Some.after.now _ (omega arith) c.in-Some.ensures (sym c.at_brace.ensures ∙ c.if-at_brace.false) c.in_err-item.ensures)

pub loop-turn-preserved : goal.loop-turn-preserved
loop-turn-preserved c =
    let item = enumerator_of c.args.types.now (cond_at c.args.types.now) c.args.room in
    let left = length c.args.tokens.now - c.loop-turn.turn in
    let later = length c.args.tokens.now - (c.loop-turn.turn + 1) in
    enumerators_next view_var item left later c.loop-turn.items _ c.in_ok-item.item c.loop-turn.rest.now _ c.in-Some.after.now c.in_ok-item.after.now (omega arith) c.in-Some.ensures (sym c.at_brace.ensures ∙ c.if-at_brace.false) c.in_ok-item.ensures c.in_ok-push.ensures.ok
    ∙ c.loop-turn.invariant

pub returns : goal.returns
returns c =
    let item = enumerator_of c.args.types.now (cond_at c.args.types.now) c.args.room in
    sym c.loop-turn.invariant ∙ enumerators_end item (length c.args.tokens.now - c.loop-turn.turn) (map view_var c.loop-turn.items) c.loop-turn.rest.now (omega arith)

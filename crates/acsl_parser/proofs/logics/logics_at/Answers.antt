use Rattle.std.proofs.Common.{arith, ◌∙◌, ◌-◌, ◌+◌, length, map, sym}
use Rattle.std.proofs.lemmas.Result.{err_from_is_err_and}
use Rattle.c_syntax.specs.View.{view_logic}
use Rattle.acsl_parser.specs.Read.{starts_logic, logic_at}
use Rattle.acsl_parser.proofs.Reading.{all_end, all_stop, all_next, all_fault, logics_all}
use Rattle.acsl_parser.proofs.logics.logics_at.Goals as goal

pub returns-then-not-starts_logic-2 : goal.returns-then-not-starts_logic-2
returns-then-not-starts_logic-2 c =
    let item = logic_at c.args.types.now in
    logics_all c.args.types.now c.args.tokens.now (sym c.starts_logic.ensures ∙ c.if-not-starts_logic.false) ∙ sym c.loop-turn.invariant
    ∙ all_stop starts_logic item (length c.args.tokens.now - c.loop-turn.turn) (map view_logic c.loop-turn.items) c.loop-turn.rest.now (sym c.starts_logic-in-loop-turn.ensures ∙ c.if-not-starts_logic-2.true)

pub returns-in_err-item : goal.returns-in_err-item
returns-in_err-item c =
    let item = logic_at c.args.types.now in
    let p = err_from_is_err_and c.from_residual.result c.from_residual.ensures.1 in
    let left = length c.args.tokens.now - c.loop-turn.turn in
    rw (p.1, p.2, logics_all c.args.types.now c.args.tokens.now (sym c.starts_logic.ensures ∙ c.if-not-starts_logic.false), ← c.loop-turn.invariant)
    (all_fault view_logic starts_logic item left (left - 1) (map view_logic c.loop-turn.items) c.loop-turn.rest.now _ (omega arith) (sym c.starts_logic-in-loop-turn.ensures ∙ c.if-not-starts_logic-2.false) c.in_err-item.ensures)

pub loop-turn-preserved : goal.loop-turn-preserved
loop-turn-preserved c =
    let item = logic_at c.args.types.now in
    let left = length c.args.tokens.now - c.loop-turn.turn in
    let later = length c.args.tokens.now - (c.loop-turn.turn + 1) in
    all_next view_logic starts_logic item left later c.loop-turn.items _ c.in_ok-item.item c.loop-turn.rest.now c.in_ok-item.after.now (omega arith) (sym c.starts_logic-in-loop-turn.ensures ∙ c.if-not-starts_logic-2.false) c.in_ok-item.ensures c.in_ok-push.ensures.ok
    ∙ c.loop-turn.invariant

pub returns : goal.returns
returns c =
    let item = logic_at c.args.types.now in
    logics_all c.args.types.now c.args.tokens.now (sym c.starts_logic.ensures ∙ c.if-not-starts_logic.false) ∙ sym c.loop-turn.invariant ∙ all_end starts_logic item (length c.args.tokens.now - c.loop-turn.turn) (map view_logic c.loop-turn.items) c.loop-turn.rest.now (omega arith)

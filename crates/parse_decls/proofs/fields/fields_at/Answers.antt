use Rattle.std.proofs.Common.{arith, ◌∙◌, ◌-◌, ◌+◌, length, map, sym}
use Rattle.std.proofs.lemmas.Result.{err_from_is_err_and}
use Rattle.c_syntax.specs.View.{view_var}
use Rattle.parse_exprs.specs.Read.{cond_at}
use Rattle.parse_decls.specs.Read.{group_of}
use Rattle.parse_decls.proofs.Reading.{fields_all, groups_end, groups_close, groups_next, groups_fault}
use Rattle.parse_decls.proofs.fields.fields_at.Goals as goal

pub returns-in_err-more : goal.returns-in_err-more
returns-in_err-more c =
    let group = group_of c.args.types.now (cond_at c.args.types.now) c.args.room in
    let p = err_from_is_err_and c.from_residual.result c.from_residual.ensures.1 in
    let left = length c.args.tokens.now - c.loop-turn.turn in
    rw (p.1, p.2, fields_all c.args.types.now c.args.room c.args.tokens.now, ← c.loop-turn.invariant)
    (groups_fault view_var group left (left - 1) (map view_var c.loop-turn.fields) c.loop-turn.rest.now _ (omega arith) c.in_err-more.ensures)

pub returns-then-at_brace : goal.returns-then-at_brace
returns-then-at_brace c =
    let group = group_of c.args.types.now (cond_at c.args.types.now) c.args.room in
    let left = length c.args.tokens.now - c.loop-turn.turn in
    fields_all c.args.types.now c.args.room c.args.tokens.now ∙ sym c.loop-turn.invariant
    ∙ groups_close group left (left - 1) (map view_var c.loop-turn.fields) _ c.loop-turn.rest.now c.in_ok-more.after.now (omega arith) c.in_ok-more.ensures (sym c.at_brace.ensures ∙ c.if-at_brace.true)

pub loop-turn-preserved : goal.loop-turn-preserved
loop-turn-preserved c =
    let group = group_of c.args.types.now (cond_at c.args.types.now) c.args.room in
    let left = length c.args.tokens.now - c.loop-turn.turn in
    let later = length c.args.tokens.now - (c.loop-turn.turn + 1) in
    groups_next group left later (map view_var c.loop-turn.fields) _ c.loop-turn.rest.now c.in_ok-more.after.now (omega arith) c.in_ok-more.ensures (sym c.at_brace.ensures ∙ c.if-at_brace.false)
    ∙ c.loop-turn.invariant

pub returns : goal.returns
returns c =
    let group = group_of c.args.types.now (cond_at c.args.types.now) c.args.room in
    fields_all c.args.types.now c.args.room c.args.tokens.now ∙ sym c.loop-turn.invariant
    ∙ groups_end group (length c.args.tokens.now - c.loop-turn.turn) (map view_var c.loop-turn.fields) c.loop-turn.rest.now (omega arith)

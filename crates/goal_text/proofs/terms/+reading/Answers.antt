use Rattle.std.proofs.Common.{◌-◌, ◌+◌, length, arith, sym, ◌∙◌}
use Rattle.std.proofs.lemmas.Result.{err_from_is_err_and}
use Rattle.goal_text.specs.Reader.{kids_any}
use Rattle.goal_text.specs.Reader as spec
use Rattle.goal_text.specs.Views.{kids_view, place_of}
use Rattle.goal_text.proofs.Steps.{repeat_turn, repeat_ends}
use Rattle.goal_text.proofs.terms.+reading.Goals as goal

pub kids_any-returns-in_err-rest : goal.kids_any-returns-in_err-rest
unfolding kids_any
kids_any-returns-in_err-rest t c =
    let p = err_from_is_err_and c.from_residual.result c.from_residual.ensures.1 in
    let left = length c.args.bytes.now - c.loop-turn.turn in
    rw (p.1, p.2, ← c.loop-turn.invariant)
    (repeat_ends (spec.kid (spec.tree c.args.room) (place_of c.args.place)) left (left - 1) (kids_view c.loop-turn.kids) (kids_view c.kid.new.kids) (kids_view c.kid.new.kids) c.loop-turn.rest.now c.in-Some.after.now _ (omega arith) c.in-Some.ensures c.in_err-rest.ensures)

pub kids_any-loop-turn-preserved : goal.kids_any-loop-turn-preserved
kids_any-loop-turn-preserved t c =
    let left = length c.args.bytes.now - c.loop-turn.turn in
    let later = length c.args.bytes.now - (c.loop-turn.turn + 1) in
    sym (repeat_turn (spec.kid (spec.tree c.args.room) (place_of c.args.place)) left later (kids_view c.loop-turn.kids) (kids_view c.kid.new.kids) c.loop-turn.rest.now c.in-Some.after.now c.in_ok-rest.rest.now (omega arith) c.in-Some.ensures c.in_ok-rest.ensures)
    ∙ c.loop-turn.invariant

pub regions-returns-in_err-rest : goal.regions-returns-in_err-rest
regions-returns-in_err-rest t c =
    let p = err_from_is_err_and c.from_residual.result c.from_residual.ensures.1 in
    let left = length c.args.bytes.now - c.loop-turn.turn in
    rw (p.1, p.2, ← c.loop-turn.invariant)
    (repeat_ends (spec.region (spec.tree c.args.room)) left (left - 1) (kids_view c.loop-turn.kids) (kids_view c.region.new.kids) (kids_view c.region.new.kids) c.loop-turn.rest.now c.in-Some.after.now _ (omega arith) c.in-Some.ensures c.in_err-rest.ensures)

pub regions-loop-turn-preserved : goal.regions-loop-turn-preserved
regions-loop-turn-preserved t c =
    let left = length c.args.bytes.now - c.loop-turn.turn in
    let later = length c.args.bytes.now - (c.loop-turn.turn + 1) in
    sym (repeat_turn (spec.region (spec.tree c.args.room)) left later (kids_view c.loop-turn.kids) (kids_view c.region.new.kids) c.loop-turn.rest.now c.in-Some.after.now c.in_ok-rest.rest.now (omega arith) c.in-Some.ensures c.in_ok-rest.ensures)
    ∙ c.loop-turn.invariant

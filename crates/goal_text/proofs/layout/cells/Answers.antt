use Rattle.std.proofs.Common.{◌-◌, ◌+◌, length, arith, sym, ap, ◌∙◌}
use Rattle.goal_words.specs.Kinds.{cell_word}
use Rattle.goal_text.specs.Reader.{repeat, one_more}
use Rattle.goal_text.proofs.Steps.{list_turn, list_fault}
use Rattle.goal_text.proofs.layout.cells.Goals as goal

pub returns-in_default-cell_word : goal.returns-in_default-cell_word
returns-in_default-cell_word c =
    let left = length c.args.bytes.now - c.loop-turn.turn in
    sym c.loop-turn.invariant ∙ list_fault cell_word left (left - 1) c.loop-turn.cells c.loop-turn.rest.now c.in-Some.after.now (omega arith) c.in-Some.ensures c.in_default-cell_word.ensures

pub loop-turn-preserved : goal.loop-turn-preserved
loop-turn-preserved c =
    let left = length c.args.bytes.now - c.loop-turn.turn in
    let later = length c.args.bytes.now - (c.loop-turn.turn + 1) in
    ap (λ cells. repeat (one_more cell_word) later cells c.in-Some-cell_word.after.now) c.in_ok-push.ensures.ok
    ∙ list_turn cell_word left later c.loop-turn.cells c.in-Some-cell_word.cell c.loop-turn.rest.now c.in-Some.after.now c.in-Some-cell_word.after.now (omega arith) c.in-Some.ensures c.in-Some-cell_word.ensures
    ∙ c.loop-turn.invariant

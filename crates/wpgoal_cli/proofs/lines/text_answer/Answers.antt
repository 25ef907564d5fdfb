use Rattle.std.proofs.Common.{◌+◌, ◌++◌, ◌∷◌, [], Err, refl, sym, ◌∙◌, ap, arith}
use Rattle.wpgoal_cli.proofs.Gathered.{nothing_yet, not_empty, line_answered, fewer_left, text_refused}
use Rattle.wpgoal_cli.specs.View.{view_wish}
use Rattle.wpgoal_cli.proofs.lines.text_answer.Goals as goal

pub loop-left-init : goal.loop-left-init
loop-left-init c = record { answered = nothing_yet (view_wish c.args.wish) c.args.text.now c.new-out.result.items c.new-out.ensures.items; few = omega arith }

pub returns-in-Err-NotAGoal : goal.returns-in-Err-NotAGoal
returns-in-Err-NotAGoal c =
    let l = c.loop-left in
    text_refused (view_wish c.args.wish) c.args.text.now l.left.now c.first_line.result.1.now c.first_line.result.0.now l.out.items c.in_ok-no_goal-in-Err-NotAGoal.field-0 l.lines (l.lines + 1)
    l.invariant.answered c.first_line.ensures (c.in-Err-NotAGoal.ensures.none (ap Err c.in-Err-NotAGoal.field-0-is)) refl c.in_ok-no_goal-in-Err-NotAGoal.ensures

pub loop-left-preserved : goal.loop-left-preserved
loop-left-preserved c =
    let l = c.loop-left in
    let some = not_empty _ (sym c.is_empty.ensures ∙ c.loop-left-test.true) in
    record {
      answered = line_answered (view_wish c.args.wish) c.args.text.now l.left.now c.first_line.result.1.now c.first_line.result.0.now c.in-Ok.text l.out.items c.put_line.new.out.items l.lines (l.lines + 1)
          l.invariant.answered c.first_line.ensures c.in-Ok.ensures.answered refl (c.in_ok-put_line-in-Ok.ensures ∙ ap (λ b. l.out.items ++ (b ++ 10 ∷ [])) c.bytes.ensures);
      few = fewer_left c.first_line.result.0.now l.left.now c.first_line.result.1.now l.lines (l.lines + 1) _ some c.first_line.ensures refl l.invariant.few;
    }

use Rattle.std.proofs.Common.{◌≡◌, ◌+◌, ◌-◌, ◌≤◌, length, length-drop, take, drop, ap, ◌∙◌, arith}
use Rattle.std.proofs.lemmas.List.{take_rest}
use Rattle.report_shown.specs.Shown.{run_len}
use Rattle.report_shown.specs.View.{view_goals}
use Rattle.report_shown.proofs.Running.{run_more}
use Rattle.report_shown.proofs.cuts.runs.Goals as goal

pub loop-at-preserved : goal.loop-at-preserved
loop-at-preserved c =
    let goals = c.args.goals.now in
    let at = c.loop-at.at in
    let len = c.run_len-len.result in
    let whole = take_rest goals at in
    let first : len ≡ run_len (view_goals (drop at goals)) = c.run_len-len.ensures.value ∙ ap (λ gs. run_len (view_goals gs)) whole in
    let span : (at + len) - at ≡ len = omega arith in record {
      so_far = run_more goals at len _ c.loop-at.found.items c.push.new.self.items _ c.loop-at-test.true c.in_ok-push.ensures.items first (ap (λ n. take n (drop at goals)) span) c.loop-at.invariant.so_far;
      within = let left = length-drop at goals in let same = ap length whole in omega (arith, left, same, c.run_len-len.ensures.within, c.loop-at-test.true);
    }

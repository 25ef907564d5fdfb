use Rattle.std.proofs.Common.{rules, ◌≡◌, ◌+◌, ◌-◌, ◌<◌, length, refl, sym, ◌∙◌, arith}
use Rattle.std.proofs.lemmas.Bool.{false≢true}
use Rattle.report_read.specs.View.{view_goal}
use Rattle.report_shown.specs.View.{view_list}
use Rattle.report_shown.proofs.Placed.{at_place, line_missing, goal_pushed}
use Rattle.report_shown.proofs.source.put_goal.Goals as goal

pub returns-in_ok-push : goal.returns-in_ok-push
returns-in_ok-push c =
    let some : c.args.goal.now.line ≡ 1 + (c.args.goal.now.line - 1) = omega (arith, c.if-goal-eq0.false) in
    let within : c.args.goal.now.line - 1 < length c.args.found.now.items = omega (arith, c.in-Some.ensures.variant.0 refl, c.args.found.now.ok.0) in
    at_place view_list 1 (c.args.goal.now.line - 1) (view_goal c.args.goal.now) c.args.found.now.items c.in-Some.there.now c.push.new.self some within c.in-Some.ensures.value
    (goal_pushed c.in-Some.there.now.items c.push.new.self.items c.args.goal.now c.in_ok-push.ensures.items)

pub returns-in_default : goal.returns-in_default
returns-in_default c =
    let some : c.args.goal.now.line ≡ 1 + (c.args.goal.now.line - 1) = omega (arith, c.if-goal-eq0.false) in
    line_missing (view_goal c.args.goal.now) c.args.found.now.items (c.args.goal.now.line - 1) some
    (λ within. false≢true (c.in_default.ensures.variant.1 (omega (arith, within, c.args.found.now.ok.0))))

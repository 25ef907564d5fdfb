use Rattle.std.proofs.Common.{rules, ◌≡◌, ◌++◌, ◌+◌, map, length, ◌∙◌, subst}
use Rattle.qed_terms.specs.Tree.{goal_of}
use Rattle.qed_terms.specs.View.{formula_tree}
use Rattle.step_walks.specs.View.{view_place}
use Rattle.walk_steps.specs.Walk.{Goal}
use Rattle.goal_report.specs.Judging.{shown}
use Rattle.goal_report.specs.Report as spec
use Rattle.goal_report.proofs.Counting.{goal_more}
use Rattle.goal_report.proofs.goals.FunctionLinesGoalSink.take.Goals as goal

pub returns : goal.returns
returns g c first gs h =
    let self = c.args.self.now in
    let v = c.in_ok-verdict.verdict in
    let asked : Goal = record { number = length gs; place = view_place c.args.place; known = map formula_tree c.args.known.now; claim = formula_tree c.args.claim.now } in
    let said = subst (λ j. g.J.Judge.says j (goal_of (map formula_tree c.args.known.now) (formula_tree c.args.claim.now)) v) h.0 c.in_ok-verdict.ensures in
    let number : c.in_ok-number.number ≡ self.goals + 1 = search (rules, c.in_ok-number.ensures) in
    let put =
    c.in_ok-put_judged.ensures
    ∙ (λ i. self.text.items ++ spec.lines_of (h.2 i) c.in_ok-number.number
    (record { place = view_place c.args.place; verdict = v; text = shown (h.1 i) (map formula_tree c.args.known.now) (formula_tree c.args.claim.now) })) in (
      h.0,
      h.1,
      h.2,
      goal_more (g.J.Judge.says first.judge) first.shows first.name gs self.text.items c.put_judged.new.text.items self.goals self.proved c.in_ok-number.number c.in_ok-proved.proved asked v h.3 said put
          number c.in_ok-proved.ensures,
    )

use Rattle.std.proofs.Common.{rules, ◌≡◌, IfOk, map, ap, subst, ◌∙◌}
use Rattle.acsl_trees.specs.Tree.{view_trees}
use Rattle.qed_terms.specs.View.{formula_tree}
use Rattle.program_trees.specs.View.{view_contract}
use Rattle.program_steps.specs.Terms.{has_variable}
use Rattle.program_steps.specs.Words.{is_inside}
use Rattle.step_walks.specs.View.{view_state}
use Rattle.step_walks.specs.Walks.{states}
use Rattle.walk_frames.specs.View.{facts_in, shape_in, view_force, view_point}
use Rattle.walk_frames.specs.Words.{unless}
use Rattle.walk_frames.proofs.Given.{writes_in_function, writes_in_loop}
use Rattle.walk_frames.proofs.clauses.write_formulas.Goals as goal

pub returns-in_ok-level-in-OfFunction : goal.returns-in_ok-level-in-OfFunction
returns-in_ok-level-in-OfFunction g c k os =
    let p = facts_in c.args.frame in
    let s = shape_in c.args.frame k in
    let tx = g.T.Texts.text c.args.texts.now in
    let ss = states (view_state c.args.state.now) in
    let pt = view_point c.args.frame os c.args.point in
    subst (λ us. IfOk c.missing.result (λ made. map formula_tree made ≡ us))
    (writes_in_function ss p s tx (view_contract c.args.frame.contract.now) pt c.args.variable c.in_ok-level-in-OfFunction.level (ap view_force c.in-OfFunction.is) c.in_ok-level-in-OfFunction.ensures) (c.missing.ensures k)

pub returns-in-OfLoop : goal.returns-in-OfLoop
returns-in-OfLoop g c k os =
    let p = facts_in c.args.frame in
    let s = shape_in c.args.frame k in
    let tx = g.T.Texts.text c.args.texts.now in
    let ss = states (view_state c.args.state.now) in
    let pt = view_point c.args.frame os c.args.point in
    let rs = c.in-OfLoop.regions.now in
    let slice : c.as_slice.result.now ≡ rs = search (rules, c.as_slice.ensures) in
    subst (λ us. IfOk c.asked_in_loop.result (λ made. map formula_tree made ≡ us))
    (ap (λ ts. unless (has_variable (view_trees ts) c.args.variable) (is_inside p s tx c.in-OfLoop.declared c.args.variable)) slice
    ∙ writes_in_loop ss p s tx (view_contract c.args.frame.contract.now) pt c.args.variable (view_trees rs) c.in-OfLoop.declared (ap view_force c.in-OfLoop.is)) (c.asked_in_loop.ensures p s tx)

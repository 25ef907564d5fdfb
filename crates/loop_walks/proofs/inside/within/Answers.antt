use Rattle.std.proofs.Common.{rules, ◌≡◌, ◌+◌, ◌∙◌, sym, arith, map, suc}
use Rattle.acsl_trees.specs.Tree.{view_trees}
use Rattle.program_steps.specs.Leaves.{fill}
use Rattle.program_trees.specs.View.{view_contract}
use Rattle.step_walks.specs.View.{view_state}
use Rattle.step_walks.specs.Walks.{states}
use Rattle.walk_frames.specs.View.{facts_in, shape_in, view_force}
use Rattle.loop_words.specs.Sets as spec
use Rattle.loop_walks.specs.Parts.{outside_trees}
use Rattle.loop_walks.proofs.inside.within.Goals as goal

pub returns-in_ok-made-in-OfFunction : goal.returns-in_ok-made-in-OfFunction
returns-in_ok-made-in-OfFunction g c k os =
    let ss = states (view_state c.args.state.now) in
    let p = facts_in c.args.frame in
    let s = shape_in c.args.frame k in
    let tx = g.T.Texts.text c.args.texts.now in
    let d = view_contract c.args.frame.contract.now in
    let rs = view_trees c.args.regions.now in
    let further : c.in_ok-level.level ≡ c.args.point.entry + 1 = c.in_ok-level.ensures in
    let level : c.in_ok-level.level ≡ suc c.args.point.entry = omega (arith, further) in
    c.in_ok-made-in-OfFunction.ensures k ∙ (λ i. map (fill ss) (spec.within p s tx (level i) d (view_force (sym c.in-OfFunction.is i)) rs))

pub returns-in_ok-made-in-OfLoop : goal.returns-in_ok-made-in-OfLoop
returns-in_ok-made-in-OfLoop g c k os =
    let ss = states (view_state c.args.state.now) in
    let p = facts_in c.args.frame in
    let s = shape_in c.args.frame k in
    let tx = g.T.Texts.text c.args.texts.now in
    let d = view_contract c.args.frame.contract.now in
    let rs = view_trees c.args.regions.now in
    let seen : c.as_slice.result.now ≡ c.in-OfLoop.names.now = search (rules, c.as_slice.ensures) in
    c.in_ok-made-in-OfLoop.ensures ss p s tx ∙ (λ i. map (fill ss) (outside_trees p s tx (view_trees (seen i)) c.in-OfLoop.declared rs))
    ∙ (λ i. map (fill ss) (spec.within p s tx (suc c.args.point.entry) d (view_force (sym c.in-OfLoop.is i)) rs))

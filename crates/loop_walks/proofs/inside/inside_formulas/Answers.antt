use Rattle.std.proofs.Common.{rules, ◌≡◌, ◌∙◌, sym, map, suc}
use Rattle.std.specs.Option.{option_map}
use Rattle.acsl_trees.specs.Tree.{view_trees}
use Rattle.core_trees.specs.View.{view_loop}
use Rattle.program_steps.specs.Leaves.{fill}
use Rattle.program_trees.specs.View.{view_contract}
use Rattle.step_walks.specs.View.{view_state}
use Rattle.step_walks.specs.Walks.{states}
use Rattle.walk_frames.specs.View.{facts_in, shape_in, view_point}
use Rattle.loop_words.specs.Sets as spec
use Rattle.loop_walks.proofs.inside.inside_formulas.Goals as goal

pub returns-in_ok-made-in-Some : goal.returns-in_ok-made-in-Some
returns-in_ok-made-in-Some g c k os =
    let ss = states (view_state c.args.state.now) in
    let p = facts_in c.args.frame in
    let s = shape_in c.args.frame k in
    let tx = g.T.Texts.text c.args.texts.now in
    let d = view_contract c.args.frame.contract.now in
    let pt = view_point c.args.frame os c.args.point in
    let seen : c.as_slice.result.now ≡ c.in-Some.regions = search (rules, c.as_slice.ensures) in
    c.in_ok-made-in-Some.ensures k os ∙ (λ i. map (fill ss) (spec.within p s tx (suc c.args.point.entry) d pt.force (view_trees (seen i))))
    ∙ (λ i. map (fill ss) (spec.inside_trees p s tx d pt (record (view_loop c.args.l.now) { assigns = option_map view_trees (sym c.in-Some.is i) })))

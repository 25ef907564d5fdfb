use Rattle.std.proofs.Common.{rules, ◌≡◌, ◌++◌, [], ◌∙◌, ap, sym, map, true}
use Rattle.acsl_trees.specs.Tree.{view_trees}
use Rattle.qed_terms.specs.View.{formula_tree}
use Rattle.program_steps.specs.Leaves.{fill}
use Rattle.program_trees.specs.View.{view_behavior}
use Rattle.step_walks.specs.View.{view_state}
use Rattle.step_walks.specs.Walks.{states}
use Rattle.walk_frames.specs.View.{facts_in, shape_in}
use Rattle.loop_words.specs.Sets as spec
use Rattle.loop_walks.proofs.Lists.{map_both}
use Rattle.loop_walks.proofs.Lacking.{lacking_turn}
use Rattle.loop_walks.proofs.inside.lacking.Goals as goal

pub loop-behavior-init : goal.loop-behavior-init
loop-behavior-init g c k =
    let ss = states (view_state c.args.state.now) in
    let p = facts_in c.args.frame in
    let s = shape_in c.args.frame k in
    let tx = g.T.Texts.text c.args.texts.now in
    let rs = view_trees c.args.regions.now in
    let first = spec.lacking_in p s tx c.args.level true (view_behavior c.args.frame.contract.now.plain) rs in
    let rest = spec.lacking_all p s tx c.args.level (map view_behavior c.args.frame.contract.now.behaviors) rs in
    let none : c.new-made.result ≡ [] = c.new-made.ensures in
    ap (λ xs. xs ++ map (fill ss) rest) (c.in_ok-add_lacking.ensures k ∙ (λ i. map formula_tree (none i) ++ map (fill ss) first)) ∙ sym (map_both (fill ss) first rest)

pub loop-behavior-preserved : goal.loop-behavior-preserved
loop-behavior-preserved g c k =
    let bs = c.args.frame.contract.now.behaviors in
    let seen : c.as_slice-behavior-items.result.now ≡ bs = search (rules, c.as_slice-behavior-items.ensures) in
    lacking_turn (states (view_state c.args.state.now)) (facts_in c.args.frame) (shape_in c.args.frame k) (g.T.Texts.text c.args.texts.now) c.args.level (view_trees c.args.regions.now)
    c.as_slice-behavior-items.result.now bs seen c.loop-behavior.behavior-index c.behavior-item.result (map formula_tree c.loop-behavior.made) (map formula_tree c.add_lacking-in-loop-behavior.new.made) _
    c.loop-behavior-test.true c.behavior-item.is (c.loop-behavior.invariant k) (c.in_ok-add_lacking-2.ensures k)

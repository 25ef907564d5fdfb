use Rattle.std.proofs.Common.{rules, ◌≡◌, map}
use Rattle.qed_terms.specs.View.{formula_tree}
use Rattle.step_walks.specs.View.{view_state}
use Rattle.step_walks.specs.Walks.{states}
use Rattle.walk_frames.specs.View.{facts_in, shape_in}
use Rattle.loop_words.specs.Words as words
use Rattle.loop_walks.proofs.Staying.{behavior_next}
use Rattle.loop_walks.proofs.heads.add_behaviors.Goals as goal

pub loop-behavior-preserved : goal.loop-behavior-preserved
loop-behavior-preserved g c k f h =
    let p = facts_in c.args.frame in
    let bs = c.args.frame.contract.now.behaviors in
    let seen : c.as_slice-behavior-items.result.now ≡ bs = search (rules, c.as_slice-behavior-items.ensures) in
    behavior_next (states (view_state c.args.state.now)) (words.assumed_at p (shape_in c.args.frame k) (g.T.Texts.text c.args.texts.now) c.args.level) f p.globals c.as_slice-behavior-items.result.now bs seen
    c.loop-behavior.behavior-index c.behavior-item.result (map formula_tree c.loop-behavior.made) (map formula_tree c.add_behavior.new.made) _ c.loop-behavior-test.true c.behavior-item.is
    (c.loop-behavior.invariant k f h) (c.in_ok-add_behavior.ensures k f h)

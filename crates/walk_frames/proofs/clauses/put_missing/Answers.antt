use Rattle.std.proofs.Common.{map}
use Rattle.qed_terms.specs.View.{formula_tree}
use Rattle.step_walks.specs.View.{view_state}
use Rattle.step_walks.specs.Walks.{states}
use Rattle.walk_frames.specs.View.{facts_in, shape_in}
use Rattle.walk_frames.proofs.Missing.{missing_turn, missing_end}
use Rattle.walk_frames.proofs.clauses.put_missing.Goals as goal

pub loop-behavior-preserved : goal.loop-behavior-preserved
loop-behavior-preserved g c k =
    missing_turn (states (view_state c.args.state.now)) (facts_in c.args.frame) (shape_in c.args.frame k) (g.T.Texts.text c.args.texts.now) c.args.level c.args.variable c.args.behaviors.now c.loop-behavior.behavior-index
    c.behavior-item.result (map formula_tree c.loop-behavior.made) (map formula_tree c.missing_in.new.made) _ c.loop-behavior-test.true c.behavior-item.is (c.loop-behavior.invariant k) (c.in_ok-missing_in.ensures k)

pub returns : goal.returns
returns g c k =
    missing_end (states (view_state c.args.state.now)) (facts_in c.args.frame) (shape_in c.args.frame k) (g.T.Texts.text c.args.texts.now) c.args.level c.args.variable c.args.behaviors.now c.loop-behavior.behavior-index
    (map formula_tree c.loop-behavior.made) _ c.loop-behavior-test.false (c.loop-behavior.invariant k)

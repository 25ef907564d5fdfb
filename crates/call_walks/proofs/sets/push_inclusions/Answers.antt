use Rattle.std.proofs.Common.{◌≡◌, ℕ, List, false, map}
use Rattle.qed_terms.specs.View.{formula_tree}
use Rattle.program_trees.specs.View.{view_behavior, view_contract, view_facts}
use Rattle.wp_base.specs.declared.kinds.Kind.{Kind}
use Rattle.acsl_trees.specs.Tree as acsl
use Rattle.program_steps.specs.Leaves.{fill}
use Rattle.program_steps.specs.Terms.{assumed_tree, entry_reading}
use Rattle.step_walks.specs.View.{view_state}
use Rattle.step_walks.specs.Walks.{states}
use Rattle.walk_frames.specs.View.{facts_in, shape_in}
use Rattle.call_walks.specs.Sets.{inclusion_by}
use Rattle.call_walks.proofs.Turns.{joined_turn, joined_end}
use Rattle.call_walks.proofs.sets.push_inclusions.Goals as goal

pub loop-behavior-preserved : goal.loop-behavior-preserved
loop-behavior-preserved g c k =
    joined_turn view_behavior (inclusion_by (facts_in c.args.frame) (g.T.Texts.text c.args.texts.now) c.args.entered (view_contract c.args.contract.now) (λ (as_ : List acsl.Tree). fill (states (view_state c.args.state.now)) (assumed_tree (facts_in c.args.frame) (shape_in c.args.frame k) (g.T.Texts.text c.args.texts.now) (entry_reading (facts_in c.args.frame) (shape_in c.args.frame k) (g.T.Texts.text c.args.texts.now) c.args.level) as_)) false) c.args.behaviors.now c.loop-behavior.behavior-index c.behavior-item.result (map formula_tree c.loop-behavior.made)
    (map formula_tree c.push_inclusion.new.made) _ c.loop-behavior-test.true c.behavior-item.is (c.loop-behavior.invariant k) (c.in_ok-push_inclusion.ensures k)

pub returns : goal.returns
returns g c k =
    joined_end view_behavior (inclusion_by (facts_in c.args.frame) (g.T.Texts.text c.args.texts.now) c.args.entered (view_contract c.args.contract.now) (λ (as_ : List acsl.Tree). fill (states (view_state c.args.state.now)) (assumed_tree (facts_in c.args.frame) (shape_in c.args.frame k) (g.T.Texts.text c.args.texts.now) (entry_reading (facts_in c.args.frame) (shape_in c.args.frame k) (g.T.Texts.text c.args.texts.now) c.args.level) as_)) false) c.args.behaviors.now c.loop-behavior.behavior-index (map formula_tree c.loop-behavior.made) _ c.loop-behavior-test.false (c.loop-behavior.invariant k)

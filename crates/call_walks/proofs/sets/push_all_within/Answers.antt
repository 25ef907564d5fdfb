use Rattle.std.proofs.Common.{◌≡◌, ℕ, List, false, map}
use Rattle.qed_terms.specs.View.{formula_tree}
use Rattle.program_trees.specs.View.{view_behavior, view_contract, view_facts}
use Rattle.acsl_trees.specs.Tree.{view_trees}
use Rattle.call_walks.specs.Sets.{within_by}
use Rattle.call_walks.proofs.Turns.{joined_turn}
use Rattle.call_walks.proofs.sets.push_all_within.Goals as goal

pub loop-behavior-preserved : goal.loop-behavior-preserved
loop-behavior-preserved g c =
    joined_turn view_behavior (within_by (view_facts c.args.facts.now) (g.T.Texts.text c.args.texts.now) c.args.entered (view_trees c.args.around.now) false) c.args.behaviors.now c.loop-behavior.behavior-index c.behavior-item.result (map formula_tree c.loop-behavior.made)
    (map formula_tree c.push_within.new.made) _ c.loop-behavior-test.true c.behavior-item.is (c.loop-behavior.invariant) c.in_ok-push_within.ensures

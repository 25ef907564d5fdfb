use Rattle.std.proofs.Common.{◌≡◌, ℕ, List, false, map}
use Rattle.qed_terms.specs.View.{formula_tree}
use Rattle.program_trees.specs.View.{view_behavior, view_contract, view_facts}
use Rattle.call_walks.specs.Claimed.{required_by}
use Rattle.call_walks.proofs.Turns.{joined_turn}
use Rattle.call_walks.proofs.claims.push_required.Goals as goal

pub loop-behavior-preserved : goal.loop-behavior-preserved
loop-behavior-preserved g c =
    joined_turn view_behavior (required_by (view_facts c.args.facts.now) (g.T.Texts.text c.args.texts.now) c.args.entered false) c.args.behaviors.now c.loop-behavior.behavior-index c.behavior-item.result (map formula_tree c.loop-behavior.made)
    (map formula_tree c.push_claims.new.made) _ c.loop-behavior-test.true c.behavior-item.is (c.loop-behavior.invariant) c.in_ok-push_claims.ensures

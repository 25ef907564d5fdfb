use Rattle.std.proofs.Common.{◌≡◌, ℕ, List, false, map}
use Rattle.c_runs.specs.Program.{Behavior}
use Rattle.program_trees.specs.View.{view_behavior, view_contract, view_facts}
use Rattle.qed_terms.specs.View.{formula_tree, term_tree}
use Rattle.call_words.specs.Sets.{may_differ}
use Rattle.walk_frames.specs.Labelled.{assumed_in}
use Rattle.call_walks.specs.Claimed.{stays_in}
use Rattle.call_walks.proofs.Turns.{joined_turn}
use Rattle.call_walks.proofs.stays.push_all_stays.Goals as goal

pub loop-behavior-preserved : goal.loop-behavior-preserved
loop-behavior-preserved g c =
    joined_turn view_behavior (λ (b : Behavior). stays_in (map term_tree c.args.now.now) (map term_tree c.args.before.now) (may_differ (view_contract c.args.contract.now)) (assumed_in (view_facts c.args.facts.now) (g.T.Texts.text c.args.texts.now) c.args.entered b.assumes) b.assigns 0 (view_facts c.args.facts.now).globals) c.args.behaviors.now c.loop-behavior.behavior-index c.behavior-item.result (map formula_tree c.loop-behavior.made)
    (map formula_tree c.push_behavior.new.made) _ c.loop-behavior-test.true c.behavior-item.is (c.loop-behavior.invariant) c.in_ok-push_behavior.ensures

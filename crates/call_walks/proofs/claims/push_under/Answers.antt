use Rattle.std.proofs.Common.{◌≡◌, List, map, ap, ◌∙◌}
use Rattle.c_runs.specs.Program as program
use Rattle.core_trees.specs.View.{view_claim}
use Rattle.program_trees.specs.View.{view_facts}
use Rattle.program_steps.specs.Words.{under}
use Rattle.qed_terms.specs.View.{formula_tree}
use Rattle.walk_frames.specs.Labelled.{claimed_in}
use Rattle.call_walks.proofs.Parts.{pushed}
use Rattle.call_walks.proofs.Turns.{map_turn}
use Rattle.call_walks.proofs.claims.push_under.Goals as goal

pub loop-claim-preserved : goal.loop-claim-preserved
loop-claim-preserved g c =
    let tx = g.T.Texts.text c.args.texts.now in
    let f = λ (x : program.Claim). under c.args.is_plain (formula_tree c.args.assumed.now) (claimed_in (view_facts c.args.facts.now) tx c.args.labels x.what) in
    map_turn view_claim f c.args.claims.now c.loop-claim.claim-index c.claim-item.result (map formula_tree c.loop-claim.made) (map formula_tree c.push.new.self) _ c.loop-claim-test.true c.claim-item.is
    c.loop-claim.invariant (pushed c.loop-claim.made c.push.new.self _ _ c.in_ok-push.ensures.ok (c.in_ok-under.ensures ∙ ap (under c.args.is_plain (formula_tree c.args.assumed.now)) c.in_ok-formula.ensures))

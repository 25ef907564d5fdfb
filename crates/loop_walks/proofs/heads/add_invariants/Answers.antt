use Rattle.std.proofs.Common.{◌∙◌, ap, map}
use Rattle.acsl_trees.specs.Tree.{view_tree}
use Rattle.qed_terms.specs.View.{formula_tree}
use Rattle.program_steps.specs.Leaves.{fill}
use Rattle.program_steps.specs.Terms.{body_reading, claim_tree}
use Rattle.step_walks.specs.View.{view_state}
use Rattle.step_walks.specs.Walks.{states}
use Rattle.walk_frames.specs.View.{facts_in, shape_in}
use Rattle.walk_words.proofs.Pushing.{map_push}
use Rattle.loop_words.specs.Words as words
use Rattle.loop_walks.proofs.Checks.{tree_next}
use Rattle.loop_walks.proofs.heads.add_invariants.Goals as goal

pub loop-claim-preserved : goal.loop-claim-preserved
loop-claim-preserved g c k pt e =
    let ss = states (view_state c.args.state.now) in
    let p = facts_in c.args.frame in
    let s = shape_in c.args.frame k in
    let tx = g.T.Texts.text c.args.texts.now in
    tree_next ss (words.head_tree p s tx pt) c.args.claims.now c.loop-claim.claim-index c.claim-item.result (formula_tree c.in_ok-claim_at.field-0) (map formula_tree c.loop-claim.made)
    (map formula_tree c.push.new.self) _ c.loop-claim-test.true c.claim-item.is (c.loop-claim.invariant k pt e)
    (c.in_ok-claim_at.ensures k ∙ (λ i. fill ss (claim_tree p s tx (body_reading p s tx 0 (e i) 1) (view_tree c.claim-item.result.what))))
    (ap (map formula_tree) c.in_ok-push.ensures.ok ∙ map_push formula_tree c.loop-claim.made c.in_ok-claim_at.field-0)

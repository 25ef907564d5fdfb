use Rattle.std.proofs.Common.{◌∙◌, ap, map}
use Rattle.step_walks.specs.View.{view_state}
use Rattle.step_walks.specs.Walks.{states}
use Rattle.walk_frames.specs.Asked.{view_asked}
use Rattle.walk_frames.specs.View.{facts_in, shape_in}
use Rattle.walk_words.proofs.Pushing.{map_push}
use Rattle.loop_walks.specs.Parts.{invariant_check}
use Rattle.loop_walks.proofs.Checks.{check_next}
use Rattle.loop_walks.proofs.ends.add_invariants.Goals as goal

pub loop-claim-preserved : goal.loop-claim-preserved
loop-claim-preserved g c m k =
    check_next (states (view_state c.args.state.now))
    (invariant_check (facts_in c.args.frame) (shape_in c.args.frame k) (g.T.Texts.text c.args.texts.now) m c.args.is_kept c.args.entry c.args.loop_entry) c.args.claims.now c.loop-claim.claim-index
    c.claim-item.result (view_asked c.in_ok-invariant.field-0) (map view_asked c.loop-claim.made) (map view_asked c.push.new.self) _ c.loop-claim-test.true c.claim-item.is (c.loop-claim.invariant m k)
    (c.in_ok-invariant.ensures m k) (ap (map view_asked) c.in_ok-push.ensures.ok ∙ map_push view_asked c.loop-claim.made c.in_ok-invariant.field-0)

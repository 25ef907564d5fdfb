use Rattle.std.proofs.Common.{◌≡◌, ◌++◌, ℕ, map, drop}
use Rattle.wp_base.specs.declared.kinds.Kind.{Kind}
use Rattle.qed_terms.specs.Meaning as sense
use Rattle.step_walks.specs.View.{view_state}
use Rattle.step_walks.specs.Walks.{states}
use Rattle.walk_frames.specs.Asked.{view_asked}
use Rattle.walk_frames.specs.View.{facts_in, shape_in}
use Rattle.function_walks.proofs.Returning.{promised_by}
use Rattle.function_walks.proofs.promises.put_behavior.Given as goal

abbrev pub invariant-loop-claim : goal.invariant-loop-claim
invariant-loop-claim g l =
    (m : sense.World) (k : ℕ → Kind)
    → map view_asked l.made ++ map (promised_by (facts_in l.frame) (shape_in l.frame k) (g.T.Texts.text l.texts) (states (view_state l.state)) m l.is_plain l.behavior) (drop l.claim-index l.behavior.ensures_)
    ≡ map view_asked l.fn.made ++ map (promised_by (facts_in l.frame) (shape_in l.frame k) (g.T.Texts.text l.texts) (states (view_state l.state)) m l.is_plain l.behavior) l.behavior.ensures_

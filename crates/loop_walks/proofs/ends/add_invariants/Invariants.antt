use Rattle.std.proofs.Common.{◌≡◌, ◌++◌, ℕ, drop, map}
use Rattle.core_trees.specs.View.{view_claim}
use Rattle.wp_base.specs.declared.kinds.Kind.{Kind}
use Rattle.qed_terms.specs.Meaning as sense
use Rattle.step_walks.specs.View.{view_state}
use Rattle.step_walks.specs.Walks.{states}
use Rattle.loop_walks.specs.Parts.{invariant_check}
use Rattle.walk_frames.specs.Asked.{view_asked, written_check}
use Rattle.walk_frames.specs.View.{facts_in, shape_in}
use Rattle.loop_walks.proofs.ends.add_invariants.Given as goal

abbrev pub invariant-loop-claim : goal.invariant-loop-claim
invariant-loop-claim g l =
    (m : sense.World) (k : ℕ → Kind)
    → map view_asked l.made ++ map (written_check (states (view_state l.state)))
    (map (invariant_check (facts_in l.frame) (shape_in l.frame k) (g.T.Texts.text l.texts) m l.is_kept l.entry l.loop_entry) (map view_claim (drop l.claim-index l.claims)))
    ≡ map view_asked l.initial.made ++ map (written_check (states (view_state l.state)))
    (map (invariant_check (facts_in l.frame) (shape_in l.frame k) (g.T.Texts.text l.texts) m l.is_kept l.entry l.loop_entry) (map view_claim l.claims))

use Rattle.std.proofs.Common.{◌≡◌, ◌++◌, ℕ, map, drop}
use Rattle.wp_base.specs.declared.kinds.Kind.{Kind}
use Rattle.program_trees.specs.View.{view_behavior}
use Rattle.qed_terms.specs.Meaning as sense
use Rattle.step_walks.specs.View.{view_state}
use Rattle.step_walks.specs.Walks.{states}
use Rattle.walk_frames.specs.Asked.{view_asked}
use Rattle.walk_frames.specs.View.{facts_in, shape_in}
use Rattle.function_walks.proofs.Requiring.{flat}
use Rattle.function_walks.proofs.Behaviors.{asked_by}
use Rattle.function_walks.proofs.together.put_together.Given as goal

abbrev pub invariant-loop-together : goal.invariant-loop-together
invariant-loop-together g l =
    (m : sense.World) (k : ℕ → Kind)
    → map view_asked l.made ++ flat (asked_by m (facts_in l.frame) (shape_in l.frame k) (g.T.Texts.text l.texts) (states (view_state l.state)) (map view_behavior l.frame.contract.now.behaviors) l.is_complete) (drop l.together-index l.frame.contract.now.together)
    ≡ map view_asked l.fn.made ++ flat (asked_by m (facts_in l.frame) (shape_in l.frame k) (g.T.Texts.text l.texts) (states (view_state l.state)) (map view_behavior l.frame.contract.now.behaviors) l.is_complete) l.frame.contract.now.together

use Rattle.std.proofs.Common.{◌≡◌, ◌++◌, ℕ, map, drop}
use Rattle.wp_base.specs.declared.kinds.Kind.{Kind}
use Rattle.qed_terms.specs.Meaning as sense
use Rattle.step_walks.specs.View.{view_state}
use Rattle.step_walks.specs.Walks.{states}
use Rattle.walk_frames.specs.Asked.{view_asked}
use Rattle.walk_frames.specs.View.{facts_in, shape_in}
use Rattle.function_walks.proofs.Requiring.{flat}
use Rattle.function_walks.proofs.Returning.{promised_of}
use Rattle.function_walks.proofs.promises.put_behaviors.Given as goal

abbrev pub invariant-loop-behavior : goal.invariant-loop-behavior
invariant-loop-behavior g l =
    (m : sense.World) (k : ℕ → Kind)
    → map view_asked l.made ++ flat (promised_of (facts_in l.frame) (shape_in l.frame k) (g.T.Texts.text l.texts) (states (view_state l.state)) m) (drop l.behavior-index l.frame.contract.now.behaviors)
    ≡ map view_asked l.fn.made ++ flat (promised_of (facts_in l.frame) (shape_in l.frame k) (g.T.Texts.text l.texts) (states (view_state l.state)) m) l.frame.contract.now.behaviors

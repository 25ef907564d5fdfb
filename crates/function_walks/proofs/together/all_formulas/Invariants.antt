use Rattle.std.proofs.Common.{◌≡◌, ◌++◌, ℕ, map, drop}
use Rattle.wp_base.specs.declared.kinds.Kind.{Kind}
use Rattle.qed_terms.specs.Meaning as sense
use Rattle.qed_terms.specs.View.{formula_tree}
use Rattle.step_walks.specs.View.{view_state}
use Rattle.step_walks.specs.Walks.{states}
use Rattle.walk_frames.specs.View.{facts_in, shape_in}
use Rattle.function_walks.proofs.Behaviors.{formula_by}
use Rattle.function_walks.proofs.together.all_formulas.Given as goal

abbrev pub invariant-loop-behavior : goal.invariant-loop-behavior
invariant-loop-behavior g l =
    (m : sense.World) (k : ℕ → Kind)
    → map formula_tree l.made ++ map (formula_by m (facts_in l.frame) (shape_in l.frame k) (g.T.Texts.text l.texts) (states (view_state l.state))) (drop l.behavior-index l.frame.contract.now.behaviors)
    ≡ map (formula_by m (facts_in l.frame) (shape_in l.frame k) (g.T.Texts.text l.texts) (states (view_state l.state))) l.frame.contract.now.behaviors

use Rattle.std.proofs.Common.{◌≡◌, ◌++◌, ℕ, map, drop}
use Rattle.wp_base.specs.declared.kinds.Kind.{Kind}
use Rattle.program_trees.specs.View.{view_behavior}
use Rattle.qed_terms.specs.Meaning as sense
use Rattle.qed_terms.specs.View.{formula_tree}
use Rattle.step_walks.specs.View.{view_state}
use Rattle.step_walks.specs.Walks.{states}
use Rattle.walk_frames.specs.View.{facts_in, shape_in}
use Rattle.function_walks.proofs.Behaviors.{named_by}
use Rattle.function_walks.proofs.together.named_formulas.Given as goal

abbrev pub invariant-loop-number : goal.invariant-loop-number
invariant-loop-number g l =
    (m : sense.World) (k : ℕ → Kind)
    → map formula_tree l.made ++ map (named_by m (facts_in l.frame) (shape_in l.frame k) (g.T.Texts.text l.texts) (states (view_state l.state)) (map view_behavior l.frame.contract.now.behaviors)) (drop l.number-index l.numbers)
    ≡ map (named_by m (facts_in l.frame) (shape_in l.frame k) (g.T.Texts.text l.texts) (states (view_state l.state)) (map view_behavior l.frame.contract.now.behaviors)) l.numbers

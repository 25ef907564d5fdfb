use Rattle.std.proofs.Common.{◌≡◌, ◌++◌, ℕ, drop, map}
use Rattle.wp_base.specs.declared.kinds.Kind.{Kind}
use Rattle.qed_terms.specs.View.{formula_tree}
use Rattle.program_trees.specs.View.{view_behavior}
use Rattle.program_steps.specs.Leaves.{fill}
use Rattle.program_steps.specs.Words as spec
use Rattle.step_walks.specs.View.{view_state}
use Rattle.step_walks.specs.Walks.{states}
use Rattle.walk_frames.specs.View.{facts_in, shape_in}
use Rattle.walk_frames.proofs.clauses.put_missing.Given as goal

abbrev pub invariant-loop-behavior : goal.invariant-loop-behavior
invariant-loop-behavior g l =
    (k : ℕ → Kind)
    → map formula_tree l.made ++ map (fill (states (view_state l.state)))
    (spec.missing_all (facts_in l.frame) (shape_in l.frame k) (g.T.Texts.text l.texts) l.level (map view_behavior (drop l.behavior-index l.behaviors)) l.variable)
    ≡ map formula_tree l.initial.made ++ map (fill (states (view_state l.state)))
    (spec.missing_all (facts_in l.frame) (shape_in l.frame k) (g.T.Texts.text l.texts) l.level (map view_behavior l.behaviors) l.variable)

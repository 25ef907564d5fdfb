use Rattle.std.proofs.Common.{◌≡◌, ◌++◌, ℕ, drop, map}
use Rattle.acsl_trees.specs.Tree.{view_trees}
use Rattle.wp_base.specs.declared.kinds.Kind.{Kind}
use Rattle.qed_terms.specs.View.{formula_tree}
use Rattle.program_trees.specs.View.{view_behavior, view_contract}
use Rattle.program_steps.specs.Leaves.{fill}
use Rattle.step_walks.specs.View.{view_state}
use Rattle.step_walks.specs.Walks.{states}
use Rattle.loop_words.specs.Sets as spec
use Rattle.loop_walks.specs.Parts.{lacking_clauses}
use Rattle.walk_frames.specs.View.{facts_in, shape_in}
use Rattle.loop_walks.proofs.inside.lacking.Given as goal

abbrev pub invariant-loop-behavior : goal.invariant-loop-behavior
invariant-loop-behavior g l =
    (k : ℕ → Kind)
    → map formula_tree l.made ++ map (fill (states (view_state l.state)))
    (spec.lacking_all (facts_in l.frame) (shape_in l.frame k) (g.T.Texts.text l.texts) l.level (map view_behavior (drop l.behavior-index l.frame.contract.now.behaviors)) (view_trees l.regions))
    ≡ map (fill (states (view_state l.state)))
    (lacking_clauses (facts_in l.frame) (shape_in l.frame k) (g.T.Texts.text l.texts) l.level (view_contract l.frame.contract.now) (view_trees l.regions))

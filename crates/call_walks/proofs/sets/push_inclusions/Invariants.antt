use Rattle.std.proofs.Common.{◌≡◌, ◌++◌, ℕ, List, false, map, drop}
use Rattle.qed_terms.specs.View.{formula_tree}
use Rattle.program_trees.specs.View.{view_behavior, view_contract, view_facts}
use Rattle.wp_base.specs.declared.kinds.Kind.{Kind}
use Rattle.acsl_trees.specs.Tree as acsl
use Rattle.program_steps.specs.Leaves.{fill}
use Rattle.program_steps.specs.Terms.{assumed_tree, entry_reading}
use Rattle.step_walks.specs.View.{view_state}
use Rattle.step_walks.specs.Walks.{states}
use Rattle.walk_frames.specs.View.{facts_in, shape_in}
use Rattle.call_walks.specs.Claimed.{joined}
use Rattle.call_walks.specs.Sets.{inclusion_by}
use Rattle.call_walks.proofs.sets.push_inclusions.Given as goal

abbrev pub invariant-loop-behavior : goal.invariant-loop-behavior
invariant-loop-behavior g l =
    (k : ℕ → Kind) → map formula_tree l.made ++ joined (inclusion_by (facts_in l.frame) (g.T.Texts.text l.texts) l.entered (view_contract l.contract) (λ (as_ : List acsl.Tree). fill (states (view_state l.state)) (assumed_tree (facts_in l.frame) (shape_in l.frame k) (g.T.Texts.text l.texts) (entry_reading (facts_in l.frame) (shape_in l.frame k) (g.T.Texts.text l.texts) l.level) as_)) false) (map view_behavior (drop l.behavior-index l.behaviors))
    ≡ map formula_tree l.initial.made ++ joined (inclusion_by (facts_in l.frame) (g.T.Texts.text l.texts) l.entered (view_contract l.contract) (λ (as_ : List acsl.Tree). fill (states (view_state l.state)) (assumed_tree (facts_in l.frame) (shape_in l.frame k) (g.T.Texts.text l.texts) (entry_reading (facts_in l.frame) (shape_in l.frame k) (g.T.Texts.text l.texts) l.level) as_)) false) (map view_behavior l.behaviors)

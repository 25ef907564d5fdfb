use Rattle.std.proofs.Common.{◌≡◌, ◌++◌, ℕ, Bool, drop, length, map}
use Rattle.wp_base.specs.declared.kinds.Kind.{Kind}
use Rattle.qed_terms.specs.View.{formula_tree}
use Rattle.program_trees.specs.View.{view_behavior, view_contract}
use Rattle.program_steps.specs.Leaves.{fill}
use Rattle.program_steps.specs.Staying as spec
use Rattle.step_walks.specs.View.{view_state}
use Rattle.step_walks.specs.Walks.{states}
use Rattle.loop_words.specs.Words as words
use Rattle.walk_frames.specs.View.{facts_in, shape_in}
use Rattle.walk_live.specs.Bits.{bits}
use Rattle.loop_walks.proofs.heads.add_behaviors.Given as goal

abbrev pub invariant-loop-behavior : goal.invariant-loop-behavior
invariant-loop-behavior g l =
    (k : ℕ → Kind) (f : ℕ → Bool) → l.changing ≡ bits (length (facts_in l.frame).globals) f
    → map formula_tree l.made ++ map (fill (states (view_state l.state)))
    (spec.all_stay (words.assumed_at (facts_in l.frame) (shape_in l.frame k) (g.T.Texts.text l.texts) l.level) f (facts_in l.frame).globals (map view_behavior (drop l.behavior-index l.frame.contract.now.behaviors)))
    ≡ map formula_tree l.initial.made ++ map (fill (states (view_state l.state)))
    (spec.all_stay (words.assumed_at (facts_in l.frame) (shape_in l.frame k) (g.T.Texts.text l.texts) l.level) f (facts_in l.frame).globals (view_contract l.frame.contract.now).behaviors)

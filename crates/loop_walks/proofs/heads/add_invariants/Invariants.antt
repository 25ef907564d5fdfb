use Rattle.std.proofs.Common.{◌≡◌, ◌++◌, ℕ, suc, drop, map}
use Rattle.core_trees.specs.View.{view_claim}
use Rattle.wp_base.specs.declared.kinds.Kind.{Kind}
use Rattle.qed_terms.specs.View.{formula_tree}
use Rattle.program_steps.specs.Leaves.{fill}
use Rattle.program_steps.specs.Words.{Point}
use Rattle.step_walks.specs.View.{view_state}
use Rattle.step_walks.specs.Walks.{states}
use Rattle.loop_words.specs.Words as words
use Rattle.walk_frames.specs.View.{facts_in, shape_in}
use Rattle.loop_walks.proofs.heads.add_invariants.Given as goal

abbrev pub invariant-loop-claim : goal.invariant-loop-claim
invariant-loop-claim g l =
    (k : ℕ → Kind) (pt : Point) → l.entry ≡ suc (suc pt.entry)
    → map formula_tree l.made ++ map (fill (states (view_state l.state))) (map (words.head_tree (facts_in l.frame) (shape_in l.frame k) (g.T.Texts.text l.texts) pt) (map view_claim (drop l.claim-index l.claims)))
    ≡ map formula_tree l.initial.made ++ map (fill (states (view_state l.state))) (map (words.head_tree (facts_in l.frame) (shape_in l.frame k) (g.T.Texts.text l.texts) pt) (map view_claim l.claims))

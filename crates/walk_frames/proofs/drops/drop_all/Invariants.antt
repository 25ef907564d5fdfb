use Rattle.std.proofs.Common.{ℕ, List, true}
use Rattle.qed_terms.specs.Meaning as sense
use Rattle.walk_steps.specs.Walk.{Goal}
use Rattle.program_steps.specs.Words as words
use Rattle.value_words.specs.View.{view_sizes}
use Rattle.step_walks.specs.View.{view_state}
use Rattle.step_walks.specs.Walks.{Walks}
use Rattle.walk_frames.specs.Words.{Still}
use Rattle.walk_frames.proofs.drops.drop_all.Given as goal

abbrev pub invariant-loop-temporary : goal.invariant-loop-temporary
invariant-loop-temporary l =
    (m : sense.World) (bases : List (List ℕ)) (gs : List Goal)
    → Walks bases (words.drop m (view_sizes l.sizes) l.temporary (λ (n : ℕ). true)) (view_state l.initial.state) (view_state l.state) (Still gs) (Still gs) true

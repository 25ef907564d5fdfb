-- Branches in a walk: what stands before their arms, and between them.
use Rattle.std.specs.Prelude.{◌≡◌, ℕ, List, [], ◌∷◌}
use Rattle.typed_prog.specs.Tree as t
use Rattle.qed_terms.specs.Meaning as sense
use Rattle.qed_terms.specs.Tree.{Tree}
use Rattle.c_runs.specs.Tree.{Steps}
use Rattle.walk_steps.specs.Step.{Step}
use Rattle.walk_steps.specs.Walk.{Goal}
use Rattle.program_steps.specs.Temporaries.{Temporaries}
use Rattle.value_words.specs.View.{view_term}
use Rattle.walk_live.specs.Bits.{bits, unused_in}
use Rattle.step_walks.specs.Walks.{Held, Walks, now_knows}
use Rattle.step_walks.specs.Ways.{TurnsBack}
use Rattle.walk_frames.specs.declared.frames.Frame.{Frame}
use Rattle.walk_frames.specs.View.{facts_in, variables_in}
use Rattle.walk_frames.specs.Evaluated.{Evaluated}
use Rattle.program_walk.specs.declared.branches.Tested.{Tested}
use Rattle.program_walk.specs.declared.branches.FirstArm as memory

-- the value of a test was made, and the sets of both arms
pub record Tests (m : sense.World) (x : Frame) (os : List Temporaries) (f : Temporaries) (e : t.Value) (a b : Steps) (made : Tested) (p q : Held) (fit fit' : List Goal → Type 0) : Type 0 where
  pub value : Evaluated m x.bases.now (facts_in x) (variables_in x) e (view_term made.made) p q fit fit'
  pub first : made.sets.first ≡ bits x.temporaries (unused_in e b a os f)
  pub second : made.sets.second ≡ bits x.temporaries (unused_in e a b os f)

-- where this is known the first arm was walked, and the second one begins
pub record FirstWalked (bases : List (List ℕ)) (a : Step) (known : Tree) (first : memory.FirstArm) (p r : Held) (fit fit' : List Goal → Type 0) : Type 0 where
  pub end : Held
  pub walks : Walks bases a (now_knows p (known ∷ [])) end fit fit' first.goes
  pub turns : TurnsBack p end first.arm r

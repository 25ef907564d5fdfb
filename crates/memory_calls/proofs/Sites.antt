-- Where a loop is entered in a run: what is taken for granted of it in the proofs, and what is to show of its head.
use Rattle.std.proofs.Common.{◌≡◌, ℕ, Bool, true, List, ◌∷◌}
use Rattle.qed_terms.specs.Meaning as sense
use Rattle.c_runs.specs.Program.{Contract, Loop, Facts}
use Rattle.c_runs.specs.States.{Here}
use Rattle.c_runs.specs.CoreRun.{CoreWorld}
use Rattle.c_runs.specs.Tree.{Steps}
use Rattle.goal_segments.specs.Sets.{own_loop}
use Rattle.goal_segments.specs.Segments.{AtHead}
use Rattle.program_steps.specs.Temporaries.{Temporaries, no_temporaries, all_live}
use Rattle.memory_steps.specs.State.{State}
use Rattle.memory_steps.specs.Step.{Step}
use Rattle.memory_steps.specs.Run.{End, goes_on, Seg}
use Rattle.memory_words.specs.Shapes.{FileCells, Shape}
use Rattle.memory_words.specs.Readings.{Texts}
use Rattle.memory_words.specs.Standing.{Frame, StandsFor}
use Rattle.memory_words.specs.Seen.{InSetting}
use Rattle.memory_words.specs.Points.{Point, uses_of}
use Rattle.memory_words.specs.Placed.{Openings, Placed, all_told}
use Rattle.memory_calls.specs.Havoc.{havoc_word}
use Rattle.memory_calls.specs.LoopSets.{turns}
use Rattle.memory_calls.specs.LoopWords.{stay_trees}
use Rattle.memory_calls.specs.LoopFits.{LoopFits}

-- A loop that is entered in this world, for which the slots stand.
pub record Site (m : sense.World) (p : Facts) (s : Shape) (cells : FileCells) (texts : Texts) (contract : Contract) (here : Here) (pt : Point) (olds : List State) (fr : Frame)
    (os : Openings) (l : Loop) (ss : Steps) (c : CoreWorld) (st : State) : Type 0 where
  pub setting : InSetting m p s cells
  pub placed : Placed m p s cells texts contract pt here olds fr os
  pub fits : LoopFits m p s cells texts contract pt l ss
  pub stands : StandsFor p s cells fr (all_live ss (uses_of pt.outs) no_temporaries) c st

module _ (m : sense.World) (p : Facts) (s : Shape) (cells : FileCells) (texts : Texts) (contract : Contract) (here : Here) (pt : Point) (olds : List State) (fr : Frame)
    (l : Loop) (ss : Steps) (c : CoreWorld) (st : State) where
  -- which temporaries are used in a pass
  abbrev pub used : Temporaries
  used = all_live ss (uses_of pt.outs) no_temporaries

  abbrev pub own : Here
  own = own_loop p here l c.world

  abbrev pub turning : Step
  turning = havoc_word m p s cells (turns p s cells texts contract pt l ss)

  abbrev pub stays_told : State → Bool
  stays_told new = all_told m (new ∷ st ∷ olds) (stay_trees p s cells texts contract pt l ss)

  -- The runs of what its turns may change, where what behaviors let stay is known, come to the worlds at its head, and the other way round.
  pub record HeadIs : Type 0 where
    pub forth : (d : CoreWorld) → AtHead p s.variables own l ss c d → (n : ℕ)
        → (new : State) × Seg (st ∷ olds) n turning st (goes_on new) × StandsFor p s cells fr used d new × (stays_told new ≡ true)
    pub back : (n : ℕ) (e : End) → Seg (st ∷ olds) n turning st e
        → (new : State) × (goes_on new ≡ e) × (stays_told new ≡ true → (d : CoreWorld) × AtHead p s.variables own l ss c d × StandsFor p s cells fr used d new)

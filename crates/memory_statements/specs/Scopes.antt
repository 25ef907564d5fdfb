-- Slots behind the variables of a block that are made, and behind scopes that end.
use Rattle.std.specs.Prelude.{◌≡◌, ℕ, true, false, ℤ, List}
use Rattle.wp_base.specs.declared.kinds.CellKind.{CellKind}
use Rattle.wp_base.specs.Blocks.{Table}
use Rattle.c_runs.specs.Program.{Facts}
use Rattle.c_runs.specs.States.{World, with_memory}
use Rattle.c_runs.specs.CoreRun.{CoreWorld, in_world}
use Rattle.goal_segments.specs.Told.{with_names}
use Rattle.typed_memories.specs.Changes.{StillThere, SameCells}
use Rattle.program_steps.specs.Temporaries.{Temporaries}
use Rattle.memory_steps.specs.State.{State}
use Rattle.memory_steps.specs.Step.{Step}
use Rattle.memory_steps.specs.Run.{End, goes_on, Seg}
use Rattle.memory_words.specs.Places.{result, result_offset, held}
use Rattle.memory_words.specs.Shapes.{FileCells, Shape, sizes}
use Rattle.memory_words.specs.Standing.{Frame, StandsFor}
use Rattle.memory_words.specs.Words.{home_kinds, has_home}
use Rattle.memory_words.specs.Placed.{Opening, frame_behind, ended_all}

-- A word that goes on, to a state of which this is so, whatever numbers its checks have; and so does each run of it.
pub record GoesTo (olds : List State) (a : Step) (st : State) (so : State → Type 0) : Type 0 where
  pub forth : (n : ℕ) → (new : State) × Seg olds n a st (goes_on new) × so new
  pub back : (n : ℕ) (e : End) → Seg olds n a st e → (new : State) × (goes_on new ≡ e) × so new

-- inside of the scope of these variables, where the table and the blocks of variables are these
abbrev pub frame_inside : Frame → List ℕ → Table → (homes : ℕ → ℤ) → Frame
frame_inside fr ys t homes = record { in_scope = with_names ys fr.in_scope; table = t; lives = with_names ys fr.in_scope; homes = homes }

module _ (p : Facts) (s : Shape) (cells : FileCells) (fr : Frame) (f : Temporaries) where
  -- The variables have been made, and the slots stand for the world behind (C11 6.2.4p5).
  pub record OpenedAs (ys : List ℕ) (c : CoreWorld) (u : World) (st : State) : Type 0 where
    pub homes : ℕ → ℤ
    pub kept : (x : ℕ) → fr.in_scope x ≡ true → homes x ≡ fr.homes x
    pub stands : StandsFor p s cells (frame_inside fr ys u.memory.blocks homes) f (in_world c u) st
    pub blocks : StillThere c.world.memory.blocks u.memory.blocks
    -- kinds that none of their blocks has have the same cells, and without blocks there is the same table
    pub kinds : (k : CellKind) → home_kinds s.variables ys k ≡ false → SameCells k c.world.memory.blocks u.memory.blocks
    pub none : has_home s.variables ys ≡ false → u.memory.blocks ≡ c.world.memory.blocks

  -- These scopes have ended, and the slots stand for the world behind; what is returned stands in its places as before (C11 6.2.4p2).
  pub record EndedAs (left : List Opening) (c : CoreWorld) (old new : State) : Type 0 where
    pub stands : StandsFor p s cells (frame_behind fr left) f (in_world c (with_memory (ended_all left c.world.memory) c.world)) new
    pub result : held (sizes p s) new result ≡ held (sizes p s) old result
    pub offset : held (sizes p s) new result_offset ≡ held (sizes p s) old result_offset

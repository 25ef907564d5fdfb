-- What is so of blocks along segment runs, and of the states where blocks are made and end.
use Rattle.std.specs.Prelude.{◌≡◌, ℕ, true, List}
use Rattle.std.specs.List.{list_all}
use Rattle.c_runs.specs.Program.{Variable, Facts, Program}
use Rattle.c_runs.specs.States.{Memory, World, Here}
use Rattle.c_runs.specs.Scopes.{left}
use Rattle.c_runs.specs.CoreRun.{CoreWorld, Ending}
use Rattle.c_runs.specs.Tree.{Step, Steps}
use Rattle.goal_segments.specs.Segments.{Opened, Seg, AllSeg}
use Rattle.typed_memories.specs.Changes.{StillThere}
use Rattle.plain_runs.specs.Fitting.{IsGood}
use Rattle.run_blocks.specs.Ends.{StillAt, is_short}

-- Along a segment run the blocks that were there stay (C11 6.2.4): each block that is made has a number of its own, and what ends was made in the run.
pub record BlocksStand (q : Program Steps) (xs : List Variable) : Type 0 where
  pub one : (here : Here) (s : Step) (c : CoreWorld) (o : Ending) → Seg q xs here s c o → StillAt c.world.memory.blocks o
  pub all : (here : Here) (ss : Steps) (c : CoreWorld) (o : Ending) → AllSeg q xs here ss c o → StillAt c.world.memory.blocks o
  pub opened : (ys : List ℕ) (w u : World) → Opened q.facts xs ys w u → StillThere w.memory.blocks u.memory.blocks

abbrev pub StandingBlocks : Type 0
StandingBlocks = (q : Program Steps) (xs : List Variable) → BlocksStand q xs

-- A good state stays good where the variables of a block are made, whose blocks are not too long.
abbrev pub OpeningsAreGood : Type 0
OpeningsAreGood =
    (p : Facts) (xs : List Variable) → list_all (is_short p) xs ≡ true → (ys : List ℕ) (w u : World) → IsGood p w.memory → Opened p xs ys w u
    → IsGood p u.memory

-- It is good where a scope is left that was entered in a good state.
abbrev pub EndsAreGood : Type 0
EndsAreGood =
    (p : Facts) (m : Memory) (ys : List ℕ) (w : World) → StillThere m.blocks w.memory.blocks → IsGood p m → IsGood p w.memory → IsGood p (left m ys w).memory

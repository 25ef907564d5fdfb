-- What is so of scopes with memory.
use Rattle.std.specs.Prelude.{◌≡◌, ◌<◌, ℕ, true, List, ◌∷◌, [], length, None, Some}
use Rattle.std.specs.List.{list_all}
use Rattle.wp_base.specs.declared.kinds.CellKind.{CellKind}
use Rattle.qed_terms.specs.Meaning as sense
use Rattle.c_runs.specs.Told.{Value}
use Rattle.c_runs.specs.Program.{Contract, Facts, Program}
use Rattle.c_runs.specs.States.{Memory, World, Here}
use Rattle.c_runs.specs.Scopes.{ended_since}
use Rattle.c_runs.specs.CoreRun.{CoreWorld, returns}
use Rattle.c_runs.specs.Checks.{Check}
use Rattle.c_runs.specs.Tree as core
use Rattle.c_runs.specs.Tree.{Steps}
use Rattle.goal_segments.specs.Segments.{SameBlocks, Opened, IsResult}
use Rattle.run_blocks.specs.Ends.{is_short}
use Rattle.typed_memories.specs.Cells.{IsShaped}
use Rattle.walk_steps.specs.Forms.{Place as CheckPlace}
use Rattle.program_steps.specs.Temporaries.{Temporaries, no_temporaries}
use Rattle.memory_steps.specs.State.{State}
use Rattle.memory_steps.specs.Run.{End, goes_on, Seg}
use Rattle.memory_words.specs.Places.{result, result_offset, number_at}
use Rattle.memory_words.specs.Shapes.{FileCells, Shape, sizes}
use Rattle.memory_words.specs.Readings.{Texts}
use Rattle.memory_words.specs.Standing.{IsHeldAs, Frame, AllLive, StandsFor}
use Rattle.memory_words.specs.Seen.{InSetting}
use Rattle.memory_words.specs.Points.{Open, Point, uses_of, remembered}
use Rattle.memory_words.specs.Words as word
use Rattle.memory_words.specs.Words.{Others, has_home, in_scope_of}
use Rattle.memory_words.specs.Typed.{Declares}
use Rattle.memory_words.specs.Placed.{Opening, Openings, IsOpen, AreOpen, Placed, Ends, BothWays}
use Rattle.memory_words.specs.PutLaws.{SingleRuns, AllStepsRun}
use Rattle.memory_statements.specs.Scopes.{GoesTo, OpenedAs, EndedAs}

-- ---- the variables of a block are made

-- The ways to make them and the runs of the word, from slots that stand for a world: for each of the ones there is one of the others.
pub record OpeningIs (m : sense.World) (p : Facts) (s : Shape) (cells : FileCells) (fr : Frame) (f : Temporaries) (ys : List ℕ) (olds : List State) (n : ℕ) (c : CoreWorld)
    (st : State) : Type 0 where
  pub forth : (u : World) → Opened p s.variables ys c.world u
      → (new : State) × Seg olds n (word.all_opened m p s cells ys) st (goes_on new) × OpenedAs p s cells fr f ys c u new
  pub back : (e : End) → Seg olds n (word.all_opened m p s cells ys) st e
      → (u : World) × Opened p s.variables ys c.world u × ((new : State) × (goes_on new ≡ e) × OpenedAs p s cells fr f ys c u new)

-- No block is too long (C11 6.5.6p9).
abbrev pub OpeningsRun : Type 0
OpeningsRun =
    (m : sense.World) (p : Facts) (s : Shape) (cells : FileCells) → InSetting m p s cells → list_all (is_short p) s.variables ≡ true → (fr : Frame) → AllLive fr
    → (f : Temporaries) (ys : List ℕ) → Declares s cells fr.in_scope ys → (olds : List State) (n : ℕ) (c : CoreWorld) (st : State) → StandsFor p s cells fr f c st
    → OpeningIs m p s cells fr f ys olds n c st

-- ---- scopes end

-- An open scope ends, and so do several ones, the innermost first.
abbrev pub ScopesEnd : Type 0
ScopesEnd =
    (m : sense.World) (p : Facts) (s : Shape) (cells : FileCells) → InSetting m p s cells → (olds : List State) (fr : Frame) (f : Temporaries) (o : Open) (q : Opening)
    → IsOpen p s cells olds fr.in_scope fr.homes fr.table o q → (c : CoreWorld) (st : State) → StandsFor p s cells fr f c st
    → GoesTo olds (word.scope_ends m p s cells o) st (EndedAs p s cells fr f (q ∷ []) c st)

abbrev pub AllScopesEnd : Type 0
AllScopesEnd =
    (m : sense.World) (p : Facts) (s : Shape) (cells : FileCells) → InSetting m p s cells → (olds : List State) (fr : Frame) (f : Temporaries) (os : List Open)
    (qs : List Opening) → AreOpen p s cells olds fr.in_scope fr.homes fr.table os qs → (c : CoreWorld) (st : State) → StandsFor p s cells fr f c st
    → GoesTo olds (word.all_end m p s cells os) st (EndedAs p s cells fr f qs c st)

-- Where the same blocks live as before nothing ends.
abbrev pub NothingEnds : Type 0
NothingEnds = (before m : Memory) → IsShaped m → SameBlocks before.blocks m.blocks → ended_since before m ≡ m

-- ---- exits

module _ (m : sense.World) (q : Program Steps) (s : Shape) (cells : FileCells) (texts : Texts) (contract : Contract) (others : Others) where
  pub record ExitsRun (here : Here) (pt : Point) (olds : List State) (fr : Frame) (os : Openings) (after : Temporaries) (n : ℕ) (c : CoreWorld) (st : State) : Type 0 where
    pub exit : (k : ℕ) → k < length pt.outs → SingleRuns m q s cells texts contract others here pt olds fr os after n c st (core.exit k)
    pub give : (cs : List Check) → s.result ≡ None → SingleRuns m q s cells texts contract others here pt olds fr os after n c st (core.give cs None)
    -- a value that stands in its places is returned
    pub returned : (ps : List CheckPlace) (v : Value) → StandsFor q.facts s cells fr no_temporaries c st → IsResult q.facts c.world.memory.blocks s.result v
        → ((k : CellKind) → s.result ≡ Some k → IsHeldAs k v (number_at (sizes q.facts s) st result) (number_at (sizes q.facts s) st result_offset))
        → BothWays (λ o. returns v c ≡ o) (Ends q.facts s cells fr os (uses_of pt.outs) after ps n) olds n (word.leave_all m q.facts s cells texts contract others pt) st

abbrev pub ExitsRunBoth : Type 0
ExitsRunBoth =
    (m : sense.World) (q : Program Steps) (s : Shape) (cells : FileCells) (texts : Texts) (contract : Contract) (others : Others) → InSetting m q.facts s cells
    → (here : Here) (pt : Point) (olds : List State) (fr : Frame) (os : Openings) → Placed m q.facts s cells texts contract pt here olds fr os
    → (after : Temporaries) (n : ℕ) (c : CoreWorld) (st : State) → ExitsRun m q s cells texts contract others here pt olds fr os after n c st

-- ---- one more state is remembered

-- What is so of where a statement stands is so where the present state is remembered.
abbrev pub PlacesAreRemembered : Type 0
PlacesAreRemembered =
    (m : sense.World) (p : Facts) (s : Shape) (cells : FileCells) (texts : Texts) (contract : Contract) (pt : Point) (here : Here) (olds : List State) (fr : Frame) (os : Openings)
    → Placed m p s cells texts contract pt here olds fr os → (st : State) → Placed m p s cells texts contract (remembered pt) here (st ∷ olds) fr os

-- ---- scopes

-- A scope runs both ways where its statements do, wherever they stand in it.
abbrev pub ScopesRun : Type 0
ScopesRun =
    (m : sense.World) (q : Program Steps) (s : Shape) (cells : FileCells) (texts : Texts) (contract : Contract) (others : Others) → InSetting m q.facts s cells
    → list_all (is_short q.facts) s.variables ≡ true → (here : Here) (pt : Point) (olds : List State) (fr : Frame) (os : Openings)
    → Placed m q.facts s cells texts contract pt here olds fr os → (ys : List ℕ) (ss : Steps) → Declares s cells pt.stands.in_scope ys → (after : Temporaries)
    → ((olds : List State) (fr : Frame) (os : Openings) → Placed m q.facts s cells texts contract (in_scope_of s cells (has_home s.variables ys) pt ys) here olds fr os
    → (n : ℕ) (c : CoreWorld) (st : State)
    → AllStepsRun m q s cells texts contract others here (in_scope_of s cells (has_home s.variables ys) pt ys) olds fr os after n c st ss)
    → (n : ℕ) (c : CoreWorld) (st : State) → SingleRuns m q s cells texts contract others here pt olds fr os after n c st (core.scope ys ss)

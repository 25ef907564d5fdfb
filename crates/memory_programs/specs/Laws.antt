-- What goals say of the runs of programs with memory.
use Rattle.std.specs.Prelude.{◌≡◌, ℕ, Bool, true, false, List, Some}
use Rattle.qed_terms.specs.Meaning as sense
use Rattle.qed_terms.specs.Setting.{Setting, world_of, IsBounded, Valid}
use Rattle.c_runs.specs.Told.{Value}
use Rattle.c_runs.specs.Program.{Contract, Stmts, Function, Facts, Program}
use Rattle.c_runs.specs.States.{World, Memory}
use Rattle.c_runs.specs.Claims.{Stop}
use Rattle.c_runs.specs.Calls.{Eval, stops}
use Rattle.c_runs.specs.Entry.{Enters}
use Rattle.c_runs.specs.Run as spelled
use Rattle.c_runs.specs.Allowed.{MayChange}
use Rattle.c_runs.specs.CheckedTold.{normal}
use Rattle.c_runs.specs.Adding.{add_checks}
use Rattle.c_runs.specs.Tree.{Steps}
use Rattle.goal_segments.specs.Segments.{FunctionSeg}
use Rattle.goal_segments.specs.Laws.{IsClosed, NoneFails, GoesWell}
use Rattle.run_changes.specs.Laws.{Behind, Promised}
use Rattle.walk_steps.specs.State.{In}
use Rattle.walk_steps.specs.Walk.{Goal, formula_of}
use Rattle.program_steps.specs.Stops.{IsStop}
use Rattle.memory_steps.specs.State.{State}
use Rattle.memory_steps.specs.Step.{places}
use Rattle.memory_steps.specs.Laws.{IsExact}
use Rattle.memory_words.specs.Shapes.{FileCells}
use Rattle.memory_words.specs.Readings.{Texts}
use Rattle.memory_functions.specs.Words.{Written, shape_in, word_of, start_in, bases_in}
use Rattle.memory_functions.specs.FunctionFunctions.{EntersAs, FunctionEnds, FunctionRuns}
use Rattle.memory_exact.specs.Laws.{SomeStops, AreInOrder, StopsAt, CheckIsExact}
use Rattle.memory_programs.specs.Programs.{others_in, goals_of, ProgramFits, AllValid}

-- ---- goals that are all valid

-- Where all goals of functions are valid, no segment run of them goes wrong.
abbrev pub ValidGoalsSuffice : Type 0
ValidGoalsSuffice =
    (setting : Setting) (q : Program Steps) (cells : FileCells) (texts : Texts) (written : ℕ → Written) → ProgramFits setting q cells texts written
    → (reached : ℕ → Bool) → AllValid setting q cells texts written reached → NoneFails q reached

-- Of a run of a function that was called with these arguments: it returns or its turns are spent, and nothing goes wrong before; it has changed only what its
-- clauses allow; and where it returned, it has kept its promises.
pub record RunsWell (p : Facts) (n : ℕ) (c : Contract) (vs : List Value) (m : Memory) (o : Eval) : Type 0 where
  pub goes : GoesWell o
  pub changes : Behind (MayChange p c vs m) o
  pub promises : Promised p n c vs m o

-- If these functions call no others, every run of one of them is so, of the program as it is spelled, whatever its unspecified values are, and however often
-- its loops turn and however deep its calls are.
abbrev pub ValidGoalsRunWell : Type 0
ValidGoalsRunWell =
    (setting : Setting) (p : Program Stmts) (cells : FileCells) (texts : Texts) (written : ℕ → Written) → ProgramFits setting (add_checks (normal p)) cells texts written
    → (reached : ℕ → Bool) → IsClosed (add_checks (normal p)) reached → AllValid setting (add_checks (normal p)) cells texts written reached
    → (n : ℕ) (f : Function Stmts) → reached n ≡ true → p.functions n ≡ Some f → (vs : List Value) (m : Memory) → Enters p f vs m
    → (turns : ℕ) (contents : List Value) → RunsWell p.facts n f.contract vs m (spelled.run_function p n vs m turns contents)

-- ---- words

-- From slots that stand for a world in which it is entered, the segment runs of a function are the runs of its word, loops and calls among them: for each of
-- the ones there is one of the others that ends so, and a failing check is one of the same kind at the same line.
abbrev pub SegmentsAreWords : Type 0
SegmentsAreWords =
    (setting : Setting) (q : Program Steps) (cells : FileCells) (texts : Texts) (written : ℕ → Written) → ProgramFits setting q cells texts written
    → (n : ℕ) (f : Function Steps) → q.functions n ≡ Some f → (vs : List Value) (w : World) (st : State) → EntersAs q.facts (shape_in f (written n)) cells f vs w st
    → FunctionRuns (FunctionSeg q n f vs w)
    (FunctionEnds q.facts (shape_in f (written n)) cells (places (word_of (world_of setting) q cells texts n f (written n))))
    (word_of (world_of setting) q cells texts n f (written n)) st

-- ---- each goal by itself

-- There is one goal for each check that is walked, in order, and they are numbered from 0.
abbrev pub GoalsAreInOrder : Type 0
GoalsAreInOrder =
    (setting : Setting) (q : Program Steps) (cells : FileCells) (texts : Texts) (n : ℕ) (f : Function Steps) (g : Written)
    → AreInOrder setting q cells texts (others_in setting q cells texts n f g) n f g

-- The same is asked of the program in the laws below, which speak of one of its functions.
abbrev pub OfEachFunction : ((setting : Setting) (q : Program Steps) (cells : FileCells) (texts : Texts) (n : ℕ) (f : Function Steps) (g : Written) → Type 0) → Type 0
OfEachFunction Law =
    (setting : Setting) (q : Program Steps) (cells : FileCells) (texts : Texts) (written : ℕ → Written) → ProgramFits setting q cells texts written
    → (n : ℕ) (f : Function Steps) → q.functions n ≡ Some f → Law setting q cells texts n f (written n)

-- A goal is valid exactly where no run of the function's word fails at its check.
abbrev pub GoalsAreExact : Type 0
GoalsAreExact = OfEachFunction (λ setting q cells texts n f g. (a : Goal) → In a (goals_of setting q cells texts n f g)
    → IsExact setting (bases_in (world_of setting) q cells texts n f g) (start_in (world_of setting) q cells texts n f g) (word_of (world_of setting) q cells texts n f g) a)

-- A goal is valid exactly where no segment run goes wrong at its check.
abbrev pub GoalsAreExactByCheck : Type 0
GoalsAreExactByCheck = OfEachFunction (λ setting q cells texts n f g. (a : Goal) → In a (goals_of setting q cells texts n f g)
    → CheckIsExact setting q cells texts (others_in setting q cells texts n f g) n f g a)

-- Each segment run that goes wrong does so at the check of a goal.
abbrev pub StopsHaveGoals : Type 0
StopsHaveGoals = OfEachFunction (λ setting q cells texts n f g. (vs : List Value) (w : World) → Enters q f vs w.memory → (e : Stop) → FunctionSeg q n f vs w (stops e)
    → (a : Goal) × In a (goals_of setting q cells texts n f g) × IsStop e a.place × StopsAt setting q cells texts (others_in setting q cells texts n f g) n f g a.number vs w e)

-- Values that falsify a goal, of tables whose blocks aren't too long, are a world in which the function is entered, and a segment run from there goes wrong as
-- the goal's check does.
abbrev pub FalsifiedGoalsFail : Type 0
FalsifiedGoalsFail = OfEachFunction (λ setting q cells texts n f g. (a : Goal) → In a (goals_of setting q cells texts n f g) → (env : sense.Values)
    → IsBounded setting.long_bits env → sense.truth (world_of setting) env (formula_of a) ≡ false → (e : Stop) × IsStop e a.place × SomeStops q n f e)

-- Goals for one kind of check at one line are all valid exactly where no segment run goes wrong so.
pub record StopIsExact (setting : Setting) (q : Program Steps) (cells : FileCells) (texts : Texts) (n : ℕ) (f : Function Steps) (g : Written) (e : Stop) : Type 0 where
  pub sound : ((a : Goal) → In a (goals_of setting q cells texts n f g) → IsStop e a.place → Valid setting (formula_of a)) → SomeStops q n f e → ⊥
  pub complete : (SomeStops q n f e → ⊥) → (a : Goal) → In a (goals_of setting q cells texts n f g) → IsStop e a.place → Valid setting (formula_of a)

abbrev pub StopsAreExact : Type 0
StopsAreExact = OfEachFunction (λ setting q cells texts n f g. (e : Stop) → StopIsExact setting q cells texts n f g e)

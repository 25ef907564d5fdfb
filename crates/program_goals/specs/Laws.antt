-- What goals say of runs.
use Rattle.std.specs.Prelude.{◌≡◌, ℕ, zero, Bool, true, false, List, [], map, Some}
use Rattle.c_runs.specs.TruthStates.{Value}
use Rattle.qed_terms.specs.Meaning as sense
use Rattle.qed_terms.specs.Setting.{Setting, world_of, Valid}
use Rattle.c_runs.specs.Program.{Contract, Stmts, Function, Facts, Program}
use Rattle.c_runs.specs.States.{World, Memory}
use Rattle.c_runs.specs.Claims.{Stop}
use Rattle.c_runs.specs.Calls.{Eval, stops}
use Rattle.c_runs.specs.Entry.{Enters}
use Rattle.c_runs.specs.Run as spelled
use Rattle.c_runs.specs.Allowed.{MayChange}
use Rattle.c_runs.specs.Normal.{normal}
use Rattle.c_runs.specs.Adding.{add_checks}
use Rattle.c_runs.specs.Tree.{Steps}
use Rattle.goal_segments.specs.Segments.{FunctionSeg}
use Rattle.goal_segments.specs.Laws.{IsClosed, NoneFails, GoesWell}
use Rattle.plain_states.specs.Slots.{State}
use Rattle.run_changes.specs.Laws.{Behind, Promised}
use Rattle.qed_terms.specs.WellFormed.{is_goal}
use Rattle.walk_steps.specs.State.{In}
use Rattle.walk_steps.specs.Texts.{NamesAreGiven}
use Rattle.walk_steps.specs.Step.{places, count}
use Rattle.walk_steps.specs.Walk.{Goal, formula_of}
use Rattle.walk_steps.specs.Run as steps
use Rattle.walk_steps.specs.Laws.{from, Starts, IsExact}
use Rattle.program_steps.specs.Stops.{IsStop}
use Rattle.program_steps.specs.Terms.{Texts}
use Rattle.program_steps.specs.Standing.{FailsAs}
use Rattle.program_steps.specs.Functions.{EntersAs, FunctionEnds, FunctionRuns}
use Rattle.program_goals.specs.Words.{Written, shape_in, word_of, start_in}
use Rattle.program_goals.specs.Texts.{AreIntegerNames, TextsFit}
use Rattle.program_goals.specs.Programs.{goals_of, FunctionIn, ProgramFits, AllValid}

-- ---- goals that are all valid

-- Of a run of a function that was called with these arguments: it returns or its turns are spent, and nothing goes wrong before; it has changed only what its
-- clauses allow; and where it returned, it has kept its promises.
pub record RunsWell (p : Facts) (n : ℕ) (c : Contract) (vs : List Value) (m : Memory) (o : Eval) : Type 0 where
  pub goes : GoesWell o
  pub changes : Behind (MayChange p c vs m) o
  pub promises : Promised p n c vs m o

-- Where all goals of functions that call no others are valid, every run of such a function is so, of the program as it is spelled, whatever its
-- unspecified values are, and however often its loops turn and however deep its calls are.
abbrev pub ValidGoalsRunWell : Type 0
ValidGoalsRunWell =
    (setting : Setting) (p : Program Stmts) (texts : Texts) (written : ℕ → Written) → ProgramFits setting (add_checks (normal p)) texts written
    → (reached : ℕ → Bool) → IsClosed (add_checks (normal p)) reached → AllValid setting (add_checks (normal p)) texts written reached
    → (n : ℕ) (f : Function Stmts) → reached n ≡ true → p.functions n ≡ Some f → (vs : List Value) (m : Memory) → Enters p f vs m
    → (turns : ℕ) (contents : List Value) → RunsWell p.facts n f.contract vs m (spelled.run_function p n vs m turns contents)

-- and no segment run of them goes wrong
abbrev pub ValidGoalsSuffice : Type 0
ValidGoalsSuffice =
    (setting : Setting) (q : Program Steps) (texts : Texts) (written : ℕ → Written) → ProgramFits setting q texts written
    → (reached : ℕ → Bool) → AllValid setting q texts written reached → NoneFails q reached

-- ---- words

-- From slots that stand for a world in which it is entered, the segment runs of a function are the runs of its word, loops and calls among them: for each of
-- the ones there is one of the others that ends so, and a failing check is one of the same kind at the same line.
abbrev pub SegmentsAreWords : Type 0
SegmentsAreWords =
    (setting : Setting) (q : Program Steps) (texts : Texts) (written : ℕ → Written) → ProgramFits setting q texts written
    → (n : ℕ) (f : Function Steps) → q.functions n ≡ Some f → (vs : List Value) (w : World) (st : State) → EntersAs q.facts (shape_in f (written n)) f vs w st
    → FunctionRuns (FunctionSeg q n f vs w) (FunctionEnds q.facts (shape_in f (written n)) (places (word_of (world_of setting) q texts n f (written n))))
    (word_of (world_of setting) q texts n f (written n)) st

-- ---- each goal by itself

-- There is one goal for each check that is walked, in order, and they are numbered from 0.
pub record AreInOrder (setting : Setting) (q : Program Steps) (texts : Texts) (n : ℕ) (f : Function Steps) (g : Written) : Type 0 where
  pub places : map (λ (a : Goal). a.place) (goals_of setting q texts n f g) ≡ places (word_of (world_of setting) q texts n f g)
  pub numbers : map (λ (a : Goal). a.number) (goals_of setting q texts n f g) ≡ from zero (count (word_of (world_of setting) q texts n f g))

abbrev pub GoalsAreInOrder : Type 0
GoalsAreInOrder = (setting : Setting) (q : Program Steps) (texts : Texts) (n : ℕ) (f : Function Steps) (g : Written) → AreInOrder setting q texts n f g

-- A goal is valid exactly where no run of the function's word fails at its check.
abbrev pub GoalsAreExact : Type 0
GoalsAreExact =
    (setting : Setting) (q : Program Steps) (texts : Texts) (n : ℕ) (f : Function Steps) (g : Written) → FunctionIn setting q texts n f g
    → (a : Goal) → In a (goals_of setting q texts n f g) → IsExact setting (start_in (world_of setting) q texts n f g) (word_of (world_of setting) q texts n f g) a

-- a segment run of the function, from a world in which it is entered as it asks for, goes wrong so
abbrev pub SomeStops : Program Steps → ℕ → Function Steps → Stop → Type 0
SomeStops q n f e = (vs : List Value) × ((w : World) × (Enters q f vs w.memory × FunctionSeg q n f vs w (stops e)))

-- Goals for one kind of check at one line are all valid exactly where no segment run goes wrong so.
pub record StopsAreExact (setting : Setting) (q : Program Steps) (texts : Texts) (n : ℕ) (f : Function Steps) (g : Written) (e : Stop) : Type 0 where
  pub sound : ((a : Goal) → In a (goals_of setting q texts n f g) → IsStop e a.place → Valid setting (formula_of a)) → SomeStops q n f e → ⊥
  pub complete : (SomeStops q n f e → ⊥) → (a : Goal) → In a (goals_of setting q texts n f g) → IsStop e a.place → Valid setting (formula_of a)

abbrev pub GoalsAreExactForRuns : Type 0
GoalsAreExactForRuns =
    (setting : Setting) (q : Program Steps) (texts : Texts) (written : ℕ → Written) → ProgramFits setting q texts written
    → (n : ℕ) (f : Function Steps) → q.functions n ≡ Some f → (e : Stop) → StopsAreExact setting q texts n f (written n) e

-- Values that falsify a goal are a world in which the function is entered, and a segment run from there goes wrong as the goal's check does.
abbrev pub FalsifiedGoalsFail : Type 0
FalsifiedGoalsFail =
    (setting : Setting) (q : Program Steps) (texts : Texts) (written : ℕ → Written) → ProgramFits setting q texts written
    → (n : ℕ) (f : Function Steps) → q.functions n ≡ Some f → (a : Goal) → In a (goals_of setting q texts n f (written n))
    → (env : sense.Values) → sense.truth (world_of setting) env (formula_of a) ≡ false → (e : Stop) × (IsStop e a.place × SomeStops q n f e)

-- ---- each goal at its own check

module _ (setting : Setting) (q : Program Steps) (texts : Texts) (n : ℕ) (f : Function Steps) (g : Written) where
  -- A segment run goes wrong at the check with this number: from slots that stand for its world a run of the function's word fails there, and the check is one
  -- of the same kind and line.
  pub record StopsAt (number : ℕ) (vs : List Value) (w : World) (e : Stop) : Type 0 where
    pub enters : Enters q f vs w.memory
    pub run : FunctionSeg q n f vs w (stops e)
    pub slots : State
    pub stand : EntersAs q.facts (shape_in f g) f vs w slots
    pub start : Starts (start_in (world_of setting) q texts n f g) slots
    pub fails : steps.Seg [] zero (word_of (world_of setting) q texts n f g) slots (steps.fails number)
    pub place : FailsAs (places (word_of (world_of setting) q texts n f g)) zero number e

  abbrev pub SomeStopsAt : (number : ℕ) → Type 0
  SomeStopsAt i = (vs : List Value) × ((w : World) × ((e : Stop) × StopsAt i vs w e))

  -- A goal is valid exactly where no segment run goes wrong at its check.
  pub record CheckIsExact (a : Goal) : Type 0 where
    pub sound : Valid setting (formula_of a) → SomeStopsAt a.number → ⊥
    pub complete : (SomeStopsAt a.number → ⊥) → Valid setting (formula_of a)

abbrev pub GoalsAreExactByCheck : Type 0
GoalsAreExactByCheck =
    (setting : Setting) (q : Program Steps) (texts : Texts) (written : ℕ → Written) → ProgramFits setting q texts written
    → (n : ℕ) (f : Function Steps) → q.functions n ≡ Some f → (a : Goal) → In a (goals_of setting q texts n f (written n)) → CheckIsExact setting q texts n f (written n) a

-- Each segment run that goes wrong does so at the check of a goal.
abbrev pub StopsHaveGoals : Type 0
StopsHaveGoals =
    (setting : Setting) (q : Program Steps) (texts : Texts) (written : ℕ → Written) → ProgramFits setting q texts written
    → (n : ℕ) (f : Function Steps) → q.functions n ≡ Some f → (vs : List Value) (w : World) → Enters q f vs w.memory → (e : Stop) → FunctionSeg q n f vs w (stops e)
    → (a : Goal) × (In a (goals_of setting q texts n f (written n)) × (IsStop e a.place × StopsAt setting q texts n f (written n) a.number vs w e))

-- ---- goals as texts

-- Where binders and logic functions have names, and bases are names that aren't taken for those of memories, goals are well formed.
abbrev pub GoalsAreWellFormed : Type 0
GoalsAreWellFormed =
    (setting : Setting) (q : Program Steps) (texts : Texts) (written : ℕ → Written) → ProgramFits setting q texts written → TextsFit texts
    → (n : ℕ) (f : Function Steps) → q.functions n ≡ Some f → AreIntegerNames (written n).bases → (a : Goal) → In a (goals_of setting q texts n f (written n))
    → is_goal a.known a.claim ≡ true

-- and all their free names were given out: they are bases of slots, or fresh names over these or of large values
abbrev pub GoalsHaveGivenNames : Type 0
GoalsHaveGivenNames =
    (setting : Setting) (q : Program Steps) (texts : Texts) (written : ℕ → Written) → ProgramFits setting q texts written → TextsFit texts
    → (n : ℕ) (f : Function Steps) → q.functions n ≡ Some f → (a : Goal) → In a (goals_of setting q texts n f (written n)) → NamesAreGiven (written n).bases (formula_of a)

-- What goals of functions with memory say of their runs.
use Rattle.std.specs.Prelude.{◌≡◌, ℕ, zero, false, List, [], map}
use Rattle.qed_terms.specs.Meaning as sense
use Rattle.qed_terms.specs.Setting.{Setting, world_of, IsBounded, Valid}
use Rattle.c_runs.specs.Told.{Value}
use Rattle.c_runs.specs.Program.{Function, Program}
use Rattle.c_runs.specs.States.{World}
use Rattle.c_runs.specs.Claims.{Stop}
use Rattle.c_runs.specs.Calls.{stops}
use Rattle.c_runs.specs.Entry.{Enters}
use Rattle.c_runs.specs.Tree.{Steps}
use Rattle.goal_segments.specs.Segments.{FunctionSeg}
use Rattle.walk_steps.specs.State.{In}
use Rattle.walk_steps.specs.Walk.{Goal, formula_of}
use Rattle.walk_steps.specs.Laws.{from}
use Rattle.program_steps.specs.Stops.{IsStop}
use Rattle.memory_steps.specs.State.{State}
use Rattle.memory_steps.specs.Step.{places, count}
use Rattle.memory_steps.specs.Run as steps
use Rattle.memory_steps.specs.Laws.{Starts, IsExact}
use Rattle.memory_words.specs.Shapes.{FileCells}
use Rattle.memory_words.specs.Readings.{Texts}
use Rattle.memory_words.specs.Placed.{FailsAs}
use Rattle.memory_words.specs.Words.{Others}
use Rattle.memory_words.specs.Typed.{OtherFits}
use Rattle.memory_functions.specs.Words.{Written, shape_in}
use Rattle.memory_functions.specs.FunctionFunctions.{EntersAs}
use Rattle.memory_exact.specs.Programs.{word_with, start, bases, goals_with, FunctionIn}

-- a segment run of the function, from a world in which it is entered as it asks for, goes wrong so
abbrev pub SomeStops : Program Steps → ℕ → Function Steps → Stop → Type 0
SomeStops q n f e = (vs : List Value) × (w : World) × Enters q f vs w.memory × FunctionSeg q n f vs w (stops e)

module _ (setting : Setting) (q : Program Steps) (cells : FileCells) (texts : Texts) (others : Others) (n : ℕ) (f : Function Steps) (g : Written) where
  -- There is one goal for each check that is walked, in order, and they are numbered from 0.
  pub record AreInOrder : Type 0 where
    pub places : map (λ (a : Goal). a.place) (goals_with setting q cells texts others n f g) ≡ places (word_with setting q cells texts others n f g)
    pub numbers : map (λ (a : Goal). a.number) (goals_with setting q cells texts others n f g) ≡ from zero (count (word_with setting q cells texts others n f g))

  -- A segment run goes wrong at the check with this number: from slots that stand for its world a run of the function's word fails there, and the check is one
  -- of the same kind and line.
  pub record StopsAt (number : ℕ) (vs : List Value) (w : World) (e : Stop) : Type 0 where
    pub enters : Enters q f vs w.memory
    pub run : FunctionSeg q n f vs w (stops e)
    pub slots : State
    pub stand : EntersAs q.facts (shape_in f g) cells f vs w slots
    pub starts : Starts setting (bases setting q cells texts others n f g) (start setting q cells texts others n f g) slots
    pub fails : steps.Seg [] zero (word_with setting q cells texts others n f g) slots (steps.fails number)
    pub place : FailsAs (places (word_with setting q cells texts others n f g)) zero number e

  abbrev pub SomeStopsAt : (number : ℕ) → Type 0
  SomeStopsAt i = (vs : List Value) × (w : World) × (e : Stop) × StopsAt i vs w e

  -- A goal is valid exactly where no segment run goes wrong at its check.
  pub record CheckIsExact (a : Goal) : Type 0 where
    pub sound : Valid setting (formula_of a) → SomeStopsAt a.number → ⊥
    pub complete : (SomeStopsAt a.number → ⊥) → Valid setting (formula_of a)

abbrev pub GoalsAreInOrder : Type 0
GoalsAreInOrder =
    (setting : Setting) (q : Program Steps) (cells : FileCells) (texts : Texts) (others : Others) (n : ℕ) (f : Function Steps) (g : Written)
    → AreInOrder setting q cells texts others n f g

-- A goal is valid exactly where no run of the function's word fails at its check.
abbrev pub GoalsAreExact : OtherFits → Type 0
GoalsAreExact asked =
    (setting : Setting) (q : Program Steps) (cells : FileCells) (texts : Texts) (others : Others) (n : ℕ) (f : Function Steps) (g : Written)
    → FunctionIn setting q cells texts others n f g asked → (a : Goal) → In a (goals_with setting q cells texts others n f g)
    → IsExact setting (bases setting q cells texts others n f g) (start setting q cells texts others n f g) (word_with setting q cells texts others n f g) a

-- and so of the function itself
abbrev pub GoalsAreExactByCheck : OtherFits → Type 0
GoalsAreExactByCheck asked =
    (setting : Setting) (q : Program Steps) (cells : FileCells) (texts : Texts) (others : Others) (n : ℕ) (f : Function Steps) (g : Written)
    → FunctionIn setting q cells texts others n f g asked → (a : Goal) → In a (goals_with setting q cells texts others n f g) → CheckIsExact setting q cells texts others n f g a

-- Each segment run that goes wrong does so at the check of a goal.
abbrev pub StopsHaveGoals : OtherFits → Type 0
StopsHaveGoals asked =
    (setting : Setting) (q : Program Steps) (cells : FileCells) (texts : Texts) (others : Others) (n : ℕ) (f : Function Steps) (g : Written)
    → FunctionIn setting q cells texts others n f g asked → (vs : List Value) (w : World) → Enters q f vs w.memory → (e : Stop) → FunctionSeg q n f vs w (stops e)
    → (a : Goal) × In a (goals_with setting q cells texts others n f g) × IsStop e a.place × StopsAt setting q cells texts others n f g a.number vs w e

-- Where all goals are valid, none goes wrong.
abbrev pub ValidGoalsSuffice : OtherFits → Type 0
ValidGoalsSuffice asked =
    (setting : Setting) (q : Program Steps) (cells : FileCells) (texts : Texts) (others : Others) (n : ℕ) (f : Function Steps) (g : Written)
    → FunctionIn setting q cells texts others n f g asked → ((a : Goal) → In a (goals_with setting q cells texts others n f g) → Valid setting (formula_of a))
    → (vs : List Value) (w : World) → Enters q f vs w.memory → (e : Stop) → FunctionSeg q n f vs w (stops e) → ⊥

-- Values that falsify a goal are a world in which the function is entered, and a segment run from there goes wrong as the goal's check does.
abbrev pub FalsifiedGoalsFail : OtherFits → Type 0
FalsifiedGoalsFail asked =
    (setting : Setting) (q : Program Steps) (cells : FileCells) (texts : Texts) (others : Others) (n : ℕ) (f : Function Steps) (g : Written)
    → FunctionIn setting q cells texts others n f g asked → (a : Goal) → In a (goals_with setting q cells texts others n f g) → (env : sense.Values)
    → IsBounded setting.long_bits env → sense.truth (world_of setting) env (formula_of a) ≡ false → (e : Stop) × IsStop e a.place × SomeStops q n f e

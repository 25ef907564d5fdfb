-- What is so of runs of programs over plain integers.
use Rattle.std.specs.Prelude.{◌≡◌, ℕ, ℤ, Bool, true, List, map, Option, Some}
use Rattle.std.specs.List.{list_all}
use Rattle.c_runs.specs.TruthStates.{Value, number}
use Rattle.c_runs.specs.Program.{Loop, Function, Program}
use Rattle.c_runs.specs.States.{Memory, Here}
use Rattle.c_runs.specs.Calls.{Eval, gives, stops}
use Rattle.c_runs.specs.Entry.{IsWellFormed}
use Rattle.c_runs.specs.Tree.{Steps}
use Rattle.c_runs.specs.CheckedRun as run
use Rattle.plain_states.specs.Slots.{State, core_in}
use Rattle.plain_states.specs.Scopes.{is_integer}
use Rattle.plain_runs.specs.Fitting.{IsGood, Shape, sizes, Fit, AreOf, shape_of, is_param, FitsSteps, FitsFunction, FitsProgram}
use Rattle.plain_runs.specs.Kept.{AllBelow, some_sets, some_temps, IsScoped, KeptFile, Kept, IsResult, Returned, Comes}

-- what is done a level deeper keeps what it has to
abbrev pub shape : (q : Program Steps) (g : Function Steps) → FitsFunction q g → Shape
shape q g h = shape_of g h.temporaries h.temp_kind

pub record Keeps (q : Program Steps) (fits : FitsProgram q) (m : Memory) (deeper : run.Deeper) : Type 0 where
  pub body : (k : ℕ) (g : Function Steps) (e : q.functions k ≡ Some g) (here : Here) → AllBelow 0 here.granted → (n : ℕ) (vs : List Value) (st : State)
      → Fit q.facts (shape q g (fits.functions k g e)) st → IsScoped q.facts (shape q g (fits.functions k g e)) (is_param g.params) st
      → Comes q.facts (shape q g (fits.functions k g e)) m (KeptFile q.facts (shape q g (fits.functions k g e)) here.granted st) (λ v after. Returned q.facts (shape q g (fits.functions k g e)) here.granted v st after)
      (deeper (run.body g) here (core_in (sizes q.facts (shape q g (fits.functions k g e))) m n vs st))
  pub again : (s : Shape) → list_all is_integer s.variables ≡ true → (f : ℕ → Bool) (low : ℕ) (l : Loop) (last : Option ℤ) (ss : Steps) → FitsSteps q.facts s q.functions f low ss
      → (here : Here) → AllBelow low here.granted → (n : ℕ) (vs : List Value) (st : State) → Fit q.facts s st → IsScoped q.facts s f st
      → Comes q.facts s m (Kept q.facts s here.granted (some_sets ss) (some_temps ss) f st) (λ v after. Returned q.facts s here.granted v st after)
      (deeper (run.again s.variables l last ss) here (core_in (sizes q.facts s) m n vs st))

-- At each level, and so for each number of turns. What is kept: variables and temporaries that a text doesn't set, variables that the sets in force don't let
-- change; and each slot holds a number of its kind, what was set stays set, and what isn't in scope holds nothing.
abbrev pub LevelsKeep : Type 0
LevelsKeep = (q : Program Steps) (fits : FitsProgram q) (m : Memory) → IsGood q.facts m → (n : ℕ) → Keeps q fits m (run.levels q n)

-- ---- whole runs

-- a run that returns leaves a well-formed state, and gives a result of its kind
abbrev pub LeavesWell : Program Steps → Function Steps → Eval → Type 0
LeavesWell q g (gives v w) = IsWellFormed q.facts w.memory × IsResult q.facts g.result v
LeavesWell q g (stops s) = Unit {0}

abbrev pub RunsLeaveWell : Type 0
RunsLeaveWell =
    (q : Program Steps) → FitsProgram q → (k : ℕ) (g : Function Steps) → q.functions k ≡ Some g → (m : Memory) → IsGood q.facts m
    → (zs : List ℤ) → AreOf q.facts g.variables g.params zs → (n : ℕ) (contents : List Value) → LeavesWell q g (run.run_function q k (map number zs) m n contents)

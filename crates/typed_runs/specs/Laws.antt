-- What is so of runs of programs whose statements keep to the kinds.
use Rattle.std.specs.Prelude.{◌≡◌, ℕ, ℤ, true, List, [], Option, Some}
use Rattle.std.specs.List.{list_all}
use Rattle.wp_base.specs.Blocks.{count}
use Rattle.c_runs.specs.TruthStates.{Value}
use Rattle.c_runs.specs.Program.{Loop, Function, Program}
use Rattle.c_runs.specs.States.{Memory, Here}
use Rattle.c_runs.specs.Calls.{Eval, gives, stops}
use Rattle.c_runs.specs.Entry.{are_arguments, all_lead_well}
use Rattle.c_runs.specs.CoreRun.{CoreWorld}
use Rattle.c_runs.specs.Tree.{Steps}
use Rattle.c_runs.specs.CheckedRun as run
use Rattle.goal_segments.specs.Segments as segments
use Rattle.goal_segments.specs.Told.{is_param}
use Rattle.plain_runs.specs.Fitting.{IsGood}
use Rattle.plain_runs.specs.Kept.{AllBelow, some_sets, some_temps}
use Rattle.program_steps.specs.Temporaries.{Temporaries, no_temporaries, all_live}
use Rattle.run_blocks.specs.Ends.{is_short}
use Rattle.typed_runs.specs.Fitting.{Shape, InScope, LoopFits, FitsSteps, FitsProgram, shape}
use Rattle.typed_runs.specs.Kept.{Holds, AllCounted, NewHomes, Ends, BodyEnds}

-- what is done a level deeper keeps what it has to
pub record Keeps (q : Program Steps) (fits : FitsProgram q) (deeper : run.Deeper) : Type 0 where
  pub body : (k : ℕ) (g : Function Steps) (e : q.functions k ≡ Some g) (here : Here) → AllBelow 0 here.granted → (c : CoreWorld)
      → AllCounted (count c.world.memory.blocks) here.granted
      → NewHomes 0 (some_sets g.body) here.granted c.world.locals
      → Holds q.facts (shape q fits g (fits.functions k g e)) (is_param g.params) (all_live g.body [] no_temporaries) c
      → BodyEnds q.facts (shape q fits g (fits.functions k g e)) here.granted c (deeper (run.body g) here c)
  pub again : (s : Shape) → list_all (is_short q.facts) s.variables ≡ true → (f : InScope) (low : ℕ) (os : List Temporaries) (t : Temporaries) (l : Loop) (last : Option ℤ) (ss : Steps)
      → LoopFits q.facts s f low os l ss → FitsSteps q.facts s q.functions f l.declared os no_temporaries ss
      → (here : Here) → AllBelow l.declared here.granted → (c : CoreWorld) → AllCounted (count c.world.memory.blocks) here.granted
      → Holds q.facts s f (all_live ss os no_temporaries) c
      → Ends q.facts s f os t here.granted (some_sets ss) (some_temps ss) c (deeper (run.again s.variables l last ss) here c)

-- At each level, and so for each number of turns: states stay good, what is in scope or used holds values of its kind, what isn't in scope is unset, and
-- blocks, cells and variables stay that a text doesn't set or that the sets in force don't let change.
abbrev pub LevelsKeep : Type 0
LevelsKeep = (q : Program Steps) (fits : FitsProgram q) (n : ℕ) → Keeps q fits (run.levels q n)

-- ---- whole runs

-- a run that returns leaves a good state, and gives a result of its kind
abbrev pub LeavesWell : Program Steps → Function Steps → Eval → Type 0
LeavesWell q g (gives v w) = IsGood q.facts w.memory × segments.IsResult q.facts w.memory.blocks g.result v
LeavesWell q g (stops s) = Unit {0}

abbrev pub RunsLeaveWell : Type 0
RunsLeaveWell =
    (q : Program Steps) → FitsProgram q → (k : ℕ) (g : Function Steps) → q.functions k ≡ Some g → (m : Memory) → IsGood q.facts m
    → (vs : List Value) → are_arguments q.facts m.blocks g.params g.variables vs ≡ true → all_lead_well vs ≡ true → (n : ℕ) (contents : List Value)
    → LeavesWell q g (run.run_function q k vs m n contents)

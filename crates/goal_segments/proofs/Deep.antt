-- What is asked of the level below, and of the way in which a loop's head was come to.
use Rattle.std.proofs.Common.{◌≡◌, ℕ, ◌≤◌, ℤ, Bool, true, List, [], Option, Some, None}
use Rattle.std.specs.List.{list_all}
use Rattle.c_runs.specs.TruthStates.{Value}
use Rattle.c_runs.specs.Program.{Variable, Function, Loop, Program}
use Rattle.c_runs.specs.States.{Memory, Here, Granted}
use Rattle.c_runs.specs.Claims as broken
use Rattle.c_runs.specs.Claims.{claimed, in_body, in_loop, measure_of}
use Rattle.c_runs.specs.CoreRun.{CoreWorld, Ending, goes_on}
use Rattle.c_runs.specs.Tree.{Step, repeat, Steps}
use Rattle.c_runs.specs.CheckedRun as run
use Rattle.plain_runs.specs.Told.{State, world_in, core_in, is_integer}
use Rattle.plain_runs.specs.Fitting.{Shape, sizes, Fit, is_param, FitsStep, FitsProgram}
use Rattle.plain_runs.specs.Kept.{AllBelow, some_sets, some_temps, IsScoped, Kept}
use Rattle.plain_runs.specs.Laws.{shape}
use Rattle.goal_segments.specs.Sets.{own_loop, loop_inside}
use Rattle.goal_segments.specs.Segments.{AtHead, Seg, AllSeg}
use Rattle.goal_segments.specs.Laws.{all_among}
use Rattle.goal_segments.proofs.Including.{Agrees}
use Rattle.goal_segments.proofs.Following.{Follows}

-- for the first time, or behind a pass from a state that the head may have
pub data HeadWay (q : Program Steps) (xs : List Variable) (inside : Here) (l : Loop) (ss : Steps) (entry : CoreWorld) : (last : Option ℤ) → CoreWorld → Type 0 where
  first_time : HeadWay q xs inside l ss entry None entry
  behind_pass : {c : CoreWorld} → (d : CoreWorld) → claimed q.facts (in_body q.facts inside entry.world) broken.invariant l.invariants ≡ None → AtHead q.facts xs inside l ss entry d
      → claimed q.facts (in_body q.facts inside d.world) broken.invariant l.invariants ≡ None → AllSeg q xs inside ss d (goes_on c)
      → HeadWay q xs inside l ss entry (measure_of q.facts (in_body q.facts inside d.world) l.variant) c

pub record Deep (q : Program Steps) (fits : FitsProgram q) (m : Memory) (reached : ℕ → Bool) (deeper : run.Deeper) : Type 0 where
  pub body : (k : ℕ) (g : Function Steps) (e : q.functions k ≡ Some g) → reached k ≡ true → (here : Here) (gs : List Granted) → Agrees q.facts gs here.granted → AllBelow 0 gs → AllBelow 0 here.granted
      → (n : ℕ) (vs : List Value) (st : State) → Fit q.facts (shape q g (fits.functions k g e)) st → IsScoped q.facts (shape q g (fits.functions k g e)) (is_param g.params) st
      → Follows (AllSeg q g.variables (record here { granted = gs }) g.body (core_in (sizes q.facts (shape q g (fits.functions k g e))) m n vs st))
      (deeper (run.body g) here (core_in (sizes q.facts (shape q g (fits.functions k g e))) m n vs st))
  pub again : (s : Shape) → list_all is_integer s.variables ≡ true → (f : ℕ → Bool) (low : ℕ) (l : Loop) (ss : Steps) → FitsStep q.facts s q.functions f low (repeat l ss) → all_among reached ss ≡ true
      → (here : Here) (gs : List Granted) → Agrees q.facts gs here.granted → AllBelow low gs → AllBelow low here.granted
      → (n₀ : ℕ) (vs₀ : List Value) (st₀ : State) → Fit q.facts s st₀ → IsScoped q.facts s f st₀ → loop_inside q.facts (record here { granted = gs }) l (world_in (sizes q.facts s) m n₀ vs₀ st₀) ≡ true
      → (last : Option ℤ) (n : ℕ) (vs : List Value) (st : State) → Kept q.facts s (in_loop q.facts here l (world_in (sizes q.facts s) m n₀ vs₀ st₀)).granted (some_sets ss) (some_temps ss) f st₀ st
      → HeadWay q s.variables (own_loop q.facts (record here { granted = gs }) l (world_in (sizes q.facts s) m n₀ vs₀ st₀)) l ss (core_in (sizes q.facts s) m n₀ vs₀ st₀) last (core_in (sizes q.facts s) m n vs st)
      → Follows (Seg q s.variables (record here { granted = gs }) (repeat l ss) (core_in (sizes q.facts s) m n₀ vs₀ st₀))
      (deeper (run.again s.variables l last ss) (in_loop q.facts here l (world_in (sizes q.facts s) m n₀ vs₀ st₀)) (core_in (sizes q.facts s) m n vs st))

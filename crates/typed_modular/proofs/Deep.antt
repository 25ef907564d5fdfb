-- What is asked of the place where a statement stands, and of the level below.
use Rattle.std.proofs.Common.{◌≡◌, ℕ, ℤ, Bool, true, List, [], Option, Some}
use Rattle.std.specs.Prelude.{int_le}
use Rattle.std.specs.List.{list_all}
use Rattle.wp_base.specs.Blocks.{count}
use Rattle.c_runs.specs.TruthStates.{Value}
use Rattle.c_runs.specs.Program.{Function, Loop, Facts, Program}
use Rattle.c_runs.specs.States.{Memory, Here, Granted, seen_by_contract}
use Rattle.c_runs.specs.Claims.{in_loop}
use Rattle.c_runs.specs.CoreRun.{CoreWorld}
use Rattle.c_runs.specs.Tree.{repeat, Steps}
use Rattle.c_runs.specs.CheckedRun as run
use Rattle.goal_segments.specs.Sets.{own_loop, loop_inside}
use Rattle.goal_segments.specs.Segments.{Seg, AllSeg}
use Rattle.goal_segments.specs.Laws.{all_among}
use Rattle.goal_segments.specs.Told.{is_param}
use Rattle.goal_segments.proofs.Deep.{HeadWay}
use Rattle.goal_segments.proofs.Following.{Follows}
use Rattle.plain_runs.specs.Kept.{AllBelow, some_sets, some_temps}
use Rattle.program_steps.specs.Temporaries.{Temporaries, no_temporaries, all_live}
use Rattle.run_blocks.specs.Ends.{is_short}
use Rattle.typed_runs.specs.Fitting.{Shape, InScope, LoopFits, FitsSteps, FitsProgram, shape}
use Rattle.typed_runs.specs.Kept.{Holds, AllCounted, NewHomes, Kept}
use Rattle.typed_runs.proofs.Keeping.{counted_more}
use Rattle.typed_modular.specs.Solid.{EntersWith, LoopSet, AllLoopSets}
use Rattle.typed_modular.proofs.Including.{SolidSets, Agrees}

-- The sets in force, and all active ones, where there are so many blocks.
pub record InForce (p : Facts) (low : ℕ) (here : Here) (gs : List Granted) (n : ℤ) : Type 0 where
  pub agrees : Agrees p gs here.granted
  pub below : AllBelow low gs
  pub all_below : AllBelow low here.granted
  pub counted : AllCounted n gs
  pub all_counted : AllCounted n here.granted
  pub solid : SolidSets p gs

pub force_more : (p : Facts) (low : ℕ) (here : Here) (gs : List Granted) (n m : ℤ) → int_le n m ≡ true → InForce p low here gs n → InForce p low here gs m
force_more p low here gs n m le h = record {
  agrees = h.agrees;
  below = h.below;
  all_below = h.all_below;
  counted = counted_more gs n m le h.counted;
  all_counted = counted_more here.granted n m le h.all_counted;
  solid = h.solid;
}

-- the function was entered in a good state, with arguments of its kinds
pub record EntryIs (p : Facts) (g : Function Steps) (here : Here) : Type 0 where
  pub arguments : List Value
  pub memory : Memory
  pub enters : EntersWith p g arguments memory
  pub same : here.entry ≡ seen_by_contract p arguments memory

pub record Deep (q : Program Steps) (fits : FitsProgram q) (reached : ℕ → Bool) (deeper : run.Deeper) : Type 0 where
  pub body : (k : ℕ) (g : Function Steps) (e : q.functions k ≡ Some g) → reached k ≡ true → (here : Here) (gs : List Granted) → EntryIs q.facts g here → (c : CoreWorld)
      → InForce q.facts 0 here gs (count c.world.memory.blocks) → NewHomes 0 (some_sets g.body) here.granted c.world.locals
      → Holds q.facts (shape q fits g (fits.functions k g e)) (is_param g.params) (all_live g.body [] no_temporaries) c
      → Follows (AllSeg q g.variables (record here { granted = gs }) g.body c) (deeper (run.body g) here c)
  pub again : (g : Function Steps) (s : Shape) → list_all (is_short q.facts) s.variables ≡ true → (f : InScope) (low : ℕ) (os : List Temporaries) (t : Temporaries) (l : Loop) (ss : Steps)
      → LoopFits q.facts s f low os l ss → FitsSteps q.facts s q.functions f l.declared os no_temporaries ss → LoopSet q.facts s g f l ss → AllLoopSets q.facts s g f ss → all_among reached ss ≡ true
      → (here : Here) (gs : List Granted) → EntryIs q.facts g here → (c₀ : CoreWorld) → InForce q.facts low here gs (count c₀.world.memory.blocks)
      → Holds q.facts s f (all_live ss os no_temporaries) c₀ → loop_inside q.facts (record here { granted = gs }) l c₀.world ≡ true
      → (last : Option ℤ) (c : CoreWorld) → Holds q.facts s f (all_live ss os no_temporaries) c → Kept q.facts (in_loop q.facts here l c₀.world).granted (some_sets ss) (some_temps ss) c₀ c
      → HeadWay q s.variables (own_loop q.facts (record here { granted = gs }) l c₀.world) l ss c₀ last c
      → Follows (Seg q s.variables (record here { granted = gs }) (repeat l ss) c₀) (deeper (run.again s.variables l last ss) (in_loop q.facts here l c₀.world) c)

-- Segment runs: a function's statements told step by step, of which its goals are made. A loop goes on in whatever state its annotations allow, and one pass of
-- it is told; a call goes on in whatever state its contract allows. A single statement does what it does in a run, under the set in force.
use Rattle.std.specs.Prelude.{◌≡◌, ◌<◌, ◌≤◌, ℕ, zero, suc, Bool, true, false, ◌||◌, if◌then◌else◌, ℤ, pos, negsuc, int_le, List, [], ◌∷◌, Option, Some, None, slice_get}
use Rattle.std.specs.List.{list_all}
use Rattle.wp_base.specs.declared.kinds.CellKind.{CellKind}
use Rattle.wp_base.specs.declared.kinds.CellKind.TheVariants as cell
use Rattle.wp_base.specs.Blocks.{Table, block_at, count, is_cell}
use Rattle.typed_prog.specs.Tree as t
use Rattle.acsl_trees.specs.Tree.{Tree}
use Rattle.c_runs.specs.TruthStates.{Value, number, pointer}
use Rattle.c_runs.specs.TruthAllowed.{is_named}
use Rattle.c_runs.specs.Program.{Loop, Variable, Function, Facts, Program}
use Rattle.c_runs.specs.States.{World, Memory, Here, Granted, Local, plain, hidden, is_nonzero, with_local, seen}
use Rattle.c_runs.specs.Claims as broken
use Rattle.c_runs.specs.Claims.{Stop, failed, spent, claimed, in_body, in_state, at_entry, required, decreased, measure_of, entered_well, ensured, variant_holds, may_change, here_in, granted_in, parts_of}
use Rattle.c_runs.specs.Scopes.{scalar_of, variable_made, block_made, arrived}
use Rattle.c_runs.specs.Calls.{Eval, gives, stops, nought}
use Rattle.c_runs.specs.Entry.{is_value, leads_well, IsWellFormed}
use Rattle.c_runs.specs.Allowed.{MayChange}
use Rattle.c_runs.specs.CoreRun.{CoreWorld, Ending, goes_on, exits, returns, stopped, in_world, scope_end, begun}
use Rattle.c_runs.specs.Checks.{Check}
use Rattle.c_runs.specs.Tests.{is_met, is_set_by}
use Rattle.c_runs.specs.Tree.{Goal, Step, set, store, start, call, branch, repeat, around, exit, give, claim, scope, Steps, end, then_}
use Rattle.c_runs.specs.CheckedRun as run
use Rattle.c_runs.specs.CheckedRun.{is_met_in}
use Rattle.goal_segments.specs.RunSegments.{Asks, BlockEnds, Leaves, BodyEnds, behind_call}
use Rattle.plain_runs.specs.Fitting.{IsGood}
use Rattle.plain_runs.specs.Kept.{may_change_global, some_sets, some_temps}
use Rattle.goal_segments.specs.Sets.{own_loop, loop_inside, call_inside}

-- ---- a block that is entered

-- What was never set is any integer at all, or leads to any block that was made or not; it is never read before it is set. Cells of a block hold any values of
-- their kinds at first, also where the variable gets its value later, where it is declared.
abbrev pub IsAny : CellKind → Value → Type 0
IsAny (cell.Of k) v = (z : ℤ) × (v ≡ number z)
IsAny cell.Ptr v = (b : ℤ) × (o : ℤ) × (v ≡ pointer b o) × (int_le (pos 0) b ≡ true)

pub data Opened (p : Facts) (xs : List Variable) : List ℕ → World → World → Type 0 where
  all_opened : {w : World} → Opened p xs [] w w
  unknown : {x : ℕ} {ys : List ℕ} {w u : World} → slice_get xs x ≡ None → Opened p xs ys w u → Opened p xs (x ∷ ys) w u
  with_value : {x : ℕ} {ys : List ℕ} {v : Variable} {w u : World} → slice_get xs x ≡ Some v → v.has_value ≡ true → v.is_plain ≡ true → Opened p xs ys (variable_made p x (Some v) w) u
      → Opened p xs (x ∷ ys) w u
  not_set : {x : ℕ} {ys : List ℕ} {v : Variable} {w u : World} → slice_get xs x ≡ Some v → v.has_value ≡ false → v.is_plain ≡ true
      → (held : Value) → IsAny (scalar_of v.layout.cells) held → (contents : List Value) → Opened p xs ys (with_local x (plain held false) (record w { contents = contents })) u
      → Opened p xs (x ∷ ys) w u
  with_cells : {x : ℕ} {ys : List ℕ} {v : Variable} {w u : World} → slice_get xs x ≡ Some v → v.is_plain ≡ false
      → (contents : List Value) → Opened p xs ys (block_made p x (record v { has_value = false }) (record w { contents = contents })) u → Opened p xs (x ∷ ys) w u

-- ---- states to go on in

-- the same live blocks, and at least as many numbers
pub record SameBlocks (t u : Table) : Type 0 where
  pub live : (b : ℤ) → block_at u b ≡ block_at t b
  pub more : int_le (count t) (count u) ≡ true

-- A local that no pointer leads to and that may change: it holds a value of its kind, whether it is set or not, and what was set stays set.
pub record LocalGoesOn (p : Facts) (t : Table) (v : Variable) (old new : Local) : Type 0 where
  pub held : Value
  pub is_set : Bool
  pub same : new ≡ plain held is_set
  pub stays : is_set_by old ≡ true → is_set ≡ true
  pub fits : is_value p t (scalar_of v.layout.cells) held ≡ true
  pub leads : leads_well held ≡ true

-- which locals a loop's set lets change: those that it names; without a set of its own those that its text sets
abbrev pub lets_at_head : Facts → (own : List Granted) → (body : Steps) → (variable : ℕ) → Option (List Value) → Bool
lets_at_head p gs ss x None = some_sets ss x
lets_at_head p gs ss x (Some rs) = is_named rs (hidden p x)

-- the regions of its own set, which is the first in force
abbrev pub own_regions : Option (List Tree) → List Granted → Option (List Value)
own_regions None gs = None
own_regions (Some ts) [] = None
own_regions (Some ts) (g ∷ gs) = Some g.regions

-- The head of a loop that was entered in the first world, with this set in force inside. What is declared inside of the loop isn't in scope there.
pub record AtHead (p : Facts) (xs : List Variable) (inside : Here) (l : Loop) (ss : Steps) (c d : CoreWorld) : Type 0 where
  pub good : IsGood p d.world.memory
  pub blocks : SameBlocks c.world.memory.blocks d.world.memory.blocks
  -- what may change of a cell goes by its own kind
  pub cells : (k : CellKind) (b o : ℤ) → is_cell k c.world.memory.blocks b o ≡ true → may_change inside.granted k b o ≡ false → d.world.memory.cells b o ≡ c.world.memory.cells b o
  -- variables of the file that no pointer leads to, which are no cells of the table
  pub hidden : (x : ℕ) (o : ℤ) → may_change_global inside.granted x ≡ false → d.world.memory.cells (negsuc x) o ≡ c.world.memory.cells (negsuc x) o
  pub locals : (x : ℕ) → lets_at_head p inside.granted ss x (own_regions l.assigns inside.granted) ≡ false → d.world.locals x ≡ c.world.locals x
  pub plain : (x : ℕ) (v : Variable) → slice_get xs x ≡ Some v → v.is_plain ≡ true → x < l.declared
      → lets_at_head p inside.granted ss x (own_regions l.assigns inside.granted) ≡ true → LocalGoesOn p d.world.memory.blocks v (c.world.locals x) (d.world.locals x)
  -- what is declared inside of the loop is unset at its head, and what is declared behind it isn't touched
  pub inner : (x : ℕ) → l.declared ≤ x → d.world.locals x ≡ c.world.locals x
  pub homes : (x : ℕ) (v : Variable) → slice_get xs x ≡ Some v → v.is_plain ≡ false → d.world.locals x ≡ c.world.locals x
  pub temporaries : (n : ℕ) → some_temps ss n ≡ false → d.temps n ≡ c.temps n

-- a result of the kind
abbrev pub IsResult : Facts → Table → Option CellKind → Value → Type 0
IsResult p t (Some k) v = (is_value p t k v ≡ true) × (leads_well v ≡ true)
IsResult p t None v = v ≡ nought

-- A call has returned this, and its caller goes on in the second world.
pub record BehindCall (p : Facts) (n : ℕ) (f : Function Steps) (vs : List Value) (w : World) (v : Value) (u : World) : Type 0 where
  pub good : IsGood p u.memory
  pub blocks : SameBlocks w.memory.blocks u.memory.blocks
  pub changes : MayChange p f.contract vs w.memory u.memory
  pub locals : (x : ℕ) → u.locals x ≡ w.locals x
  pub result : IsResult p u.memory.blocks f.result v
  pub promises : ensured p (here_in p n vs w.memory f.contract []) u.memory v f.contract ≡ None

-- ---- statements

-- without others inside of it, and no call
abbrev pub is_single : Step → Bool
is_single (set cs n e) = true
is_single (store cs type l path es) = true
is_single (start cs x e) = true
is_single (exit k) = true
is_single (give cs e) = true
is_single (claim c) = true
is_single _ = false

abbrev pub no_deeper : run.Deeper
no_deeper task here c = stopped (spent c.world)

module _ (q : Program Steps) (xs : List Variable) where
  abbrev pub clauses_at : Function Steps → List Value → World → List Granted
  clauses_at f vs w = granted_in q.facts (at_entry q.facts vs w.memory) (count w.memory.blocks) (parts_of f.contract)

mutual
  pub data Seg (q : Program Steps) (xs : List Variable) : (here : Here) → Step → CoreWorld → Ending → Type 0 where
    single : {here : Here} {s : Step} {c : CoreWorld} {o : Ending} → is_single s ≡ true → run.exec q no_deeper xs here s c ≡ o → Seg q xs here s c o
    first_arm : {here : Here} {cs : List Check} {e : t.Value} {a b : Steps} {c : CoreWorld} {o : Ending} → Asks (is_met q.facts xs c.temps c.world e) cs None
        → is_nonzero (run.total_in q no_deeper xs c e) ≡ true → AllSeg q xs here a c o → Seg q xs here (branch cs e a b) c o
    other_arm : {here : Here} {cs : List Check} {e : t.Value} {a b : Steps} {c : CoreWorld} {o : Ending} → Asks (is_met q.facts xs c.temps c.world e) cs None
        → is_nonzero (run.total_in q no_deeper xs c e) ≡ false → AllSeg q xs here b c o → Seg q xs here (branch cs e a b) c o
    test_stops : {here : Here} {cs : List Check} {e : t.Value} {a b : Steps} {c : CoreWorld} {s : Stop} → Asks (is_met q.facts xs c.temps c.world e) cs (Some s)
        → Seg q xs here (branch cs e a b) c (stopped s)
    blocks : {here : Here} {ss : Steps} {c : CoreWorld} {o u : Ending} → AllSeg q xs here ss c o → BlockEnds o u → Seg q xs here (around ss) c u
    scopes : {here : Here} {ys : List ℕ} {ss : Steps} {c : CoreWorld} {w : World} {o : Ending} → Opened q.facts xs ys c.world w → AllSeg q xs here ss (in_world c w) o
        → Seg q xs here (scope ys ss) c (scope_end c.world.memory ys o)
    -- a loop: its set lies inside, its invariants hold where it is entered, and one pass keeps them and lowers its variant
    set_outside : {here : Here} {l : Loop} {ss : Steps} {c : CoreWorld} → loop_inside q.facts here l c.world ≡ false → Seg q xs here (repeat l ss) c (stopped (failed broken.assigns l.line))
    entry_fails : {here : Here} {l : Loop} {ss : Steps} {c : CoreWorld} {s : Stop} → loop_inside q.facts here l c.world ≡ true
        → claimed q.facts (in_body q.facts (own_loop q.facts here l c.world) c.world) broken.invariant l.invariants ≡ Some s → Seg q xs here (repeat l ss) c (stopped s)
    pass_ends : {here : Here} {l : Loop} {ss : Steps} {c d : CoreWorld} {o : Ending} → loop_inside q.facts here l c.world ≡ true
        → claimed q.facts (in_body q.facts (own_loop q.facts here l c.world) c.world) broken.invariant l.invariants ≡ None
        → AtHead q.facts xs (own_loop q.facts here l c.world) l ss c d
        → claimed q.facts (in_body q.facts (own_loop q.facts here l c.world) d.world) broken.invariant l.invariants ≡ None
        → AllSeg q xs (own_loop q.facts here l c.world) ss d o → Leaves o → Seg q xs here (repeat l ss) c o
    -- the pass comes to the head again, where something is false
    again_fails : {here : Here} {l : Loop} {ss : Steps} {c d e : CoreWorld} {s : Stop} → loop_inside q.facts here l c.world ≡ true
        → claimed q.facts (in_body q.facts (own_loop q.facts here l c.world) c.world) broken.invariant l.invariants ≡ None
        → AtHead q.facts xs (own_loop q.facts here l c.world) l ss c d
        → claimed q.facts (in_body q.facts (own_loop q.facts here l c.world) d.world) broken.invariant l.invariants ≡ None
        → AllSeg q xs (own_loop q.facts here l c.world) ss d (goes_on e)
        → broken.at_head q.facts (in_body q.facts (own_loop q.facts here l c.world) e.world) l (measure_of q.facts (in_body q.facts (own_loop q.facts here l c.world) d.world) l.variant) ≡ Some s
        → Seg q xs here (repeat l ss) c (stopped s)
    -- a call: its arguments, what it requires, its measure, and its set, which lies inside
    argument_stops : {here : Here} {cs : List Check} {to : Goal} {n l : ℕ} {es : t.Values} {c : CoreWorld} {s : Stop} → Asks (is_met_in q.facts xs c.temps c.world es) cs (Some s)
        → Seg q xs here (call cs to n l es) c (stopped s)
    not_required : {here : Here} {cs : List Check} {to : Goal} {n l : ℕ} {es : t.Values} {c : CoreWorld} {f : Function Steps} {s : Stop} → Asks (is_met_in q.facts xs c.temps c.world es) cs None
        → q.functions n ≡ Some f → required q.facts l (at_entry q.facts (run.totals_in q no_deeper xs c es) c.world.memory) f.contract ≡ Some s → Seg q xs here (call cs to n l es) c (stopped s)
    not_lower : {here : Here} {cs : List Check} {to : Goal} {n l : ℕ} {es : t.Values} {c : CoreWorld} {f : Function Steps} {s : Stop} → Asks (is_met_in q.facts xs c.temps c.world es) cs None
        → q.functions n ≡ Some f → required q.facts l (at_entry q.facts (run.totals_in q no_deeper xs c es) c.world.memory) f.contract ≡ None
        → decreased q.facts l here n (measure_of q.facts (at_entry q.facts (run.totals_in q no_deeper xs c es) c.world.memory) f.contract.decreases) ≡ Some s
        → Seg q xs here (call cs to n l es) c (stopped s)
    call_outside : {here : Here} {cs : List Check} {to : Goal} {n l : ℕ} {es : t.Values} {c : CoreWorld} {f : Function Steps} → Asks (is_met_in q.facts xs c.temps c.world es) cs None
        → q.functions n ≡ Some f → required q.facts l (at_entry q.facts (run.totals_in q no_deeper xs c es) c.world.memory) f.contract ≡ None
        → decreased q.facts l here n (measure_of q.facts (at_entry q.facts (run.totals_in q no_deeper xs c es) c.world.memory) f.contract.decreases) ≡ None
        → call_inside q.facts here.granted (clauses_at q xs f (run.totals_in q no_deeper xs c es) c.world) ≡ false → Seg q xs here (call cs to n l es) c (stopped (failed broken.assigns l))
    returns_from : {here : Here} {cs : List Check} {to : Goal} {n l : ℕ} {es : t.Values} {c : CoreWorld} {f : Function Steps} {v : Value} {u : World} {o : Ending} → Asks (is_met_in q.facts xs c.temps c.world es) cs None
        → q.functions n ≡ Some f → required q.facts l (at_entry q.facts (run.totals_in q no_deeper xs c es) c.world.memory) f.contract ≡ None
        → decreased q.facts l here n (measure_of q.facts (at_entry q.facts (run.totals_in q no_deeper xs c es) c.world.memory) f.contract.decreases) ≡ None
        → call_inside q.facts here.granted (clauses_at q xs f (run.totals_in q no_deeper xs c es) c.world) ≡ true
        → BehindCall q.facts n f (run.totals_in q no_deeper xs c es) c.world v u → run.result_to q no_deeper xs here to v (in_world c u) ≡ o → Seg q xs here (call cs to n l es) c o

  pub data AllSeg (q : Program Steps) (xs : List Variable) : (here : Here) → Steps → CoreWorld → Ending → Type 0 where
    none : {here : Here} {c : CoreWorld} → AllSeg q xs here end c (goes_on c)
    goes : {here : Here} {s : Step} {ss : Steps} {c d : CoreWorld} {o : Ending} → Seg q xs here s c (goes_on d) → AllSeg q xs here ss d o → AllSeg q xs here (then_ s ss) c o
    stays : {here : Here} {s : Step} {ss : Steps} {c : CoreWorld} {o : Ending} → Seg q xs here s c o → Leaves o → AllSeg q xs here (then_ s ss) c o

-- ---- functions

-- a function by its number, where what it requires holds
pub data FunctionSeg (q : Program Steps) (number : ℕ) (f : Function Steps) (vs : List Value) (w : World) : Eval → Type 0 where
  not_entered : {s : Stop} → entered_well q.facts (at_entry q.facts vs w.memory) f.contract ≡ Some s → FunctionSeg q number f vs w (stops s)
  goes_wrong : {o : Ending} {s : Stop} → entered_well q.facts (at_entry q.facts vs w.memory) f.contract ≡ None
      → AllSeg q f.variables (here_in q.facts number vs w.memory f.contract []) f.body (begun (arrived f.variables vs w)) o → BodyEnds f o (stops s)
      → FunctionSeg q number f vs w (stops s)
  breaks_promise : {o : Ending} {v : Value} {u : World} {s : Stop} → entered_well q.facts (at_entry q.facts vs w.memory) f.contract ≡ None
      → AllSeg q f.variables (here_in q.facts number vs w.memory f.contract []) f.body (begun (arrived f.variables vs w)) o → BodyEnds f o (gives v u)
      → ensured q.facts (here_in q.facts number vs w.memory f.contract []) (behind_call w u).memory v f.contract ≡ Some s → FunctionSeg q number f vs w (stops s)
  returns_well : {o : Ending} {v : Value} {u : World} → entered_well q.facts (at_entry q.facts vs w.memory) f.contract ≡ None
      → AllSeg q f.variables (here_in q.facts number vs w.memory f.contract []) f.body (begun (arrived f.variables vs w)) o → BodyEnds f o (gives v u)
      → ensured q.facts (here_in q.facts number vs w.memory f.contract []) (behind_call w u).memory v f.contract ≡ None → FunctionSeg q number f vs w (gives v (behind_call w u))

-- Segment runs: a function's statements told step by step, each by when it goes on, when it leaves a block, and when it stops. Goals are to be made of them.
-- A segment has no loop and no call yet: where one stands, none of these runs goes on.
use Rattle.std.specs.Prelude.{◌≡◌, ℕ, suc, Bool, true, false, List, [], ◌∷◌, Option, Some, None}
use Rattle.std.specs.List.{list_any}
use Rattle.wp_base.specs.declared.kinds.CellKind.{CellKind}
use Rattle.typed_prog.specs.declared.types.CoreType.{CoreType}
use Rattle.typed_prog.specs.declared.operators.Path.{Path}
use Rattle.typed_prog.specs.Tree as t
use Rattle.c_runs.specs.TruthStates.{Value, World as Labelled, block_of, offset_of}
use Rattle.c_runs.specs.Program.{Claim, Behavior, Together, Variable, Function, Facts, Program}
use Rattle.c_runs.specs.States.{World, Memory, Here, is_nonzero, plain, with_local, with_memory, stored_in}
use Rattle.c_runs.specs.Operators.{noreturn}
use Rattle.c_runs.specs.Objects.{plain_root, cell_of, address}
use Rattle.c_runs.specs.Claims as broken
use Rattle.c_runs.specs.Claims.{Stop, undefined, failed, holds, in_body, in_state, at_entry, at_return, is_assumed, assumed_of, is_so, one_at_most, in_order, parts_of, may_change, may_change_local, here_in}
use Rattle.c_runs.specs.Scopes.{entered, left, arrived}
use Rattle.c_runs.specs.Calls.{Eval, gives, stops, nought}
use Rattle.c_runs.specs.Effects.{kind_there, initial_act}
use Rattle.c_runs.specs.CheckedTold.{CoreWorld, Ending, goes_on, exits, returns, stopped, in_world, with_temp, scope_left, begun, Check, total, totals, is_met}
use Rattle.c_runs.specs.Tree.{Step, set, store, start, branch, around, exit, give, claim, scope, Steps, end, then_}
use Rattle.c_runs.specs.CheckedRun.{place_test, stored_value, way_values}

-- ---- checks and claims, one after the other

-- all are met, or this one is the first that isn't
pub data Asks (test : Check → Bool) : List Check → Option Stop → Type 0 where
  all_met : Asks test [] None
  met : {c : Check} {cs : List Check} {o : Option Stop} → test c ≡ true → Asks test cs o → Asks test (c ∷ cs) o
  unmet : {c : Check} {cs : List Check} → test c ≡ false → Asks test (c ∷ cs) (Some (undefined c.kind c.line))

-- all are true, or this one is the first that is false
pub data Claims (p : Facts) (w : Labelled) (b : broken.Broken) : List Claim → Option Stop → Type 0 where
  all_true : Claims p w b [] None
  is_true : {c : Claim} {cs : List Claim} {o : Option Stop} → holds p w c.what ≡ true → Claims p w b cs o → Claims p w b (c ∷ cs) o
  is_false : {c : Claim} {cs : List Claim} → holds p w c.what ≡ false → Claims p w b (c ∷ cs) (Some (failed b c.line))

-- ---- how blocks and scopes end

-- an exit goes to the end of its block
pub data BlockEnds : Ending → Ending → Type 0 where
  at_end : {c : CoreWorld} → BlockEnds (goes_on c) (goes_on c)
  left_here : {c : CoreWorld} → BlockEnds (exits 0 c) (goes_on c)
  left_further : {k : ℕ} {c : CoreWorld} → BlockEnds (exits (suc k) c) (exits k c)
  returned : {v : Value} {c : CoreWorld} → BlockEnds (returns v c) (returns v c)
  stopped_in : {s : Stop} → BlockEnds (stopped s) (stopped s)

-- however a scope is left, its variables and blocks are gone
pub data ScopeEnds (m : Memory) (ys : List ℕ) : Ending → Ending → Type 0 where
  at_end : {c : CoreWorld} → ScopeEnds m ys (goes_on c) (goes_on (scope_left m ys c))
  left_by_exit : {k : ℕ} {c : CoreWorld} → ScopeEnds m ys (exits k c) (exits k (scope_left m ys c))
  returned : {v : Value} {c : CoreWorld} → ScopeEnds m ys (returns v c) (returns v (scope_left m ys c))
  stopped_in : {s : Stop} → ScopeEnds m ys (stopped s) (stopped s)

-- what comes behind isn't come to
pub data Leaves : Ending → Type 0 where
  by_exit : {k : ℕ} {c : CoreWorld} → Leaves (exits k c)
  by_return : {v : Value} {c : CoreWorld} → Leaves (returns v c)
  by_stop : {s : Stop} → Leaves (stopped s)

-- ---- writes

-- An object that is a variable of the function, which no pointer leads to, or a cell: whether it may be changed here, and the world in which it is.
pub record Place : Type 0 where
  pub may_change : Bool
  pub changed : World

abbrev pub place_by : Option ℕ → Facts → Here → CoreType → Path → World → (way : List Value) → Value → Place
place_by (Some x) p here type path w vs v = record { may_change = may_change_local p here.granted x; changed = with_local x (plain v true) w }
place_by None p here type path w vs v =
    let a = address p w path vs in
    record {
      may_change = may_change here.granted (kind_there w.memory.blocks (cell_of type) a) (block_of a) (offset_of a);
      changed = with_memory (stored_in (block_of a) (offset_of a) v w.memory) w;
    }

abbrev pub place_at : Facts → List Variable → Here → CoreType → Path → World → (way : List Value) → Value → Place
place_at p xs here type path w vs v = place_by (plain_root xs path.root) p here type path w vs v

-- ---- statements

abbrev pub test_in : Facts → List Variable → CoreWorld → t.Value → Check → Bool
test_in p xs c e = is_met p xs c.temps c.world e

abbrev pub total_in : Facts → List Variable → CoreWorld → t.Value → Value
total_in p xs c e = total p xs c.temps c.world e

abbrev pub totals_in : Facts → List Variable → CoreWorld → t.Values → List Value
totals_in p xs c es = totals p xs c.temps c.world es

-- of an object that is written, whose operands are these, the value that is stored being the first of them
abbrev pub test_at : Facts → List Variable → CoreWorld → CoreType → Path → t.Values → Check → Bool
test_at p xs c type path es = place_test p xs c.temps c.world type path (way_values (totals_in p xs c es)) es

abbrev pub object_at : Facts → List Variable → Here → CoreType → Path → CoreWorld → t.Values → Place
object_at p xs here type path c es =
    place_at p xs here type path c.world (way_values (totals_in p xs c es)) (stored_value (totals_in p xs c es))

mutual
  pub data Runs (q : Program Steps) (xs : List Variable) (here : Here) : Step → CoreWorld → Ending → Type 0 where
    sets : {cs : List Check} {n : ℕ} {e : t.Value} {c : CoreWorld} → Asks (test_in q.facts xs c e) cs None
        → Runs q xs here (set cs n e) c (goes_on (with_temp n (total_in q.facts xs c e) c))
    set_stops : {cs : List Check} {n : ℕ} {e : t.Value} {c : CoreWorld} {s : Stop} → Asks (test_in q.facts xs c e) cs (Some s)
        → Runs q xs here (set cs n e) c (stopped s)
    stores : {cs : List Check} {type : CoreType} {l : ℕ} {path : Path} {es : t.Values} {c : CoreWorld} → Asks (test_at q.facts xs c type path es) cs None
        → (object_at q.facts xs here type path c es).may_change ≡ true
        → Runs q xs here (store cs type l path es) c (goes_on (in_world c (object_at q.facts xs here type path c es).changed))
    -- what the sets in force don't hold is at the line of the write
    store_refused : {cs : List Check} {type : CoreType} {l : ℕ} {path : Path} {es : t.Values} {c : CoreWorld} → Asks (test_at q.facts xs c type path es) cs None
        → (object_at q.facts xs here type path c es).may_change ≡ false → Runs q xs here (store cs type l path es) c (stopped (failed broken.assigns l))
    store_stops : {cs : List Check} {type : CoreType} {l : ℕ} {path : Path} {es : t.Values} {c : CoreWorld} {s : Stop}
        → Asks (test_at q.facts xs c type path es) cs (Some s) → Runs q xs here (store cs type l path es) c (stopped s)
    starts : {cs : List Check} {x : ℕ} {e : t.Value} {c : CoreWorld} → Asks (test_in q.facts xs c e) cs None
        → Runs q xs here (start cs x e) c (goes_on (in_world c (initial_act xs x (total_in q.facts xs c e) c.world)))
    start_stops : {cs : List Check} {x : ℕ} {e : t.Value} {c : CoreWorld} {s : Stop} → Asks (test_in q.facts xs c e) cs (Some s)
        → Runs q xs here (start cs x e) c (stopped s)
    first_arm : {cs : List Check} {e : t.Value} {a b : Steps} {c : CoreWorld} {o : Ending} → Asks (test_in q.facts xs c e) cs None
        → is_nonzero (total_in q.facts xs c e) ≡ true → AllRun q xs here a c o → Runs q xs here (branch cs e a b) c o
    other_arm : {cs : List Check} {e : t.Value} {a b : Steps} {c : CoreWorld} {o : Ending} → Asks (test_in q.facts xs c e) cs None
        → is_nonzero (total_in q.facts xs c e) ≡ false → AllRun q xs here b c o → Runs q xs here (branch cs e a b) c o
    test_stops : {cs : List Check} {e : t.Value} {a b : Steps} {c : CoreWorld} {s : Stop} → Asks (test_in q.facts xs c e) cs (Some s)
        → Runs q xs here (branch cs e a b) c (stopped s)
    blocks : {ss : Steps} {c : CoreWorld} {o u : Ending} → AllRun q xs here ss c o → BlockEnds o u → Runs q xs here (around ss) c u
    leaves : {k : ℕ} {c : CoreWorld} → Runs q xs here (exit k) c (exits k c)
    gives_nothing : {cs : List Check} {c : CoreWorld} → Runs q xs here (give cs None) c (returns nought c)
    gives_value : {cs : List Check} {e : t.Value} {c : CoreWorld} → Asks (test_in q.facts xs c e) cs None
        → Runs q xs here (give cs (Some e)) c (returns (total_in q.facts xs c e) c)
    give_stops : {cs : List Check} {e : t.Value} {c : CoreWorld} {s : Stop} → Asks (test_in q.facts xs c e) cs (Some s)
        → Runs q xs here (give cs (Some e)) c (stopped s)
    asserts : {a : Claim} {c : CoreWorld} → holds q.facts (in_body q.facts here c.world) a.what ≡ true → Runs q xs here (claim a) c (goes_on c)
    assert_fails : {a : Claim} {c : CoreWorld} → holds q.facts (in_body q.facts here c.world) a.what ≡ false
        → Runs q xs here (claim a) c (stopped (failed broken.assert a.line))
    scopes : {ys : List ℕ} {ss : Steps} {c : CoreWorld} {o u : Ending} → AllRun q xs here ss (in_world c (entered q.facts xs ys c.world)) o
        → ScopeEnds c.world.memory ys o u → Runs q xs here (scope ys ss) c u

  pub data AllRun (q : Program Steps) (xs : List Variable) (here : Here) : Steps → CoreWorld → Ending → Type 0 where
    none : {c : CoreWorld} → AllRun q xs here end c (goes_on c)
    goes : {s : Step} {ss : Steps} {c d : CoreWorld} {o : Ending} → Runs q xs here s c (goes_on d) → AllRun q xs here ss d o → AllRun q xs here (then_ s ss) c o
    stays : {s : Step} {ss : Steps} {c : CoreWorld} {o : Ending} → Runs q xs here s c o → Leaves o → AllRun q xs here (then_ s ss) c o

-- ---- functions

-- which behaviors are there (ACSL 2.3.3): of the named ones at least one, where they are complete, and no two, where they are disjoint
pub data Behaves (p : Facts) (w : Labelled) (bs : List Behavior) : List Together → Option Stop → Type 0 where
  as_said : Behaves p w bs [] None
  one_is_there : {t : Together} {ts : List Together} {o : Option Stop} → t.is_complete ≡ true → list_any is_so (assumed_of p w bs t.numbers) ≡ true
      → Behaves p w bs ts o → Behaves p w bs (t ∷ ts) o
  none_is_there : {t : Together} {ts : List Together} → t.is_complete ≡ true → list_any is_so (assumed_of p w bs t.numbers) ≡ false
      → Behaves p w bs (t ∷ ts) (Some (failed broken.complete t.line))
  no_two_are_there : {t : Together} {ts : List Together} {o : Option Stop} → t.is_complete ≡ false → one_at_most (assumed_of p w bs t.numbers) ≡ true
      → Behaves p w bs ts o → Behaves p w bs (t ∷ ts) o
  two_are_there : {t : Together} {ts : List Together} → t.is_complete ≡ false → one_at_most (assumed_of p w bs t.numbers) ≡ false
      → Behaves p w bs (t ∷ ts) (Some (failed broken.disjoint t.line))

-- what each part promises whose assumptions held at entry (ACSL 2.3.1, 2.3.3)
pub data Promises (p : Facts) (before behind : Labelled) : List Behavior → Option Stop → Type 0 where
  all_kept : Promises p before behind [] None
  not_assumed : {b : Behavior} {bs : List Behavior} {o : Option Stop} → is_assumed p before b ≡ false → Promises p before behind bs o
      → Promises p before behind (b ∷ bs) o
  kept : {b : Behavior} {bs : List Behavior} {o : Option Stop} → is_assumed p before b ≡ true → Claims p behind broken.ensures b.ensures None
      → Promises p before behind bs o → Promises p before behind (b ∷ bs) o
  not_kept : {b : Behavior} {bs : List Behavior} {s : Stop} → is_assumed p before b ≡ true → Claims p behind broken.ensures b.ensures (Some s)
      → Promises p before behind (b ∷ bs) (Some s)

-- how a body ends: by a return with a value, or at its closing brace
pub data BodyEnds (f : Function Steps) : Ending → Eval → Type 0 where
  by_return : {v : Value} {c : CoreWorld} → BodyEnds f (returns v c) (gives v c.world)
  at_brace : {c : CoreWorld} → f.result ≡ None → BodyEnds f (goes_on c) (gives nought c.world)
  without_result : {k : CellKind} {c : CoreWorld} → f.result ≡ Some k → BodyEnds f (goes_on c) (stops (undefined noreturn f.end))
  left_at_brace : {n : ℕ} {c : CoreWorld} → f.result ≡ None → BodyEnds f (exits n c) (gives nought c.world)
  left_without_result : {n : ℕ} {k : CellKind} {c : CoreWorld} → f.result ≡ Some k → BodyEnds f (exits n c) (stops (undefined noreturn f.end))
  by_stop : {s : Stop} → BodyEnds f (stopped s) (stops s)

-- the caller's variables are as they were, and the blocks of the call are gone
abbrev pub behind_call : (before after : World) → World
behind_call w u = record (left w.memory [] u) { locals = w.locals }

-- a function by its number, where what it requires holds
pub data FunctionRuns (q : Program Steps) (number : ℕ) (f : Function Steps) (vs : List Value) (w : World) : Eval → Type 0 where
  not_entered : {s : Stop} → Behaves q.facts (at_entry q.facts vs w.memory) f.contract.behaviors (in_order f.contract.together) (Some s) → FunctionRuns q number f vs w (stops s)
  goes_wrong : {o : Ending} {s : Stop} → Behaves q.facts (at_entry q.facts vs w.memory) f.contract.behaviors (in_order f.contract.together) None
      → AllRun q f.variables (here_in q.facts number vs w.memory f.contract []) f.body (begun (arrived f.variables vs w)) o → BodyEnds f o (stops s)
      → FunctionRuns q number f vs w (stops s)
  breaks_promise : {o : Ending} {v : Value} {u : World} {s : Stop}
      → Behaves q.facts (at_entry q.facts vs w.memory) f.contract.behaviors (in_order f.contract.together) None
      → AllRun q f.variables (here_in q.facts number vs w.memory f.contract []) f.body (begun (arrived f.variables vs w)) o → BodyEnds f o (gives v u)
      → Promises q.facts (in_state q.facts (here_in q.facts number vs w.memory f.contract []).entry)
      (at_return q.facts (here_in q.facts number vs w.memory f.contract []) (behind_call w u).memory v) (parts_of f.contract) (Some s)
      → FunctionRuns q number f vs w (stops s)
  returns_well : {o : Ending} {v : Value} {u : World} → Behaves q.facts (at_entry q.facts vs w.memory) f.contract.behaviors (in_order f.contract.together) None
      → AllRun q f.variables (here_in q.facts number vs w.memory f.contract []) f.body (begun (arrived f.variables vs w)) o → BodyEnds f o (gives v u)
      → Promises q.facts (in_state q.facts (here_in q.facts number vs w.memory f.contract []).entry)
      (at_return q.facts (here_in q.facts number vs w.memory f.contract []) (behind_call w u).memory v) (parts_of f.contract) None
      → FunctionRuns q number f vs w (gives v (behind_call w u))

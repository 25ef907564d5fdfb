-- Each run of a function without loops and calls is a segment run: in each state there is one.
use Rattle.std.proofs.Common.{◌≡◌, ℕ, zero, suc, Bool, true, false, List, [], ◌∷◌, refl, sym, subst, Option, Some, None}
use Rattle.std.specs.List.{list_any}
use Rattle.std.proofs.lemmas.Bool.{and_parts, false≢true}
use Rattle.wp_base.specs.declared.kinds.CellKind.{CellKind}
use Rattle.typed_prog.specs.Tree as t
use Rattle.c_runs.specs.TruthStates.{Value, World as Labelled}
use Rattle.c_runs.specs.Program.{Claim, Behavior, Together, Variable, Function, Facts, Program}
use Rattle.c_runs.specs.States.{World, Memory, Here, is_nonzero}
use Rattle.c_runs.specs.Claims as broken
use Rattle.c_runs.specs.Claims.{Stop, holds, in_body, in_state, at_entry, at_return, is_assumed, assumed_of, is_so, one_at_most, in_order, parts_of, here_in}
use Rattle.c_runs.specs.Scopes.{entered, arrived}
use Rattle.c_runs.specs.Calls.{Eval, gives, stops}
use Rattle.c_runs.specs.CheckedTold.{CoreWorld, Ending, goes_on, exits, returns, stopped, in_world, begun, normal, Check}
use Rattle.c_runs.specs.Run.{at_first}
use Rattle.c_runs.specs.Adding.{add_checks}
use Rattle.c_runs.specs.Tree.{Step, set, store, start, call, branch, repeat, around, exit, give, claim, scope, Steps, end, then_}
use Rattle.goal_segments.specs.RunSegments as seg
use Rattle.goal_segments.specs.RunSegments.{Asks, Claims, BlockEnds, ScopeEnds, object_at, test_in, test_at, total_in, Runs, AllRun, Behaves, Promises, BodyEnds, behind_call, FunctionRuns}
use Rattle.goal_segments.specs.RunLaws.{is_straight, are_straight, goal_function, RunsAreSegmentRuns}
use Rattle.goal_segments.proofs.Whole.{segment_runs_are_runs}

-- ---- checks and claims

asked_by : (test : Check → Bool) (c : Check) (cs : List Check) → ((o : Option Stop) × Asks test cs o) → (b : Bool) → test c ≡ b
    → (o : Option Stop) × Asks test (c ∷ cs) o
asked_by test c cs (o, r) true h = (o, seg.met h r)
asked_by test c cs r false h = (_, seg.unmet h)

asked_of : (test : Check → Bool) (cs : List Check) → (o : Option Stop) × Asks test cs o
asked_of test [] = (None, seg.all_met)
asked_of test (c ∷ cs) = asked_by test c cs (asked_of test cs) (test c) refl

claimed_by : (p : Facts) (w : Labelled) (b : broken.Broken) (c : Claim) (cs : List Claim) → ((o : Option Stop) × Claims p w b cs o)
    → (y : Bool) → holds p w c.what ≡ y → (o : Option Stop) × Claims p w b (c ∷ cs) o
claimed_by p w b c cs (o, r) true h = (o, seg.is_true h r)
claimed_by p w b c cs r false h = (_, seg.is_false h)

claimed_of : (p : Facts) (w : Labelled) (b : broken.Broken) (cs : List Claim) → (o : Option Stop) × Claims p w b cs o
claimed_of p w b [] = (None, seg.all_true)
claimed_of p w b (c ∷ cs) = claimed_by p w b c cs (claimed_of p w b cs) (holds p w c.what) refl

-- ---- blocks and scopes

block_of : (o : Ending) → (u : Ending) × BlockEnds o u
block_of (goes_on c) = (_, seg.BlockEnds.at_end)
block_of (exits zero c) = (_, seg.left_here)
block_of (exits (suc k) c) = (_, seg.left_further)
block_of (returns v c) = (_, seg.BlockEnds.returned)
block_of (stopped s) = (_, seg.BlockEnds.stopped_in)

scope_of : (m : Memory) (ys : List ℕ) (o : Ending) → (u : Ending) × ScopeEnds m ys o u
scope_of m ys (goes_on c) = (_, seg.ScopeEnds.at_end)
scope_of m ys (exits k c) = (_, seg.left_by_exit)
scope_of m ys (returns v c) = (_, seg.ScopeEnds.returned)
scope_of m ys (stopped s) = (_, seg.ScopeEnds.stopped_in)

-- ---- statements

module _ (q : Program Steps) (xs : List Variable) (here : Here) where
  abbrev Ends : Step → CoreWorld → Type 0
  Ends s c = (o : Ending) × Runs q xs here s c o

  abbrev AllEnd : Steps → CoreWorld → Type 0
  AllEnd ss c = (o : Ending) × AllRun q xs here ss c o

set_found : (q : Program Steps) (xs : List Variable) (here : Here) (cs : List Check) (n : ℕ) (e : t.Value) (c : CoreWorld)
    → ((o : Option Stop) × Asks (test_in q.facts xs c e) cs o) → Ends q xs here (set cs n e) c
set_found q xs here cs n e c (None, r) = (_, seg.sets r)
set_found q xs here cs n e c (Some s, r) = (_, seg.set_stops r)

start_found : (q : Program Steps) (xs : List Variable) (here : Here) (cs : List Check) (x : ℕ) (e : t.Value) (c : CoreWorld)
    → ((o : Option Stop) × Asks (test_in q.facts xs c e) cs o) → Ends q xs here (start cs x e) c
start_found q xs here cs x e c (None, r) = (_, seg.starts r)
start_found q xs here cs x e c (Some s, r) = (_, seg.start_stops r)

store_by : (q : Program Steps) (xs : List Variable) (here : Here) (cs : List Check) (type : _) (l : ℕ) (path : _) (es : t.Values) (c : CoreWorld)
    → Asks (test_at q.facts xs c type path es) cs None → (b : Bool) → (object_at q.facts xs here type path c es).may_change ≡ b
    → Ends q xs here (store cs type l path es) c
store_by q xs here cs type l path es c r true h = (_, seg.stores r h)
store_by q xs here cs type l path es c r false h = (_, seg.store_refused r h)

store_found : (q : Program Steps) (xs : List Variable) (here : Here) (cs : List Check) (type : _) (l : ℕ) (path : _) (es : t.Values) (c : CoreWorld)
    → ((o : Option Stop) × Asks (test_at q.facts xs c type path es) cs o) → Ends q xs here (store cs type l path es) c
store_found q xs here cs type l path es c (None, r) = store_by q xs here cs type l path es c r (object_at q.facts xs here type path c es).may_change refl
store_found q xs here cs type l path es c (Some s, r) = (_, seg.store_stops r)

give_found : (q : Program Steps) (xs : List Variable) (here : Here) (cs : List Check) (e : t.Value) (c : CoreWorld)
    → ((o : Option Stop) × Asks (test_in q.facts xs c e) cs o) → Ends q xs here (give cs (Some e)) c
give_found q xs here cs e c (None, r) = (_, seg.gives_value r)
give_found q xs here cs e c (Some s, r) = (_, seg.give_stops r)

claim_found : (q : Program Steps) (xs : List Variable) (here : Here) (a : Claim) (c : CoreWorld) (b : Bool) → holds q.facts (in_body q.facts here c.world) a.what ≡ b
    → Ends q xs here (claim a) c
claim_found q xs here a c true h = (_, seg.asserts h)
claim_found q xs here a c false h = (_, seg.assert_fails h)

branch_by : (q : Program Steps) (xs : List Variable) (here : Here) (cs : List Check) (e : t.Value) (a b : Steps) (c : CoreWorld)
    → Asks (test_in q.facts xs c e) cs None → AllEnd q xs here a c → AllEnd q xs here b c → (y : Bool) → is_nonzero (total_in q.facts xs c e) ≡ y
    → Ends q xs here (branch cs e a b) c
branch_by q xs here cs e a b c r (o, x) y true h = (o, seg.first_arm r h x)
branch_by q xs here cs e a b c r x (o, y) false h = (o, seg.other_arm r h y)

branch_found : (q : Program Steps) (xs : List Variable) (here : Here) (cs : List Check) (e : t.Value) (a b : Steps) (c : CoreWorld)
    → ((o : Option Stop) × Asks (test_in q.facts xs c e) cs o) → AllEnd q xs here a c → AllEnd q xs here b c → Ends q xs here (branch cs e a b) c
branch_found q xs here cs e a b c (None, r) x y = branch_by q xs here cs e a b c r x y (is_nonzero (total_in q.facts xs c e)) refl
branch_found q xs here cs e a b c (Some s, r) x y = (_, seg.test_stops r)

block_found : (q : Program Steps) (xs : List Variable) (here : Here) (ss : Steps) (c : CoreWorld) → AllEnd q xs here ss c → Ends q xs here (around ss) c
block_found q xs here ss c (o, r) = ((block_of o).0, seg.blocks r (block_of o).1)

scope_found : (q : Program Steps) (xs : List Variable) (here : Here) (ys : List ℕ) (ss : Steps) (c : CoreWorld)
    → AllEnd q xs here ss (in_world c (entered q.facts xs ys c.world)) → Ends q xs here (scope ys ss) c
scope_found q xs here ys ss c (o, r) = ((scope_of c.world.memory ys o).0, seg.scopes r (scope_of c.world.memory ys o).1)

then_found : (q : Program Steps) (xs : List Variable) (here : Here) (s : Step) (ss : Steps) (c : CoreWorld) (o : Ending) → Runs q xs here s c o
    → ((d : CoreWorld) → AllEnd q xs here ss d) → AllEnd q xs here (then_ s ss) c
then_found q xs here s ss c (goes_on d) r go = ((go d).0, seg.goes r (go d).1)
then_found q xs here s ss c (exits k d) r go = (_, seg.stays r seg.by_exit)
then_found q xs here s ss c (returns v d) r go = (_, seg.stays r seg.Leaves.by_return)
then_found q xs here s ss c (stopped e) r go = (_, seg.stays r seg.Leaves.by_stop)

mutual
  pub step_ends : (q : Program Steps) (xs : List Variable) (here : Here) (s : Step) → is_straight s ≡ true → (c : CoreWorld) → Ends q xs here s c
  step_ends q xs here (set cs n e) h c = set_found q xs here cs n e c (asked_of (test_in q.facts xs c e) cs)
  step_ends q xs here (store cs type l path es) h c = store_found q xs here cs type l path es c (asked_of (test_at q.facts xs c type path es) cs)
  step_ends q xs here (start cs x e) h c = start_found q xs here cs x e c (asked_of (test_in q.facts xs c e) cs)
  step_ends q xs here (branch cs e a b) h c =
      let parts = and_parts (are_straight a) (are_straight b) h in
      branch_found q xs here cs e a b c (asked_of (test_in q.facts xs c e) cs) (all_end q xs here a parts.0 c) (all_end q xs here b parts.1 c)
  step_ends q xs here (call cs to f l es) h c = absurd (false≢true h)
  step_ends q xs here (repeat l ss) h c = absurd (false≢true h)
  step_ends q xs here (around ss) h c = block_found q xs here ss c (all_end q xs here ss h c)
  step_ends q xs here (exit k) h c = (_, seg.leaves)
  step_ends q xs here (give cs None) h c = (_, seg.gives_nothing)
  step_ends q xs here (give cs (Some e)) h c = give_found q xs here cs e c (asked_of (test_in q.facts xs c e) cs)
  step_ends q xs here (claim a) h c = claim_found q xs here a c (holds q.facts (in_body q.facts here c.world) a.what) refl
  step_ends q xs here (scope ys ss) h c = scope_found q xs here ys ss c (all_end q xs here ss h (in_world c (entered q.facts xs ys c.world)))

  pub all_end : (q : Program Steps) (xs : List Variable) (here : Here) (ss : Steps) → are_straight ss ≡ true → (c : CoreWorld) → AllEnd q xs here ss c
  all_end q xs here end h c = (_, seg.none)
  all_end q xs here (then_ s ss) h c =
      let parts = and_parts (is_straight s) (are_straight ss) h in
      let first = step_ends q xs here s parts.0 c in
      then_found q xs here s ss c first.0 first.1 (λ d. all_end q xs here ss parts.1 d)

-- ---- functions

together_by : (p : Facts) (w : Labelled) (bs : List Behavior) (t : Together) (ts : List Together) → ((o : Option Stop) × Behaves p w bs ts o)
    → (b y z : Bool) → t.is_complete ≡ b → list_any is_so (assumed_of p w bs t.numbers) ≡ y → one_at_most (assumed_of p w bs t.numbers) ≡ z
    → (o : Option Stop) × Behaves p w bs (t ∷ ts) o
together_by p w bs t ts (o, r) true true z h g k = (o, seg.one_is_there h g r)
together_by p w bs t ts r true false z h g k = (_, seg.none_is_there h g)
together_by p w bs t ts (o, r) false y true h g k = (o, seg.no_two_are_there h k r)
together_by p w bs t ts r false y false h g k = (_, seg.two_are_there h k)

behaves_of : (p : Facts) (w : Labelled) (bs : List Behavior) (ts : List Together) → (o : Option Stop) × Behaves p w bs ts o
behaves_of p w bs [] = (None, seg.as_said)
behaves_of p w bs (t ∷ ts) =
    together_by p w bs t ts (behaves_of p w bs ts) t.is_complete (list_any is_so (assumed_of p w bs t.numbers)) (one_at_most (assumed_of p w bs t.numbers))
    refl refl refl

promise_kept_by : (p : Facts) (v w : Labelled) (b : Behavior) (bs : List Behavior) → is_assumed p v b ≡ true
    → ((o : Option Stop) × Claims p w broken.ensures b.ensures o) → ((o : Option Stop) × Promises p v w bs o) → (o : Option Stop) × Promises p v w (b ∷ bs) o
promise_kept_by p v w b bs h (None, g) (o, r) = (o, seg.kept h g r)
promise_kept_by p v w b bs h (Some s, g) r = (_, seg.not_kept h g)

promise_by : (p : Facts) (v w : Labelled) (b : Behavior) (bs : List Behavior) → ((o : Option Stop) × Promises p v w bs o)
    → (y : Bool) → is_assumed p v b ≡ y → (o : Option Stop) × Promises p v w (b ∷ bs) o
promise_by p v w b bs r true h = promise_kept_by p v w b bs h (claimed_of p w broken.ensures b.ensures) r
promise_by p v w b bs (o, r) false h = (o, seg.not_assumed h r)

promises_of : (p : Facts) (v w : Labelled) (bs : List Behavior) → (o : Option Stop) × Promises p v w bs o
promises_of p v w [] = (None, seg.all_kept)
promises_of p v w (b ∷ bs) = promise_by p v w b bs (promises_of p v w bs) (is_assumed p v b) refl

body_of : (f : Function Steps) (o : Ending) (r : Option CellKind) → f.result ≡ r → (e : Eval) × BodyEnds f o e
body_of f (goes_on c) None h = (_, seg.at_brace h)
body_of f (goes_on c) (Some k) h = (_, seg.without_result h)
body_of f (exits n c) None h = (_, seg.left_at_brace h)
body_of f (exits n c) (Some k) h = (_, seg.left_without_result h)
body_of f (returns v c) r h = (_, seg.BodyEnds.by_return)
body_of f (stopped s) r h = (_, seg.BodyEnds.by_stop)

function_by : (q : Program Steps) (k : ℕ) (f : Function Steps) (vs : List Value) (w : World)
    → Behaves q.facts (at_entry q.facts vs w.memory) f.contract.behaviors (in_order f.contract.together) None
    → (o : Ending) → AllRun q f.variables (here_in q.facts k vs w.memory f.contract []) f.body (begun (arrived f.variables vs w)) o
    → (e : Eval) → BodyEnds f o e → (e : Eval) × FunctionRuns q k f vs w e
function_by q k f vs w h o r (stops s) x = (_, seg.goes_wrong h r x)
function_by q k f vs w h o r (gives v u) x =
    let here = here_in q.facts k vs w.memory f.contract [] in
    kept_by (promises_of q.facts (in_state q.facts here.entry) (at_return q.facts here (behind_call w u).memory v) (parts_of f.contract))
  where
    kept_by : ((o : Option Stop) × Promises q.facts (in_state q.facts (here_in q.facts k vs w.memory f.contract []).entry)
        (at_return q.facts (here_in q.facts k vs w.memory f.contract []) (behind_call w u).memory v) (parts_of f.contract) o) → (e : Eval) × FunctionRuns q k f vs w e
    kept_by (None, g) = (_, seg.returns_well h r x g)
    kept_by (Some s, g) = (_, seg.breaks_promise h r x g)

pub function_ends : (q : Program Steps) (k : ℕ) (f : Function Steps) → are_straight f.body ≡ true → (vs : List Value) (w : World)
    → (e : Eval) × FunctionRuns q k f vs w e
function_ends q k f h vs w = entered_by_ (behaves_of q.facts (at_entry q.facts vs w.memory) f.contract.behaviors (in_order f.contract.together))
  where
    entered_by_ : ((o : Option Stop) × Behaves q.facts (at_entry q.facts vs w.memory) f.contract.behaviors (in_order f.contract.together) o)
        → (e : Eval) × FunctionRuns q k f vs w e
    entered_by_ (Some s, r) = (_, seg.not_entered r)
    entered_by_ (None, r) =
        let ended = all_end q f.variables (here_in q.facts k vs w.memory f.contract []) f.body h (begun (arrived f.variables vs w)) in
        let left_ = body_of f ended.0 f.result refl in
        function_by q k f vs w r ended.0 ended.1 left_.0 left_.1

pub runs_are_segment_runs : RunsAreSegmentRuns
runs_are_segment_runs p k f found_ straight vs m h n contents =
    let ended = function_ends (add_checks (normal p)) k (goal_function f) straight vs (at_first n contents m) in
    subst (λ e. FunctionRuns (add_checks (normal p)) k (goal_function f) vs (at_first n contents m) e)
    (sym (segment_runs_are_runs p k f found_ vs m h n contents ended.0 ended.1)) ended.1

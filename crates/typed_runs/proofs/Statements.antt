-- Each statement keeps what it doesn't set, and what the sets in force don't let change.
use Rattle.std.proofs.Common.{◌≡◌, ℕ, zero, suc, ℤ, true, false, not, ◌&&◌, ◌||◌, List, ◌∷◌, Option, Some, None, is_some, refl, sym, ap, ◌∙◌, subst, inl, inr}
use Rattle.std.specs.Prelude.{◌==◌, ◌⊎◌}
use Rattle.std.specs.List.{list_all}
use Rattle.std.proofs.lemmas.Bool.{false≢true}
use Rattle.wp_base.specs.declared.kinds.CellKind.{CellKind}
use Rattle.wp_base.specs.declared.kinds.CellKind.TheVariants as cell
use Rattle.wp_base.specs.declared.kinds.Kind.{Kind}
use Rattle.wp_base.specs.Blocks.{count}
use Rattle.typed_prog.specs.declared.types.CoreType.{CoreType}
use Rattle.typed_prog.specs.declared.operators.Path.{Path}
use Rattle.typed_prog.specs.Tree as tree
use Rattle.c_runs.specs.TruthStates.{Value}
use Rattle.c_runs.specs.Truth.{value_at}
use Rattle.c_runs.specs.Program.{Variable, Facts, Loop, Function, Program}
use Rattle.c_runs.specs.States.{World, Here, Granted, is_nonzero, seen}
use Rattle.c_runs.specs.Claims as claims
use Rattle.c_runs.specs.Claims.{unless_true, in_body, in_loop, at_head, measure_of, granted_by}
use Rattle.c_runs.specs.Scopes.{is_content, entered}
use Rattle.c_runs.specs.Calls.{Eval, gives, stops, nought}
use Rattle.c_runs.specs.CoreRun.{CoreWorld, Ending, with_eval, in_world, then_do, one_turn}
use Rattle.c_runs.specs.Checks.{Check}
use Rattle.c_runs.specs.Tests.{totals, is_set_by}
use Rattle.c_runs.specs.Tree.{Goal, Step, set, store, start, call, branch, repeat, around, exit, give, claim, scope, Steps, end, then_}
use Rattle.c_runs.specs.CheckedRun as run
use Rattle.c_runs.specs.CheckedRun.{is_met_in, place_test, way_values, stored_value}
use Rattle.c_runs.specs.Objects.{cell_of}
use Rattle.goal_segments.specs.Told.{with_names}
use Rattle.plain_runs.specs.Kept.{AllBelow, is_local, goal_sets, sets, some_sets, goal_temp, temps, some_temps}
use Rattle.plain_runs.proofs.Sets.{loop_locals, loop_below}
use Rattle.plain_runs.proofs.Keeping.{first_false, second_false}
use Rattle.plain_runs.proofs.Endings.{asked_ends}
use Rattle.plain_runs.proofs.Scopes.{zero_of}
use Rattle.typed_memories.proofs.Tests.{on_test, not_both, both_so, or_first, or_second}
use Rattle.run_blocks.specs.Ends.{is_short}
use Rattle.run_blocks.proofs.Standing.{still_same}
use Rattle.run_blocks.proofs.Good.{content_more}
use Rattle.program_steps.specs.Temporaries.{Temporaries, no_temporaries, uses, some_use, goal_uses, live, all_live}
use Rattle.typed_runs.specs.Fitting.{Shape, InScope, ArgumentsFit, StoreFits, Receives, by_none, by_unused, by_temporary, by_place, by_variable, LoopFits, FitsStep, FitsSteps, FitsProgram}
use Rattle.typed_runs.specs.Kept.{home_at, HoldsValue, HasHome, Holds, AllCounted, NewHomes, Kept, IsResult, Ends}
use Rattle.typed_runs.specs.Laws.{Keeps}
use Rattle.typed_runs.proofs.Values.{value_held, operand_held, place_operands}
use Rattle.typed_runs.proofs.Keeping.{counted_more, counted_both, fewer_behind, memory_same, holds_less, kept_none, homes_stay, homes_less, ends_more, ends_sub, ends_after, ends_then, ends_unless, ends_if, block_ends}
use Rattle.typed_runs.proofs.Opening.{declares, Opens, opens_all, name_same, value_still, home_still}
use Rattle.typed_runs.proofs.Leaving.{ends_scope}
use Rattle.typed_runs.proofs.Arriving.{arguments_are}
use Rattle.typed_runs.proofs.Writes.{temp_ends, stores, takes}
use Rattle.typed_runs.proofs.Calls.{Behind, there, call_given, one_counted}

-- ---- temporaries that are used

stored_first : (p : Facts) (xs : List Variable) (c : CoreWorld) (es : tree.Values) → (es ≡ tree.stop → ⊥)
    → stored_value (totals p xs c.temps c.world es) ≡ value_at (totals p xs c.temps c.world es) 0
stored_first p xs c tree.stop some = absurd (some refl)
stored_first p xs c (tree.more e es) some = refl

module _ (p : Facts) (s : Shape) (f : InScope) where
  -- ---- worlds with other turns, and behind calls

  pub turn_kept : (gs : List Granted) (tx : InScope) (u : Temporaries) (c : CoreWorld) (n : ℕ) → Kept p gs tx u c (in_world c (record c.world { turns = n }))
  turn_kept gs tx u c n = record {
    memory = memory_same gs c.world.memory;
    allowed = λ x h. refl;
    untouched = λ x h. refl;
    rises = λ x h. h;
    homes = λ x. refl;
    temporaries = λ m h. refl;
  }

  pub turn_holds : (t : Temporaries) (c : CoreWorld) (n : ℕ) → Holds p s f t c → Holds p s f t (in_world c (record c.world { turns = n }))
  turn_holds t c n h = record { good = h.good; locals = h.locals; homes = h.homes; scoped = h.scoped; temporaries = h.temporaries }

  pub behind_holds : (t : Temporaries) (r : Option CellKind) (inner gs : List Granted) (c : CoreWorld) (v : Value) (u : World) → Holds p s f t c → Behind p r inner gs c.world v u
      → Holds p s f t (in_world c u)
  behind_holds t r inner gs c v u h b =
      let there = still_same c.world.memory.blocks u.memory.blocks b.memory.blocks in
      record {
        good = b.good;
        locals = λ x w e on is. subst (λ l. HoldsValue p (count u.memory.blocks) w l) (sym (b.locals x))
            (value_still p (count c.world.memory.blocks) (count u.memory.blocks) w (c.world.locals x) there.more (h.locals x w e on is));
        homes = λ x w e on not_plain. subst (λ l. HasHome u.memory.blocks w l) (sym (b.locals x))
            (home_still c.world.memory.blocks u.memory.blocks w (c.world.locals x) there (h.homes x w e on not_plain));
        scoped = λ x out. b.locals x ∙ h.scoped x out;
        temporaries = λ n used. content_more p (count c.world.memory.blocks) (count u.memory.blocks) there.more (s.temp_kind n) (c.temps n) (h.temporaries n used);
      }

  pub behind_kept : (tx : InScope) (tu : Temporaries) (r : Option CellKind) (inner gs : List Granted) (c : CoreWorld) (v : Value) (u : World) → Behind p r inner gs c.world v u
      → Kept p gs tx tu c (in_world c u)
  behind_kept tx tu r inner gs c v u b = record {
    memory = b.memory;
    allowed = λ x h. b.locals x;
    untouched = λ x h. b.locals x;
    rises = λ x h. ap is_set_by (b.locals x) ∙ h;
    homes = λ x. ap home_at (b.locals x);
    temporaries = λ n h. refl;
  }

  -- ---- heads of loops

  -- temporaries that are used at a head are the same ones behind a pass
  pub head_holds : (os : List Temporaries) (low : ℕ) (l : Loop) (ss : Steps) → LoopFits p s f low os l ss → (gs : List Granted) (tx : InScope) (c d : CoreWorld) (t : Temporaries)
      → Holds p s f (all_live ss os no_temporaries) c → Holds p s f t d → Kept p gs tx (some_temps ss) c d → Holds p s f (all_live ss os no_temporaries) d
  head_holds os low l ss fits gs tx c d t h now kept = record {
    good = now.good;
    locals = now.locals;
    homes = now.homes;
    scoped = now.scoped;
    temporaries = λ n used. subst (λ v. is_content p (count d.world.memory.blocks) (s.temp_kind n) v ≡ true) (sym (kept.temporaries n (fits.temporaries n used)))
        (content_more p (count c.world.memory.blocks) (count d.world.memory.blocks) kept.memory.blocks.more (s.temp_kind n) (c.temps n) (h.temporaries n used));
  }

  -- what a loop sets that is declared inside of it isn't there at its head
  pub new_in_loop : (os : List Temporaries) (low : ℕ) (l : Loop) (ss : Steps) → LoopFits p s f low os l ss → (gs : List Granted) (t : Temporaries) (c : CoreWorld) → Holds p s f t c
      → NewHomes l.declared (some_sets ss) gs c.world.locals
  new_in_loop os low l ss fits gs t c h x b on le at = by (fits.inner x le) where
    by : (f x ≡ false) ⊎ (some_sets ss x ≡ false) → AllCounted b gs
    by (inl out) = absurd (false≢true (ap is_some (sym (ap home_at (h.scoped x out)) ∙ at)))
    by (inr unset) = not_both (some_sets ss x) on unset

  -- a pass of a loop, and what comes behind it
  pub ends_pass : (q : Program Steps) (deeper : run.Deeper) → q.facts ≡ p → (os : List Temporaries) (low : ℕ) (l : Loop) (ss : Steps) → LoopFits p s f low os l ss
      → (t : Temporaries) (here : Here) (last : Option ℤ)
      (run_body : CoreWorld → Ending) (later : Option ℤ → CoreWorld → Ending)
      → ((c : CoreWorld) → AllCounted (count c.world.memory.blocks) here.granted → Holds p s f (all_live ss os no_temporaries) c
      → Ends p s f os no_temporaries here.granted (some_sets ss) (some_temps ss) c (run_body c))
      → ((v : Option ℤ) (c : CoreWorld) → AllCounted (count c.world.memory.blocks) here.granted → Holds p s f (all_live ss os no_temporaries) c
      → Ends p s f os t here.granted (some_sets ss) (some_temps ss) c (later v c))
      → (c : CoreWorld) → AllCounted (count c.world.memory.blocks) here.granted → Holds p s f (all_live ss os no_temporaries) c
      → Ends p s f os t here.granted (some_sets ss) (some_temps ss) c (run.pass q deeper s.variables here l last run_body later c)
  ends_pass q deeper same os low l ss fits t here last run_body later body next c counted h =
      ends_unless p s f os t here.granted (some_sets ss) (some_temps ss) c (at_head q.facts (in_body q.facts here c.world) l last) _ (by c.world.turns) where
        by : (n : ℕ) → Ends p s f os t here.granted (some_sets ss) (some_temps ss) c
            (one_turn n c (λ d. then_do (run_body d) (later (measure_of q.facts (in_body q.facts here c.world) l.variant))))
        by zero = tt
        by (suc n) =
            let d = in_world c (record c.world { turns = n }) in
            let hd = turn_holds (all_live ss os no_temporaries) c n h in
            ends_after p s f os t here.granted (some_sets ss) (some_temps ss) c d (turn_kept here.granted (some_sets ss) (some_temps ss) c n) _
            (ends_then p s f os no_temporaries t here.granted (some_sets ss) (some_temps ss) d (later (measure_of q.facts (in_body q.facts here c.world) l.variant))
            (λ e now kept. next (measure_of q.facts (in_body q.facts here c.world) l.variant) e
            (counted_more here.granted (count c.world.memory.blocks) (count e.world.memory.blocks) kept.memory.blocks.more counted)
            (head_holds os low l ss fits here.granted (some_sets ss) d e no_temporaries hd now kept))
            (run_body d) (body d counted hd))

module _ (q : Program Steps) (fits : FitsProgram q) (deeper : run.Deeper) (keeps : Keeps q fits deeper) (s : Shape) (short : list_all (is_short q.facts) s.variables ≡ true) where
  abbrev Done : InScope → (os : List Temporaries) → (t : Temporaries) → Here → (tx : InScope) (u : Temporaries) → CoreWorld → Ending → Type 0
  Done f os t here tx u c o = Ends q.facts s f os t here.granted tx u c o

  abbrev blocks : CoreWorld → ℤ
  blocks c = count c.world.memory.blocks

  -- ---- results of calls

  -- in the world behind the call
  result_done : (f : InScope) (low : ℕ) (os : List Temporaries) (used t : Temporaries) (here : Here) → AllBelow low here.granted → (r : Option CellKind) (to : Goal)
      → Receives q.facts s f low used t r to
      → ((n : ℕ) → goal_temp to n ≡ false → t n ≡ true → used n ≡ true)
      → (c : CoreWorld) → NewHomes low (goal_sets to) here.granted c.world.locals → Holds q.facts s f used c → (v : Value) → IsResult q.facts (blocks c) r v
      → Done f os t here (goal_sets to) (goal_temp to) c (run.result_to q deeper s.variables here to v c)
  result_done f low os used t here below r _ by_none less c new h v is =
      (holds_less q.facts s f used t c (λ n on. less n refl on) h, kept_none q.facts here.granted (λ x. false) (λ n. false) c)
  result_done f low os used t here below r _ (by_unused {n = n} either) less c new h v is =
      temp_ends q.facts s f os here.granted c used t (λ x. false) n v h
      (λ on. subst (λ v. is_content q.facts (blocks c) (s.temp_kind n) v ≡ true) (sym is) (by on either))
      (λ m other on. less m other on) where
        by : t n ≡ true → (t n ≡ false) ⊎ ((k : Kind) × (s.temp_kind n ≡ cell.Of k)) → is_content q.facts (blocks c) (s.temp_kind n) nought ≡ true
        by on (inl unused) = not_both (t n) on unused
        by on (inr k) = ap (λ k. is_content q.facts (blocks c) k nought) k.1 ∙ zero_of q.facts.model k.0
  result_done f low os used t here below r _ (by_temporary {n = n} kind) less c new h v is =
      temp_ends q.facts s f os here.granted c used t (λ x. false) n v h
      (λ on. ap (λ k. is_content q.facts (blocks c) k v) kind ∙ is) (λ m other on. less m other on)
  result_done f low os used t here below r _ (by_place {cs = cs} {type = type} {l = l} {path = path} {es = es} typed way checks) less c new h v is =
      asked_ends (Done f os t here (is_local path.root) (λ n. false) c) (λ u l. tt) cs _ _
      (λ met. stores q.facts s f os here c used t (is_local path.root) (λ n. false) h (holds_less q.facts s f used t c (λ n on. less n refl on) h) l type path
      (run.totals_in q deeper s.variables c es) es v way
      (subst (λ cs. list_all (place_test q.facts s.variables c.temps c.world type path (run.totals_in q deeper s.variables c es) es) cs ≡ true) checks met) is (λ i out. out))
  result_done f low os used t here below r _ (by_variable {x = x} d) less c new h v is =
      takes q.facts s f os here c low below t (λ i. x == i) (λ n. false) new (holds_less q.facts s f used t c (λ n on. less n refl on) h) x _ v d is (name_same x) (λ i out. out)

  -- ---- calls

  -- what a call gives, whatever its own sets are
  abbrev CallGives : List Granted → Option CellKind → World → Eval → Type 0
  CallGives gs r w (gives v u) = (inner : List Granted) × Behind q.facts r inner gs w v u
  CallGives gs r w (stops x) = Unit {0}

  abbrev GivenBy : List Granted → Option CellKind → World → List Granted → Eval → Type 0
  GivenBy gs r w inner (gives v u) = Behind q.facts r inner gs w v u
  GivenBy gs r w inner (stops x) = Unit {0}

  some_inner : (gs : List Granted) (r : Option CellKind) (w : World) (inner : List Granted) (e : Eval) → GivenBy gs r w inner e → CallGives gs r w e
  some_inner gs r w inner (gives v u) h = (inner, h)
  some_inner gs r w inner (stops x) h = tt

  call_done : (f : InScope) (low : ℕ) (os : List Temporaries) (t : Temporaries) (here : Here) → AllBelow low here.granted
      → (cs : List Check) (to : Goal) (k l : ℕ) (es : tree.Values) (g : Function Steps)
      → q.functions k ≡ Some g → ArgumentsFit q.facts s f (live (call cs to k l es) os t) cs es g → Receives q.facts s f low (live (call cs to k l es) os t) t g.result to
      → (c : CoreWorld) → AllCounted (blocks c) here.granted → NewHomes low (goal_sets to) here.granted c.world.locals → Holds q.facts s f (live (call cs to k l es) os t) c
      → Done f os t here (goal_sets to) (goal_temp to) c (run.exec q deeper s.variables here (call cs to k l es) c)
  call_done f low os t here below cs to k l es g found args receives c counted new h =
      asked_ends (Done f os t here (goal_sets to) (goal_temp to) c) (λ u l. tt) cs _ _
      (λ met.
      let used = live (call cs to k l es) os t in
      let vs = run.totals_in q deeper s.variables c es in
      let operands = operand_held q.facts s f used c h es args.typed (subst (λ cs. list_all (is_met_in q.facts s.variables c.temps c.world es) cs ≡ true) args.checks met) in
      let are = arguments_are q.facts s c.world.memory.blocks g.params g.variables s.variables c.temps c.world es args.kinds operands in
      by (run.calls q deeper here k l vs c.world)
      (some_inner here.granted g.result c.world (there q fits k g found here vs c.world).granted (run.calls q deeper here k l vs c.world)
      (call_given q fits k g found here vs c.world h.good are.0 are.1 counted deeper keeps l))) where
        used_behind : (n : ℕ) → goal_temp to n ≡ false → t n ≡ true → live (call cs to k l es) os t n ≡ true
        used_behind n out on = or_second (some_use es n || goal_uses to n) (not (goal_temp to n) && t n) (both_so (not (goal_temp to n)) (t n) (ap not out) on)

        by : (e : Eval) → CallGives here.granted g.result c.world e
            → Done f os t here (goal_sets to) (goal_temp to) c (with_eval e (λ v w. run.result_to q deeper s.variables here to v (in_world c w)))
        by (gives v w) given =
            let inner = given.0 in
            let behind = given.1 in
            let used = live (call cs to k l es) os t in
            let d = in_world c w in
            let kept = behind_kept q.facts s f (goal_sets to) (goal_temp to) g.result inner here.granted c v w behind in
            ends_after q.facts s f os t here.granted (goal_sets to) (goal_temp to) c d kept (run.result_to q deeper s.variables here to v d)
            (result_done f low os used t here below g.result to receives used_behind d
            (homes_stay q.facts low (goal_sets to) here.granted here.granted (goal_sets to) (goal_temp to) c d kept new)
            (behind_holds q.facts s f used g.result inner here.granted c v w h behind) v behind.result)
        by (stops x) given = tt

  -- ---- scopes

  -- what is declared in a block is newer than all sets
  pub new_inside : (f : InScope) (low : ℕ) (gs : List Granted) (ys : List ℕ) (t : Temporaries) (c d : CoreWorld) (tx : InScope) → Opens q.facts s f (with_names ys f) t (declares ys) c d
      → AllCounted (blocks c) gs → NewHomes low tx gs c.world.locals → NewHomes low tx gs d.world.locals
  new_inside f low gs ys t c d tx opens counted new x b on le at = on_test (declares ys x)
      (λ own. counted_more gs (blocks c) b (opens.homes x b own at) counted)
      (λ out. new x b on le (sym (ap home_at (opens.others x out)) ∙ at))

  -- ---- statements

  store_done : (f : InScope) (os : List Temporaries) (t : Temporaries) (here : Here) (cs : List Check) (type : CoreType) (l : ℕ) (path : Path) (es : tree.Values)
      → StoreFits q.facts s f (live (store cs type l path es) os t) cs type path es → (c : CoreWorld) → Holds q.facts s f (live (store cs type l path es) os t) c
      → Done f os t here (is_local path.root) (λ n. false) c (run.exec q deeper s.variables here (store cs type l path es) c)
  store_done f os t here cs type l path es fit c h =
      asked_ends (Done f os t here (is_local path.root) (λ n. false) c) (λ u l. tt) cs _ _
      (λ met.
      let used = live (store cs type l path es) os t in
      let vs = run.totals_in q deeper s.variables c es in
      let all = subst (λ cs. list_all (place_test q.facts s.variables c.temps c.world type path (way_values vs) es) cs ≡ true) fit.checks met in
      let operands = operand_held q.facts s f used c h es fit.typed (place_operands q.facts s f used c h type path (way_values vs) es all) in
      let value : is_content q.facts (blocks c) (cell_of type) (stored_value vs) ≡ true =
      ap (is_content q.facts (blocks c) (cell_of type)) (stored_first q.facts s.variables c es fit.some)
      ∙ subst (λ k. is_content q.facts (blocks c) k (value_at vs 0) ≡ true) fit.stored (operands 0) in
      stores q.facts s f os here c used t (is_local path.root) (λ n. false) h (holds_less q.facts s f used t c (λ n on. or_second (some_use es n) (t n) on) h) l type path (way_values vs) es
      (stored_value vs)
      fit.way all value (λ i out. out))

  mutual
    pub statement_done : (f : InScope) (low : ℕ) (os : List Temporaries) (t : Temporaries) (here : Here) → AllBelow low here.granted → (a : Step) → FitsStep q.facts s q.functions f low os t a
        → (c : CoreWorld) → AllCounted (blocks c) here.granted → NewHomes low (sets a) here.granted c.world.locals → Holds q.facts s f (live a os t) c
        → Done f os t here (sets a) (temps a) c (run.exec q deeper s.variables here a c)
    statement_done f low os t here below (set cs n e) fit c counted new h =
        asked_ends (Done f os t here (λ x. false) (λ m. n == m) c) (λ u l. tt) cs _ _
        (λ met. temp_ends q.facts s f os here.granted c (live (set cs n e) os t) t (λ x. false) n _ h
        (λ on. value_held q.facts s f (live (set cs n e) os t) c h cs e (s.temp_kind n) fit met)
        (λ m other on. or_second (uses e m) (not (n == m) && t m) (both_so (not (n == m)) (t m) (ap not other) on)))
    statement_done f low os t here below (store cs type l path es) fit c counted new h = store_done f os t here cs type l path es fit c h
    statement_done f low os t here below (start cs x e) fit c counted new h =
        asked_ends (Done f os t here (λ i. x == i) (λ n. false) c) (λ u l. tt) cs _ _
        (λ met. takes q.facts s f os here c low below t (λ i. x == i) (λ n. false) new (holds_less q.facts s f (live (start cs x e) os t) t c (λ n on. or_second (uses e n) (t n) on) h) x fit.0 _ fit.1
        (value_held q.facts s f (live (start cs x e) os t) c h cs e fit.0 fit.2 met) (name_same x) (λ i out. out))
    statement_done f low os t here below (call cs to k l es) fit c counted new h = call_done f low os t here below cs to k l es fit.0 fit.1 fit.2 fit.3 c counted new h
    statement_done f low os t here below (branch cs e a b) fit c counted new h =
        asked_ends (Done f os t here (sets (branch cs e a b)) (temps (branch cs e a b)) c) (λ u l. tt) cs _ _
        (λ met. ends_if q.facts s f os t here.granted (sets (branch cs e a b)) (temps (branch cs e a b)) c (is_nonzero (run.total_in q deeper s.variables c e)) _ _
        (ends_sub q.facts s f os t here.granted (sets (branch cs e a b)) (some_sets a) (temps (branch cs e a b)) (some_temps a) c
        (λ x out. first_false (some_sets a x) (some_sets b x) out) (λ n out. first_false (some_temps a n) (some_temps b n) out) _
        (all_done f low os t here below a fit.0 c counted (homes_less low (sets (branch cs e a b)) (some_sets a) here.granted c.world.locals (λ x on. or_first (some_sets a x) (some_sets b x) on) new)
        (holds_less q.facts s f (live (branch cs e a b) os t) (all_live a os t) c
        (λ n on. or_second (uses e n) (all_live a os t n || all_live b os t n) (or_first (all_live a os t n) (all_live b os t n) on)) h)))
        (ends_sub q.facts s f os t here.granted (sets (branch cs e a b)) (some_sets b) (temps (branch cs e a b)) (some_temps b) c
        (λ x out. second_false (some_sets a x) (some_sets b x) out) (λ n out. second_false (some_temps a n) (some_temps b n) out) _
        (all_done f low os t here below b fit.1 c counted (homes_less low (sets (branch cs e a b)) (some_sets b) here.granted c.world.locals (λ x on. or_second (some_sets a x) (some_sets b x) on) new)
        (holds_less q.facts s f (live (branch cs e a b) os t) (all_live b os t) c
        (λ n on. or_second (uses e n) (all_live a os t n || all_live b os t n) (or_second (all_live a os t n) (all_live b os t n) on)) h))))
    statement_done f low os t here below (repeat l ss) fit c counted new h =
        let inside = in_loop q.facts here l c.world in
        let own = granted_by q.facts (in_body q.facts (record here { loop_entry = seen q.facts c.world }) c.world) (blocks c) l.declared l.assigns in
        let deep = loop_below q.facts here l c.world low fit.0.inside below in
        let counts = counted_both own here.granted (blocks c) (one_counted q.facts (in_body q.facts (record here { loop_entry = seen q.facts c.world }) c.world)
        (blocks c) l.declared l.assigns) counted in
        ends_more q.facts s f os t here.granted inside.granted (some_sets ss) (some_sets ss) (some_temps ss) (some_temps ss) c (fewer_behind own here.granted)
        (loop_locals q.facts here l c.world) (λ x out. out) (λ n out. out) _
        (ends_pass q.facts s f q deeper refl os low l ss fit.0 t inside None (run.exec_all q deeper s.variables inside ss) (λ last. deeper (run.again s.variables l last ss) inside)
        (λ d counted h. all_done f l.declared os no_temporaries inside deep ss fit.1 d counted (new_in_loop q.facts s f os low l ss fit.0 inside.granted (all_live ss os no_temporaries) d h) h)
        (λ v d counted h. keeps.again s short f low os t l v ss fit.0 fit.1 inside deep d counted h) c counts h)
    statement_done f low os t here below (around ss) fit c counted new h =
        block_ends q.facts s f os t here.granted (some_sets ss) (some_temps ss) c _ (all_done f low (t ∷ os) t here below ss fit c counted new h)
    statement_done f low os t here below (exit k) fit c counted new h = (h, kept_none q.facts here.granted (λ x. false) (λ n. false) c)
    statement_done f low os t here below (give cs None) fit c counted new h =
        (subst (λ r. IsResult q.facts (blocks c) r nought) (sym fit) refl, record { good = h.good; memory = memory_same here.granted c.world.memory })
    statement_done f low os t here below (give cs (Some e)) fit c counted new h =
        asked_ends (Done f os t here (λ x. false) (λ n. false) c) (λ u l. tt) cs _ _
        (λ met. (
          subst (λ r. IsResult q.facts (blocks c) r (run.total_in q deeper s.variables c e)) (sym fit.1) (value_held q.facts s f (live (give cs (Some e)) os t) c h cs e fit.0 fit.2 met),
          record { good = h.good; memory = memory_same here.granted c.world.memory },
        ))
    statement_done f low os t here below (claim a) fit c counted new h =
        ends_unless q.facts s f os t here.granted (λ x. false) (λ n. false) c (unless_true (claims.holds q.facts (in_body q.facts here c.world) a.what) claims.assert a.line) _
        (h, kept_none q.facts here.granted (λ x. false) (λ n. false) c)
    statement_done f low os t here below (scope ys ss) fit c counted new h =
        let d = in_world c (entered q.facts s.variables ys c.world) in
        let opens = opens_all q.facts s short (all_live ss os t) f low ys fit.0 c h in
        ends_scope q.facts s f low here.granted below ys fit.0 (all_live ss os t) c d h opens os t (some_sets ss) (some_temps ss) _
        (all_done (with_names ys f) low os t here below ss fit.1 d (counted_more here.granted (blocks c) (blocks d) opens.there.more counted)
        (new_inside f low here.granted ys (all_live ss os t) c d (some_sets ss) opens counted new) opens.holds)

    pub all_done : (f : InScope) (low : ℕ) (os : List Temporaries) (t : Temporaries) (here : Here) → AllBelow low here.granted → (ss : Steps) → FitsSteps q.facts s q.functions f low os t ss
        → (c : CoreWorld) → AllCounted (blocks c) here.granted → NewHomes low (some_sets ss) here.granted c.world.locals → Holds q.facts s f (all_live ss os t) c
        → Done f os t here (some_sets ss) (some_temps ss) c (run.exec_all q deeper s.variables here ss c)
    all_done f low os t here below end fit c counted new h = (h, kept_none q.facts here.granted (λ x. false) (λ n. false) c)
    all_done f low os t here below (then_ a ss) fit c counted new h =
        ends_then q.facts s f os (all_live ss os t) t here.granted (some_sets (then_ a ss)) (some_temps (then_ a ss)) c (run.exec_all q deeper s.variables here ss)
        (λ d now kept. ends_sub q.facts s f os t here.granted (some_sets (then_ a ss)) (some_sets ss) (some_temps (then_ a ss)) (some_temps ss) d
        (λ x out. second_false (sets a x) (some_sets ss x) out) (λ n out. second_false (temps a n) (some_temps ss n) out) _
        (all_done f low os t here below ss fit.1 d (counted_more here.granted (blocks c) (blocks d) kept.memory.blocks.more counted)
        (homes_stay q.facts low (some_sets ss) here.granted here.granted (some_sets (then_ a ss)) (some_temps (then_ a ss)) c d kept
        (homes_less low (some_sets (then_ a ss)) (some_sets ss) here.granted c.world.locals (λ x on. or_second (sets a x) (some_sets ss x) on) new)) now)) _
        (ends_sub q.facts s f os (all_live ss os t) here.granted (some_sets (then_ a ss)) (sets a) (some_temps (then_ a ss)) (temps a) c
        (λ x out. first_false (sets a x) (some_sets ss x) out) (λ n out. first_false (temps a n) (some_temps ss n) out) _
        (statement_done f low os (all_live ss os t) here below a fit.0 c counted
        (homes_less low (some_sets (then_ a ss)) (sets a) here.granted c.world.locals (λ x on. or_first (sets a x) (some_sets ss x) on) new) h))

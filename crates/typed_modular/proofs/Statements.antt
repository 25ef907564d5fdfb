-- Each statement is followed.
use Rattle.std.proofs.Common.{◌≡◌, ℕ, ℤ, Bool, true, ◌||◌, if◌then◌else◌, List, ◌∷◌, Option, Some, None, refl, sym, subst}
use Rattle.std.specs.List.{list_all}
use Rattle.std.proofs.lemmas.Bool.{and_parts}
use Rattle.wp_base.specs.Blocks.{count}
use Rattle.typed_prog.specs.Tree as tree
use Rattle.c_runs.specs.TruthStates.{Value}
use Rattle.c_runs.specs.Program.{Function, Loop, Program}
use Rattle.c_runs.specs.States.{World, Here, Granted, is_nonzero, seen}
use Rattle.c_runs.specs.Claims.{Stop, required, decreased, measure_of, at_entry, in_body, in_loop, here_in, granted_by, granted_in, parts_of}
use Rattle.c_runs.specs.Scopes.{entered}
use Rattle.c_runs.specs.Calls.{Eval, gives, stops, unless, turn_by, entered_by, found as found_by}
use Rattle.c_runs.specs.Entry.{are_arguments, all_lead_well}
use Rattle.c_runs.specs.CoreRun.{CoreWorld, Ending, goes_on, exits, returns, stopped, then_do, with_eval, in_world, scope_end, begun, block_end}
use Rattle.c_runs.specs.Checks.{Check}
use Rattle.c_runs.specs.Tests.{is_met}
use Rattle.c_runs.specs.Tree.{Goal, Step, set, store, start, call, branch, repeat, around, exit, give, claim, scope, Steps, end, then_}
use Rattle.c_runs.specs.CheckedRun as run
use Rattle.c_runs.specs.CheckedRun.{is_met_in}
use Rattle.goal_segments.specs.RunSegments.{Asks, stopped_in, by_exit, by_return, by_stop}
use Rattle.goal_segments.specs.Sets.{own_loop, loop_inside, call_inside}
use Rattle.goal_segments.specs.Segments as seg
use Rattle.goal_segments.specs.Segments.{BehindCall, no_deeper, Seg, AllSeg}
use Rattle.goal_segments.specs.Laws.{calls_among, all_among, NoneFails}
use Rattle.goal_segments.specs.Told.{with_names}
use Rattle.goal_segments.proofs.Deep.{first_time}
use Rattle.goal_segments.proofs.Following.{Follows, goes_wrong, goes_so, spends, asks_or, block_ends, block_spent, then_spent, scope_spent}
use Rattle.goal_segments.proofs.Including as plain
use Rattle.plain_runs.specs.Kept.{sets, temps, some_sets, some_temps}
use Rattle.plain_runs.proofs.Sets.{loop_below}
use Rattle.typed_memories.proofs.Tests.{on_test, or_first, or_second}
use Rattle.run_blocks.specs.Ends.{is_short}
use Rattle.program_steps.specs.Temporaries.{Temporaries, no_temporaries, uses, live, all_live}
use Rattle.typed_runs.specs.Fitting.{Shape, InScope, ArgumentsFit, Receives, LoopFits, FitsStep, FitsSteps, FitsProgram}
use Rattle.typed_runs.specs.Kept.{Holds, NewHomes, Kept, Ends}
use Rattle.typed_runs.specs.Laws.{Keeps}
use Rattle.typed_runs.proofs.Values.{operand_held}
use Rattle.typed_runs.proofs.Keeping.{counted_more, counted_both, holds_less, homes_less, homes_stay, kept_none}
use Rattle.typed_runs.proofs.Opening.{opens, opens_all}
use Rattle.typed_runs.proofs.Arriving.{arguments_are}
use Rattle.typed_runs.proofs.Calls.{there, one_counted}
use Rattle.typed_runs.proofs.Statements.{behind_holds, new_in_loop, new_inside, statement_done, all_done}
use Rattle.typed_modular.specs.Solid.{LoopSet, LoopSets, AllLoopSets, SetsFit}
use Rattle.typed_modular.proofs.Including.{loop_agrees, by_solid, own_or_solid, own_or_counted}
use Rattle.typed_modular.proofs.Singles.{single_same, result_same}
use Rattle.typed_modular.proofs.Deep.{InForce, force_more, EntryIs, Deep}
use Rattle.typed_modular.proofs.Loops.{set_solid, head_follows}
use Rattle.typed_modular.proofs.Calls.{Called, is_spent, is_back, turn_called}

module _ (q : Program Steps) (fits : FitsProgram q) (sets_fit : SetsFit q fits) (reached : ℕ → Bool) (none_fails : NoneFails q reached) (deeper : run.Deeper) (keeps : Keeps q fits deeper)
    (deep : Deep q fits reached deeper) (g : Function Steps) (s : Shape) (short : list_all (is_short q.facts) s.variables ≡ true) where
  abbrev Runs : (here : Here) → List Granted → Step → CoreWorld → Ending → Type 0
  Runs here gs a c = Seg q s.variables (record here { granted = gs }) a c

  abbrev AllRun : (here : Here) → List Granted → Steps → CoreWorld → Ending → Type 0
  AllRun here gs ss c = AllSeg q s.variables (record here { granted = gs }) ss c

  abbrev blocks : CoreWorld → ℤ
  blocks c = count c.world.memory.blocks

  -- ---- one inside of another

  branch_follows : (here : Here) (gs : List Granted) (cs : List Check) (e : tree.Value) (a b ss : Steps) (c : CoreWorld) (o : Ending)
      → ((o : Ending) → AllRun here gs ss c o → Runs here gs (branch cs e a b) c o)
      → Follows (AllRun here gs ss c) o → Follows (Runs here gs (branch cs e a b) c) o
  branch_follows here gs cs e a b ss c o arm (goes_wrong x r) = goes_wrong x (arm (stopped x) r)
  branch_follows here gs cs e a b ss c o arm (goes_so r) = goes_so (arm o r)
  branch_follows here gs cs e a b ss c o arm (spends h) = spends h

  block_follows : (here : Here) (gs : List Granted) (ss : Steps) (c : CoreWorld) (o : Ending) → Follows (AllRun here gs ss c) o → Follows (Runs here gs (around ss) c) (block_end o)
  block_follows here gs ss c o (goes_wrong x r) = goes_wrong x (seg.blocks r stopped_in)
  block_follows here gs ss c o (goes_so r) = goes_so (seg.blocks r (block_ends o))
  block_follows here gs ss c o (spends h) = spends (block_spent o h)

  scope_follows : (here : Here) (gs : List Granted) (ys : List ℕ) (ss : Steps) (c : CoreWorld) (w : World) → seg.Opened q.facts s.variables ys c.world w → (o : Ending)
      → Follows (AllRun here gs ss (in_world c w)) o → Follows (Runs here gs (scope ys ss) c) (scope_end c.world.memory ys o)
  scope_follows here gs ys ss c w opened o (goes_wrong x r) = goes_wrong x (seg.scopes opened r)
  scope_follows here gs ys ss c w opened o (goes_so r) = goes_so (seg.scopes opened r)
  scope_follows here gs ys ss c w opened o (spends h) = spends (scope_spent c.world.memory ys o h)

  -- what comes behind a statement
  then_follows : (here : Here) (gs : List Granted) (a : Step) (ss : Steps) (c : CoreWorld) (f : InScope) (os : List Temporaries) (t : Temporaries) (all : List Granted) (tx : InScope)
      (u : Temporaries) (o : Ending)
      → Follows (Runs here gs a c) o → Ends q.facts s f os t all tx u c o
      → ((d : CoreWorld) → Holds q.facts s f t d → Kept q.facts all tx u c d → Follows (AllRun here gs ss d) (run.exec_all q deeper s.variables here ss d))
      → Follows (AllRun here gs (then_ a ss) c) (then_do o (run.exec_all q deeper s.variables here ss))
  then_follows here gs a ss c f os t all tx u o (goes_wrong x r) h next = goes_wrong x (seg.stays r by_stop)
  then_follows here gs a ss c f os t all tx u o (spends r) h next = spends (then_spent o _ r)
  then_follows here gs a ss c f os t all tx u (goes_on d) (goes_so r) h next = behind (run.exec_all q deeper s.variables here ss d) (next d h.0 h.1) where
    behind : (o : Ending) → Follows (AllRun here gs ss d) o → Follows (AllRun here gs (then_ a ss) c) o
    behind o (goes_wrong x k) = goes_wrong x (seg.goes r k)
    behind o (goes_so k) = goes_so (seg.goes r k)
    behind o (spends k) = spends k
  then_follows here gs a ss c f os t all tx u (exits k d) (goes_so r) h next = goes_so (seg.stays r by_exit)
  then_follows here gs a ss c f os t all tx u (returns v d) (goes_so r) h next = goes_so (seg.stays r by_return)
  then_follows here gs a ss c f os t all tx u (stopped x) (goes_so r) h next = goes_so (seg.stays r by_stop)

  -- ---- calls

  module _ (f : InScope) (low : ℕ) (os : List Temporaries) (t : Temporaries) (here : Here) (gs : List Granted) (cs : List Check) (to : Goal) (k l : ℕ) (es : tree.Values) (callee : Function Steps)
      (found : q.functions k ≡ Some callee) (among : reached k ≡ true) (args : ArgumentsFit q.facts s f (live (call cs to k l es) os t) cs es callee)
      (receives : Receives q.facts s f low (live (call cs to k l es) os t) t callee.result to) (c : CoreWorld) (force : InForce q.facts low here gs (blocks c))
      (h : Holds q.facts s f (live (call cs to k l es) os t) c) where
    abbrev vs : List Value
    vs = run.totals_in q deeper s.variables c es

    abbrev entry_needs : Option Stop
    entry_needs = required q.facts l (at_entry q.facts vs c.world.memory) callee.contract

    abbrev lower_needs : Option Stop
    lower_needs = decreased q.facts l here k (measure_of q.facts (at_entry q.facts vs c.world.memory) callee.contract.decreases)

    abbrev clauses : List Granted
    clauses = granted_in q.facts (at_entry q.facts vs c.world.memory) (blocks c) (parts_of callee.contract)

    abbrev InCall : Ending → Type 0
    InCall = Runs here gs (call cs to k l es) c

    abbrev go : Value → World → Ending
    go v w = run.result_to q deeper s.variables here to v (in_world c w)

    abbrev Met : Type 0
    Met = Asks (is_met_in q.facts s.variables c.temps c.world es) cs None

    abbrev the_call : World → Eval
    the_call w = entered_by q.facts (λ f here w. run.returned f (deeper (run.body f) here (begun w))) callee (here_in q.facts k vs c.world.memory callee.contract here.granted) vs w

    -- where its result goes
    result_follows : (asks : Met) → entry_needs ≡ None → lower_needs ≡ None → call_inside q.facts gs clauses ≡ true → (o : Eval)
        → Called q k callee (there q fits k callee found here vs c.world).granted here.granted vs c.world o → Follows InCall (with_eval o go)
    result_follows asks asked lower inside (stops x) is_spent = spends tt
    result_follows asks asked lower inside (gives v u) (is_back b behind) =
        goes_so (seg.returns_from {v = v} {u = u} asks found asked lower inside behind
        (result_same q s here gs force.agrees deeper f low (live (call cs to k l es) os t) t callee.result to receives v (in_world c u)
        (behind_holds q.facts s f (live (call cs to k l es) os t) callee.result (there q fits k callee found here vs c.world).granted here.granted c v u h b)))

    inside_by : (asks : Met) → are_arguments q.facts c.world.memory.blocks callee.params callee.variables vs ≡ true → all_lead_well vs ≡ true → entry_needs ≡ None → lower_needs ≡ None
        → Follows InCall (with_eval (turn_by c.world.turns c.world the_call) go)
    inside_by asks are lead asked lower = on_test (call_inside q.facts gs clauses)
        (λ inside. result_follows asks asked lower inside (turn_by c.world.turns c.world the_call)
        (turn_called q fits sets_fit reached none_fails deeper keeps deep here gs low c.world force h.good k callee found among vs are lead l asked inside c.world.turns))
        (λ outside. goes_wrong _ (seg.call_outside asks found asked lower outside))

    lower_by : (asks : Met) → are_arguments q.facts c.world.memory.blocks callee.params callee.variables vs ≡ true → all_lead_well vs ≡ true → entry_needs ≡ None → (o : Option Stop) → lower_needs ≡ o
        → Follows InCall (with_eval (unless o (turn_by c.world.turns c.world the_call)) go)
    lower_by asks are lead asked (Some x) e = goes_so (seg.not_lower asks found asked e)
    lower_by asks are lead asked None e = inside_by asks are lead asked e

    asked_by : (asks : Met) → are_arguments q.facts c.world.memory.blocks callee.params callee.variables vs ≡ true → all_lead_well vs ≡ true → (o : Option Stop) → entry_needs ≡ o
        → Follows InCall (with_eval (unless o (unless lower_needs (turn_by c.world.turns c.world the_call))) go)
    asked_by asks are lead (Some x) e = goes_so (seg.not_required asks found e)
    asked_by asks are lead None e = lower_by asks are lead e lower_needs refl

    call_follows : Follows InCall (run.exec q deeper s.variables here (call cs to k l es) c)
    call_follows =
        asks_or (Follows InCall) cs _ _ (λ x a. goes_so (seg.argument_stops a))
        (λ asks met.
        let operands = operand_held q.facts s f (live (call cs to k l es) os t) c h es args.typed
        (subst (λ cs. list_all (is_met_in q.facts s.variables c.temps c.world es) cs ≡ true) args.checks met) in
        let are = arguments_are q.facts s c.world.memory.blocks callee.params callee.variables s.variables c.temps c.world es args.kinds operands in
        subst (λ o. Follows InCall (with_eval (found_by q.facts (λ f here w. run.returned f (deeper (run.body f) here (begun w))) here k l o vs c.world) go)) (sym found)
        (asked_by asks are.0 are.1 entry_needs refl))

  -- ---- loops

  -- what is in force inside of a loop that is entered here
  pub loop_force : (f : InScope) (low : ℕ) (os : List Temporaries) (l : Loop) (ss : Steps) → LoopFits q.facts s f low os l ss → LoopSet q.facts s g f l ss
      → (here : Here) (gs : List Granted) → EntryIs q.facts g here
      → (c : CoreWorld) (t : Temporaries) → InForce q.facts low here gs (blocks c) → Holds q.facts s f t c → loop_inside q.facts (record here { granted = gs }) l c.world ≡ true
      → InForce q.facts l.declared (in_loop q.facts here l c.world) (own_loop q.facts (record here { granted = gs }) l c.world).granted (blocks c)
  loop_force f low os l ss loop own_set here gs entry c t force h inside =
      let v = in_body q.facts (record here { loop_entry = seen q.facts c.world }) c.world in
      let solid = set_solid q.facts s g f l ss own_set here entry c t h in
      let own = granted_by q.facts v (blocks c) l.declared l.assigns in
      record {
        agrees = loop_agrees q.facts low here gs l c.world loop.inside force.agrees force.below force.solid force.counted solid inside;
        below = plain.own_below q.facts here gs l c.world low loop.inside force.below;
        all_below = loop_below q.facts here l c.world low loop.inside force.all_below;
        counted = own_or_counted q.facts (blocks c) own gs (one_counted q.facts v (blocks c) l.declared l.assigns) force.counted;
        all_counted = counted_both own here.granted (blocks c) (one_counted q.facts v (blocks c) l.declared l.assigns) force.all_counted;
        solid = own_or_solid q.facts own gs (by_solid q.facts v (blocks c) l.declared l.assigns solid) force.solid;
      }

  -- ---- statements

  single_follows : (f : InScope) (low : ℕ) (os : List Temporaries) (t : Temporaries) (here : Here) (gs : List Granted) (a : Step) → FitsStep q.facts s q.functions f low os t a → seg.is_single a ≡ true
      → (c : CoreWorld) → InForce q.facts low here gs (blocks c) → Holds q.facts s f (live a os t) c → Follows (Runs here gs a c) (run.exec q deeper s.variables here a c)
  single_follows f low os t here gs a fit is c force h = goes_so (seg.single is (single_same q s here gs force.agrees deeper f low os t a fit is c h))

  mutual
    pub statement_follows : (f : InScope) (low : ℕ) (os : List Temporaries) (t : Temporaries) (here : Here) (gs : List Granted) → EntryIs q.facts g here → (a : Step)
        → FitsStep q.facts s q.functions f low os t a → LoopSets q.facts s g f a → calls_among reached a ≡ true → (c : CoreWorld) → InForce q.facts low here gs (blocks c)
        → NewHomes low (sets a) here.granted c.world.locals → Holds q.facts s f (live a os t) c → Follows (Runs here gs a c) (run.exec q deeper s.variables here a c)
    statement_follows f low os t here gs entry (set cs n e) fit loops among c force new h = single_follows f low os t here gs (set cs n e) fit refl c force h
    statement_follows f low os t here gs entry (store cs type l path es) fit loops among c force new h = single_follows f low os t here gs (store cs type l path es) fit refl c force h
    statement_follows f low os t here gs entry (start cs x e) fit loops among c force new h = single_follows f low os t here gs (start cs x e) fit refl c force h
    statement_follows f low os t here gs entry (exit k) fit loops among c force new h = single_follows f low os t here gs (exit k) fit refl c force h
    statement_follows f low os t here gs entry (give cs e) fit loops among c force new h = single_follows f low os t here gs (give cs e) fit refl c force h
    statement_follows f low os t here gs entry (claim a) fit loops among c force new h = single_follows f low os t here gs (claim a) fit refl c force h
    statement_follows f low os t here gs entry (call cs to k l es) fit loops among c force new h = call_follows f low os t here gs cs to k l es fit.0 fit.1 among fit.2 fit.3 c force h
    statement_follows f low os t here gs entry (branch cs e a b) fit loops among c force new h =
        let both = and_parts (all_among reached a) (all_among reached b) among in
        asks_or (Follows (Runs here gs (branch cs e a b) c)) cs _ _ (λ x asks. goes_so (seg.test_stops asks))
        (λ asks met. arms asks
        (all_follow f low os t here gs entry a fit.0 loops.0 both.0 c force
        (homes_less low (sets (branch cs e a b)) (some_sets a) here.granted c.world.locals (λ x on. or_first (some_sets a x) (some_sets b x) on) new)
        (holds_less q.facts s f (live (branch cs e a b) os t) (all_live a os t) c
        (λ n on. or_second (uses e n) (all_live a os t n || all_live b os t n) (or_first (all_live a os t n) (all_live b os t n) on)) h))
        (all_follow f low os t here gs entry b fit.1 loops.1 both.1 c force
        (homes_less low (sets (branch cs e a b)) (some_sets b) here.granted c.world.locals (λ x on. or_second (some_sets a x) (some_sets b x) on) new)
        (holds_less q.facts s f (live (branch cs e a b) os t) (all_live b os t) c
        (λ n on. or_second (uses e n) (all_live a os t n || all_live b os t n) (or_second (all_live a os t n) (all_live b os t n) on)) h))) where
          arms : Asks (is_met q.facts s.variables c.temps c.world e) cs None → Follows (AllRun here gs a c) (run.exec_all q deeper s.variables here a c)
              → Follows (AllRun here gs b c) (run.exec_all q deeper s.variables here b c)
              → Follows (Runs here gs (branch cs e a b) c)
              (if is_nonzero (run.total_in q deeper s.variables c e) then run.exec_all q deeper s.variables here a c else run.exec_all q deeper s.variables here b c)
          arms asks first other = on_test (is_nonzero (run.total_in q deeper s.variables c e))
              (λ yes. subst (λ x. Follows (Runs here gs (branch cs e a b) c) (if x then run.exec_all q deeper s.variables here a c else run.exec_all q deeper s.variables here b c)) (sym yes)
              (branch_follows here gs cs e a b a c _ (λ o r. seg.first_arm asks yes r) first))
              (λ none. subst (λ x. Follows (Runs here gs (branch cs e a b) c) (if x then run.exec_all q deeper s.variables here a c else run.exec_all q deeper s.variables here b c)) (sym none)
              (branch_follows here gs cs e a b b c _ (λ o r. seg.other_arm asks none r) other))
    statement_follows f low os t here gs entry (repeat l ss) fit loops among c force new h = on_test (loop_inside q.facts (record here { granted = gs }) l c.world)
        (λ inside.
        let all = in_loop q.facts here l c.world in
        let own = own_loop q.facts (record here { granted = gs }) l c.world in
        let inner = loop_force f low os l ss fit.0 loops.0 here gs entry c (all_live ss os no_temporaries) force h inside in
        head_follows q fits reached deeper deep g s short f low os t l ss fit.0 fit.1 loops.0 loops.1 among here gs entry c force h inside
        (λ d hd kept. all_follow f l.declared os no_temporaries all own.granted
        (record { arguments = entry.arguments; memory = entry.memory; enters = entry.enters; same = entry.same }) ss fit.1 loops.1 among d
        (force_more q.facts l.declared all own.granted (blocks c) (blocks d) kept.memory.blocks.more inner)
        (new_in_loop q.facts s f os low l ss fit.0 all.granted (all_live ss os no_temporaries) d hd) hd)
        (λ d hd kept. all_done q fits deeper keeps s short f l.declared os no_temporaries all inner.all_below ss fit.1 d
        (counted_more all.granted (blocks c) (blocks d) kept.memory.blocks.more inner.all_counted) (new_in_loop q.facts s f os low l ss fit.0 all.granted (all_live ss os no_temporaries) d hd) hd)
        None c h (kept_none q.facts all.granted (some_sets ss) (some_temps ss) c) first_time)
        (λ outside. goes_wrong _ (seg.set_outside outside))
    statement_follows f low os t here gs entry (around ss) fit loops among c force new h =
        block_follows here gs ss c _ (all_follow f low (t ∷ os) t here gs entry ss fit loops among c force new h)
    statement_follows f low os t here gs entry (scope ys ss) fit loops among c force new h =
        let d = in_world c (entered q.facts s.variables ys c.world) in
        let opened = opens_all q.facts s short (all_live ss os t) f low ys fit.0 c h in
        scope_follows here gs ys ss c (entered q.facts s.variables ys c.world) (opens q.facts s.variables ys c.world) _
        (all_follow (with_names ys f) low os t here gs entry ss fit.1 loops among d (force_more q.facts low here gs (blocks c) (blocks d) opened.there.more force)
        (new_inside q fits deeper keeps s short f low here.granted ys (all_live ss os t) c d (some_sets ss) opened force.all_counted new) opened.holds)

    pub all_follow : (f : InScope) (low : ℕ) (os : List Temporaries) (t : Temporaries) (here : Here) (gs : List Granted) → EntryIs q.facts g here → (ss : Steps)
        → FitsSteps q.facts s q.functions f low os t ss → AllLoopSets q.facts s g f ss → all_among reached ss ≡ true → (c : CoreWorld) → InForce q.facts low here gs (blocks c)
        → NewHomes low (some_sets ss) here.granted c.world.locals → Holds q.facts s f (all_live ss os t) c → Follows (AllRun here gs ss c) (run.exec_all q deeper s.variables here ss c)
    all_follow f low os t here gs entry end fit loops among c force new h = goes_so seg.none
    all_follow f low os t here gs entry (then_ a ss) fit loops among c force new h =
        let both = and_parts (calls_among reached a) (all_among reached ss) among in
        let first = homes_less low (some_sets (then_ a ss)) (sets a) here.granted c.world.locals (λ x on. or_first (sets a x) (some_sets ss x) on) new in
        let rest = homes_less low (some_sets (then_ a ss)) (some_sets ss) here.granted c.world.locals (λ x on. or_second (sets a x) (some_sets ss x) on) new in
        then_follows here gs a ss c f os (all_live ss os t) here.granted (sets a) (temps a) _
        (statement_follows f low os (all_live ss os t) here gs entry a fit.0 loops.0 both.0 c force first h)
        (statement_done q fits deeper keeps s short f low os (all_live ss os t) here force.all_below a fit.0 c force.all_counted first h)
        (λ d hd kept. all_follow f low os t here gs entry ss fit.1 loops.1 both.1 d (force_more q.facts low here gs (blocks c) (blocks d) kept.memory.blocks.more force)
        (homes_stay q.facts low (some_sets ss) here.granted here.granted (sets a) (temps a) c d kept rest) hd)

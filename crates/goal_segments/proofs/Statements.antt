-- Each statement is followed.
use Rattle.std.proofs.Common.{◌≡◌, ℕ, zero, suc, ◌≤◌, ℤ, Bool, true, false, ◌&&◌, if◌then◌else◌, List, [], ◌∷◌, map, Option, Some, None, refl, sym, ap, ◌∙◌, subst, arith}
use Rattle.std.specs.List.{list_all}
use Rattle.std.proofs.lemmas.Bool.{and_parts}
use Rattle.wp_base.specs.Blocks.{count}
use Rattle.typed_prog.specs.Tree as tree
use Rattle.c_runs.specs.TruthStates.{Value, number}
use Rattle.c_runs.specs.Program.{Variable, Function, Loop, Program}
use Rattle.c_runs.specs.States.{Memory, World, Here, Granted, is_nonzero}
use Rattle.c_runs.specs.Claims.{Stop, required, decreased, measure_of, at_entry, in_loop, here_in, granted_in, parts_of}
use Rattle.c_runs.specs.Scopes.{entered}
use Rattle.c_runs.specs.Calls.{Eval, gives, stops, unless, turn_by, entered_by, found as found_by}
use Rattle.c_runs.specs.CoreRun.{CoreWorld, Ending, goes_on, exits, returns, stopped, then_do, with_eval, in_world, scope_end, begun, block_end}
use Rattle.c_runs.specs.Checks.{Check}
use Rattle.c_runs.specs.Tests.{is_met}
use Rattle.c_runs.specs.Tree.{Goal, nowhere, temporary, Step, set, store, start, call, branch, repeat, around, exit, give, claim, scope, Steps, end, then_}
use Rattle.c_runs.specs.CheckedRun as run
use Rattle.c_runs.specs.CheckedRun.{is_met_in}
use Rattle.goal_segments.specs.RunSegments.{Asks, stopped_in, by_exit, by_return, by_stop}
use Rattle.plain_runs.specs.Told.{State, memory_in, world_in, core_in, is_integer, scope_state, scope_contents}
use Rattle.plain_runs.proofs.Told.{enters_scope}
use Rattle.plain_runs.specs.Fitting.{IsGood, Shape, sizes, Fit, AreOf, with_names, by_temporary, Calls, for_none, for_nothing, for_result, FitsStep, FitsSteps, FitsProgram}
use Rattle.plain_runs.specs.Kept.{AllBelow, sets, temps, some_sets, some_temps, IsScoped, Kept, Returned, Comes}
use Rattle.plain_runs.specs.Laws.{Keeps}
use Rattle.plain_runs.proofs.Sets.{loop_below}
use Rattle.plain_runs.proofs.Keeping.{kept_none}
use Rattle.plain_runs.proofs.Scopes.{on_bool, enters}
use Rattle.plain_runs.proofs.Statements.{behind_same, statement_done, all_done}
use Rattle.plain_runs.proofs.Cells.{clean_of}
use Rattle.goal_segments.specs.Sets.{own_loop, loop_inside, call_inside}
use Rattle.goal_segments.specs.Segments as seg
use Rattle.goal_segments.specs.Segments.{BehindCall, no_deeper, Seg, AllSeg}
use Rattle.goal_segments.specs.Laws.{calls_among, all_among, NoneFails}
use Rattle.goal_segments.proofs.Including.{Agrees, loop_agrees, own_below}
use Rattle.goal_segments.proofs.Singles.{single_same, result_same}
use Rattle.goal_segments.proofs.Following.{IsSpent, Follows, goes_wrong, goes_so, spends, asks_or, block_ends, block_spent, then_spent, scope_spent, opens}
use Rattle.goal_segments.proofs.Deep.{HeadWay, first_time, Deep}
use Rattle.goal_segments.proofs.Loops.{head_follows}
use Rattle.goal_segments.proofs.Calls.{Called, is_spent, is_back, turn_called}

module _ (q : Program Steps) (fits : FitsProgram q) (m : Memory) (good : IsGood q.facts m) (reached : ℕ → Bool) (none_fails : NoneFails q reached)
    (deeper : run.Deeper) (keeps : Keeps q fits m deeper) (deep : Deep q fits m reached deeper) (s : Shape) (integers : list_all is_integer s.variables ≡ true) where
  abbrev at_state : (n : ℕ) (vs : List Value) → State → CoreWorld
  at_state n vs st = core_in (sizes q.facts s) m n vs st

  abbrev Runs : (here : Here) → List Granted → Step → CoreWorld → Ending → Type 0
  Runs here gs a c = Seg q s.variables (record here { granted = gs }) a c

  abbrev AllRun : (here : Here) → List Granted → Steps → CoreWorld → Ending → Type 0
  AllRun here gs ss c = AllSeg q s.variables (record here { granted = gs }) ss c

  -- ---- one inside of another

  branch_follows : (here : Here) (gs : List Granted) (cs : List Check) (e : tree.Value) (a b : Steps) (c : CoreWorld) (o : Ending) → ((o : Ending) → AllRun here gs a c o → Runs here gs (branch cs e a b) c o)
      → Follows (AllRun here gs a c) o → Follows (Runs here gs (branch cs e a b) c) o
  branch_follows here gs cs e a b c o arm (goes_wrong x r) = goes_wrong x (arm (stopped x) r)
  branch_follows here gs cs e a b c o arm (goes_so r) = goes_so (arm o r)
  branch_follows here gs cs e a b c o arm (spends h) = spends h

  other_follows : (here : Here) (gs : List Granted) (cs : List Check) (e : tree.Value) (a b : Steps) (c : CoreWorld) (o : Ending) → ((o : Ending) → AllRun here gs b c o → Runs here gs (branch cs e a b) c o)
      → Follows (AllRun here gs b c) o → Follows (Runs here gs (branch cs e a b) c) o
  other_follows here gs cs e a b c o arm (goes_wrong x r) = goes_wrong x (arm (stopped x) r)
  other_follows here gs cs e a b c o arm (goes_so r) = goes_so (arm o r)
  other_follows here gs cs e a b c o arm (spends h) = spends h

  block_follows : (here : Here) (gs : List Granted) (ss : Steps) (c : CoreWorld) (o : Ending) → Follows (AllRun here gs ss c) o → Follows (Runs here gs (around ss) c) (block_end o)
  block_follows here gs ss c o (goes_wrong x r) = goes_wrong x (seg.blocks r stopped_in)
  block_follows here gs ss c o (goes_so r) = goes_so (seg.blocks r (block_ends o))
  block_follows here gs ss c o (spends h) = spends (block_spent o h)

  scope_follows : (here : Here) (gs : List Granted) (ys : List ℕ) (ss : Steps) (c : CoreWorld) (w : World) → seg.Opened q.facts s.variables ys c.world w → (o : Ending)
      → Follows (AllRun here gs ss (in_world c w)) o → Follows (Runs here gs (scope ys ss) c) (scope_end c.world.memory ys o)
  scope_follows here gs ys ss c w opened o (goes_wrong x r) = goes_wrong x (seg.scopes opened r)
  scope_follows here gs ys ss c w opened o (goes_so r) = goes_so (seg.scopes opened r)
  scope_follows here gs ys ss c w opened o (spends h) = spends (scope_spent c.world.memory ys o h)

  -- ---- calls

  -- where its result goes
  result_follows : (f : ℕ → Bool) (low : ℕ) (here : Here) (gs : List Granted) → Agrees q.facts gs here.granted → (to : Goal) (cs : List Check) (k l : ℕ) (es : tree.Values) (g : Function Steps) → q.functions k ≡ Some g
      → ((v : Value) (c : CoreWorld) → run.result_to q no_deeper s.variables (record here { granted = gs }) to v c ≡ run.result_to q deeper s.variables here to v c)
      → (n : ℕ) (vs : List Value) (st : State) (zs : List ℤ) → run.totals_in q no_deeper s.variables (at_state n vs st) es ≡ map number zs → Asks (is_met_in q.facts s.variables (at_state n vs st).temps (at_state n vs st).world es) cs None
      → required q.facts l (at_entry q.facts (map number zs) (world_in (sizes q.facts s) m n vs st).memory) g.contract ≡ None
      → decreased q.facts l here k (measure_of q.facts (at_entry q.facts (map number zs) (world_in (sizes q.facts s) m n vs st).memory) g.contract.decreases) ≡ None
      → call_inside q.facts gs (granted_in q.facts (at_entry q.facts (map number zs) (world_in (sizes q.facts s) m n vs st).memory) (count m.blocks) (parts_of g.contract)) ≡ true
      → (o : Eval) → Called q s m k g zs here f st o
      → Follows (Runs here gs (call cs to k l es) (at_state n vs st)) (with_eval o (λ v w. run.result_to q deeper s.variables here to v (in_world (at_state n vs st) w)))
  result_follows f low here gs agrees to cs k l es g found results n vs st zs same asks asked lower inside (stops x) is_spent = spends tt
  result_follows f low here gs agrees to cs k l es g found results n vs st zs same asks asked lower inside (gives v u) (is_back n' vs' after way result kept behind) =
      goes_so (seg.returns_from {v = v} {u = u} asks found (ap (λ ws. required q.facts l (at_entry q.facts ws (world_in (sizes q.facts s) m n vs st).memory) g.contract) same ∙ asked)
      (ap (λ ws. decreased q.facts l here k (measure_of q.facts (at_entry q.facts ws (world_in (sizes q.facts s) m n vs st).memory) g.contract.decreases)) same ∙ lower)
      (ap (λ ws. call_inside q.facts gs (granted_in q.facts (at_entry q.facts ws (world_in (sizes q.facts s) m n vs st).memory) (count m.blocks) (parts_of g.contract))) same ∙ inside)
      (subst (λ ws. BehindCall q.facts k g ws (world_in (sizes q.facts s) m n vs st) v u) (sym same) (subst (λ x. BehindCall q.facts k g (map number zs) (world_in (sizes q.facts s) m n vs st) v x) (sym way)
      (record { good = behind.good; blocks = behind.blocks; changes = behind.changes; locals = behind.locals; result = behind.result; promises = behind.promises })))
      (results v (in_world (at_state n vs st) u)))

  call_follows : (f : ℕ → Bool) (low : ℕ) (here : Here) (gs : List Granted) → Agrees q.facts gs here.granted → (to : Goal) (cs : List Check) (k l : ℕ) (es : tree.Values) (g : Function Steps) → q.functions k ≡ Some g → reached k ≡ true
      → ((v : Value) (c : CoreWorld) → run.result_to q no_deeper s.variables (record here { granted = gs }) to v c ≡ run.result_to q deeper s.variables here to v c)
      → (n : ℕ) (vs : List Value) (st : State) → Fit q.facts s st → IsScoped q.facts s f st
      → (list_all (is_met_in q.facts s.variables (at_state n vs st).temps (at_state n vs st).world es) cs ≡ true → (zs : List ℤ) × (run.totals_in q no_deeper s.variables (at_state n vs st) es ≡ map number zs) × AreOf q.facts g.variables g.params zs)
      → Follows (Runs here gs (call cs to k l es) (at_state n vs st)) (run.exec q deeper s.variables here (call cs to k l es) (at_state n vs st))
  call_follows f low here gs agrees to cs k l es g found among results n vs st fit scoped args =
      asks_or (Follows (Runs here gs (call cs to k l es) (at_state n vs st))) cs _ _ (λ x a. goes_so (seg.argument_stops a))
      (λ asks met. let zs = args met in go zs.0 zs.1 zs.2 asks) where
        go : (zs : List ℤ) → run.totals_in q no_deeper s.variables (at_state n vs st) es ≡ map number zs → AreOf q.facts g.variables g.params zs
            → Asks (is_met_in q.facts s.variables (at_state n vs st).temps (at_state n vs st).world es) cs None
            → Follows (Runs here gs (call cs to k l es) (at_state n vs st))
            (with_eval (run.calls q deeper here k l (run.totals_in q deeper s.variables (at_state n vs st) es) (world_in (sizes q.facts s) m n vs st)) (λ v w. run.result_to q deeper s.variables here to v (in_world (at_state n vs st) w)))
        go zs same fits_args asks =
            subst (λ ws. Follows (Runs here gs (call cs to k l es) (at_state n vs st)) (with_eval (run.calls q deeper here k l ws (world_in (sizes q.facts s) m n vs st)) (λ v w. run.result_to q deeper s.variables here to v (in_world (at_state n vs st) w)))) (sym same)
            (subst (λ o. Follows (Runs here gs (call cs to k l es) (at_state n vs st))
            (with_eval (found_by q.facts (λ f here w. run.returned f (deeper (run.body f) here (begun w))) here k l o (map number zs) (world_in (sizes q.facts s) m n vs st)) (λ v w. run.result_to q deeper s.variables here to v (in_world (at_state n vs st) w)))) (sym found)
            (asked_by (required q.facts l (at_entry q.facts (map number zs) (world_in (sizes q.facts s) m n vs st).memory) g.contract) refl)) where
              lower_by : required q.facts l (at_entry q.facts (map number zs) (world_in (sizes q.facts s) m n vs st).memory) g.contract ≡ None → (t : Option Stop)
                  → decreased q.facts l here k (measure_of q.facts (at_entry q.facts (map number zs) (world_in (sizes q.facts s) m n vs st).memory) g.contract.decreases) ≡ t → Follows (Runs here gs (call cs to k l es) (at_state n vs st)) (with_eval (unless t (turn_by n (world_in (sizes q.facts s) m n vs st) (entered_by q.facts (λ f here w. run.returned f (deeper (run.body f) here (begun w))) g (here_in q.facts k (map number zs) (world_in (sizes q.facts s) m n vs st).memory g.contract here.granted) (map number zs)))) (λ v w. run.result_to q deeper s.variables here to v (in_world (at_state n vs st) w)))
              lower_by asked (Some x) h =
                  goes_so (seg.not_lower asks found (ap (λ ws. required q.facts l (at_entry q.facts ws (world_in (sizes q.facts s) m n vs st).memory) g.contract) same ∙ asked)
                  (ap (λ ws. decreased q.facts l here k (measure_of q.facts (at_entry q.facts ws (world_in (sizes q.facts s) m n vs st).memory) g.contract.decreases)) same ∙ h))
              lower_by asked None h = on_bool (call_inside q.facts gs (granted_in q.facts (at_entry q.facts (map number zs) (world_in (sizes q.facts s) m n vs st).memory) (count m.blocks) (parts_of g.contract)))
                  (λ inside. result_follows f low here gs agrees to cs k l es g found results n vs st zs same asks asked h inside (turn_by n (world_in (sizes q.facts s) m n vs st) (entered_by q.facts (λ f here w. run.returned f (deeper (run.body f) here (begun w))) g (here_in q.facts k (map number zs) (world_in (sizes q.facts s) m n vs st).memory g.contract here.granted) (map number zs)))
                  (turn_called q fits m good reached none_fails deeper keeps deep s here gs agrees f st fit scoped k g found among zs fits_args l asked inside n vs))
                  (λ outside. goes_wrong _ (seg.call_outside asks found (ap (λ ws. required q.facts l (at_entry q.facts ws (world_in (sizes q.facts s) m n vs st).memory) g.contract) same ∙ asked)
                  (ap (λ ws. decreased q.facts l here k (measure_of q.facts (at_entry q.facts ws (world_in (sizes q.facts s) m n vs st).memory) g.contract.decreases)) same ∙ h)
                  (ap (λ ws. call_inside q.facts gs (granted_in q.facts (at_entry q.facts ws (world_in (sizes q.facts s) m n vs st).memory) (count m.blocks) (parts_of g.contract))) same ∙ outside)))

              asked_by : (t : Option Stop) → required q.facts l (at_entry q.facts (map number zs) (world_in (sizes q.facts s) m n vs st).memory) g.contract ≡ t
                  → Follows (Runs here gs (call cs to k l es) (at_state n vs st)) (with_eval (unless t (unless (decreased q.facts l here k (measure_of q.facts (at_entry q.facts (map number zs) (world_in (sizes q.facts s) m n vs st).memory) g.contract.decreases)) (turn_by n (world_in (sizes q.facts s) m n vs st) (entered_by q.facts (λ f here w. run.returned f (deeper (run.body f) here (begun w))) g (here_in q.facts k (map number zs) (world_in (sizes q.facts s) m n vs st).memory g.contract here.granted) (map number zs))))) (λ v w. run.result_to q deeper s.variables here to v (in_world (at_state n vs st) w)))
              asked_by (Some x) h = goes_so (seg.not_required asks found (ap (λ ws. required q.facts l (at_entry q.facts ws (world_in (sizes q.facts s) m n vs st).memory) g.contract) same ∙ h))
              asked_by None h = lower_by h (decreased q.facts l here k (measure_of q.facts (at_entry q.facts (map number zs) (world_in (sizes q.facts s) m n vs st).memory) g.contract.decreases)) refl

  -- ---- statements

  single_follows : (f : ℕ → Bool) (low : ℕ) (here : Here) (gs : List Granted) → Agrees q.facts gs here.granted → (a : Step) → FitsStep q.facts s q.functions f low a → seg.is_single a ≡ true → (c : CoreWorld)
      → Follows (Runs here gs a c) (run.exec q deeper s.variables here a c)
  single_follows f low here gs agrees a h is c = goes_so (seg.single is (single_same q fits.globals s integers here gs agrees deeper f low a h is c))

  -- what comes behind a statement
  then_follows : (here : Here) (gs : List Granted) (a : Step) (ss : Steps) (c : CoreWorld) (K : State → Type 0) (R : Value → State → Type 0) (o : Ending) → Follows (Runs here gs a c) o → Comes q.facts s m K R o
      → ((n : ℕ) (vs : List Value) (mid : State) → K mid → Follows (AllRun here gs ss (at_state n vs mid)) (run.exec_all q deeper s.variables here ss (at_state n vs mid)))
      → Follows (AllRun here gs (then_ a ss) c) (then_do o (run.exec_all q deeper s.variables here ss))
  then_follows here gs a ss c K R o (goes_wrong x r) h next = goes_wrong x (seg.stays r by_stop)
  then_follows here gs a ss c K R o (spends r) h next = spends (then_spent o _ r)
  then_follows here gs a ss c K R (goes_on d) (goes_so r) h next =
      subst (λ d. Follows (AllRun here gs (then_ a ss) c) (run.exec_all q deeper s.variables here ss d)) (sym h.same)
      (behind (run.exec_all q deeper s.variables here ss (at_state h.turns h.contents h.state)) (next h.turns h.contents h.state h.so)) where
        first : Runs here gs a c (goes_on (at_state h.turns h.contents h.state))
        first = subst (λ d. Runs here gs a c (goes_on d)) h.same r

        behind : (o : Ending) → Follows (AllRun here gs ss (at_state h.turns h.contents h.state)) o → Follows (AllRun here gs (then_ a ss) c) o
        behind o (goes_wrong x t) = goes_wrong x (seg.goes first t)
        behind o (goes_so t) = goes_so (seg.goes first t)
        behind o (spends t) = spends t
  then_follows here gs a ss c K R (exits k d) (goes_so r) h next = goes_so (seg.stays r by_exit)
  then_follows here gs a ss c K R (returns v d) (goes_so r) h next = goes_so (seg.stays r by_return)
  then_follows here gs a ss c K R (stopped x) (goes_so r) h next = goes_so (seg.stays r by_stop)

  mutual
    pub statement_follows : (f : ℕ → Bool) (low : ℕ) (here : Here) (gs : List Granted) → Agrees q.facts gs here.granted → AllBelow low gs → AllBelow low here.granted → (a : Step) → FitsStep q.facts s q.functions f low a
        → calls_among reached a ≡ true → (n : ℕ) (vs : List Value) (st : State) → Fit q.facts s st → IsScoped q.facts s f st → Follows (Runs here gs a (at_state n vs st)) (run.exec q deeper s.variables here a (at_state n vs st))
    statement_follows f low here gs agrees below deep_below (set cs i e) h among n vs st fit scoped = single_follows f low here gs agrees (set cs i e) h refl (at_state n vs st)
    statement_follows f low here gs agrees below deep_below (store cs type l path es) h among n vs st fit scoped = single_follows f low here gs agrees (store cs type l path es) h refl (at_state n vs st)
    statement_follows f low here gs agrees below deep_below (start cs x e) h among n vs st fit scoped = single_follows f low here gs agrees (start cs x e) h refl (at_state n vs st)
    statement_follows f low here gs agrees below deep_below (exit k) h among n vs st fit scoped = single_follows f low here gs agrees (exit k) h refl (at_state n vs st)
    statement_follows f low here gs agrees below deep_below (give cs e) h among n vs st fit scoped = single_follows f low here gs agrees (give cs e) h refl (at_state n vs st)
    statement_follows f low here gs agrees below deep_below (claim c) h among n vs st fit scoped = single_follows f low here gs agrees (claim c) h refl (at_state n vs st)
    statement_follows f low here gs agrees below deep_below (call cs to k l es) h among n vs st fit scoped = calls h.2 where
      calls : {to : Goal} → Calls q.facts s q.functions f low cs es h.0 to → Follows (Runs here gs (call cs to k l es) (at_state n vs st)) (run.exec q deeper s.variables here (call cs to k l es) (at_state n vs st))
      calls (for_nothing args) = call_follows f low here gs agrees nowhere cs k l es h.0 h.1 among (λ v c. refl) n vs st fit scoped (λ met. args m good n vs st fit met)
      calls (for_none {n = i} args none within) =
          call_follows f low here gs agrees (temporary i) cs k l es h.0 h.1 among (λ v c. result_same q fits.globals s integers here gs agrees deeper f low (s.temp_kind i) (temporary i) (by_temporary within refl) v c) n vs st fit scoped (λ met. args m good n vs st fit met)
      calls {to} (for_result {k = kind} args result receives) =
          call_follows f low here gs agrees to cs k l es h.0 h.1 among (λ v c. result_same q fits.globals s integers here gs agrees deeper f low kind to receives v c) n vs st fit scoped (λ met. args m good n vs st fit met)
    statement_follows f low here gs agrees below deep_below (branch cs e a b) h among n vs st fit scoped =
        let both = and_parts (all_among reached a) (all_among reached b) among in
        asks_or (Follows (Runs here gs (branch cs e a b) (at_state n vs st))) cs _ _ (λ x asks. goes_so (seg.test_stops asks))
        (λ asks met. arms asks (run.total_in q deeper s.variables (at_state n vs st) e) refl (all_follow f low here gs agrees below deep_below a h.0 both.0 n vs st fit scoped) (all_follow f low here gs agrees below deep_below b h.1 both.1 n vs st fit scoped)) where
          arms : Asks (is_met q.facts s.variables (at_state n vs st).temps (at_state n vs st).world e) cs None → (v : Value) → run.total_in q deeper s.variables (at_state n vs st) e ≡ v
              → Follows (AllRun here gs a (at_state n vs st)) (run.exec_all q deeper s.variables here a (at_state n vs st))
              → Follows (AllRun here gs b (at_state n vs st)) (run.exec_all q deeper s.variables here b (at_state n vs st))
              → Follows (Runs here gs (branch cs e a b) (at_state n vs st)) (if is_nonzero v then run.exec_all q deeper s.variables here a (at_state n vs st) else run.exec_all q deeper s.variables here b (at_state n vs st))
          arms asks v same first other = on_bool (is_nonzero v)
              (λ t. subst (λ x. Follows (Runs here gs (branch cs e a b) (at_state n vs st)) (if x then run.exec_all q deeper s.variables here a (at_state n vs st) else run.exec_all q deeper s.variables here b (at_state n vs st))) (sym t)
              (branch_follows here gs cs e a b (at_state n vs st) _ (λ o r. seg.first_arm asks (ap is_nonzero same ∙ t) r) first))
              (λ t. subst (λ x. Follows (Runs here gs (branch cs e a b) (at_state n vs st)) (if x then run.exec_all q deeper s.variables here a (at_state n vs st) else run.exec_all q deeper s.variables here b (at_state n vs st))) (sym t)
              (other_follows here gs cs e a b (at_state n vs st) _ (λ o r. seg.other_arm asks (ap is_nonzero same ∙ t) r) other))
    statement_follows f low here gs agrees below deep_below (repeat l ss) h among n vs st fit scoped = on_bool (loop_inside q.facts (record here { granted = gs }) l (world_in (sizes q.facts s) m n vs st))
        (λ inside. head_follows q fits m good reached deeper deep s integers f low l ss h among here gs agrees below deep_below n vs st fit scoped inside
        (λ n vs st fit scoped. all_follow f l.declared (in_loop q.facts here l w) (own_loop q.facts (record here { granted = gs }) l w).granted (loop_agrees q.facts low here gs l w h.0 agrees below inside)
        (own_below q.facts here gs l w low h.0 below) (loop_below q.facts here l w low h.0 deep_below) ss h.2 among n vs st fit scoped)
        (λ n vs st fit scoped. all_done q fits m good deeper keeps s integers f l.declared (in_loop q.facts here l w) (loop_below q.facts here l w low h.0 deep_below) ss h.2 n vs st fit scoped)
        None n vs st (kept_none q.facts s (in_loop q.facts here l w).granted (some_sets ss) (some_temps ss) f st fit scoped) first_time)
        (λ outside. goes_wrong _ (seg.set_outside outside)) where
          w : World
          w = world_in (sizes q.facts s) m n vs st
    statement_follows f low here gs agrees below deep_below (around ss) h among n vs st fit scoped =
        block_follows here gs ss (at_state n vs st) _ (all_follow f low here gs agrees below deep_below ss h among n vs st fit scoped)
    statement_follows f low here gs agrees below deep_below (scope ys ss) h among n vs st fit scoped =
        let size = fit.size in
        let begins = enters q.facts s integers (count m.blocks) f low ys h.0 vs st fit scoped in
        let inner = scope_state q.facts s.variables (count m.blocks) ys vs st in
        let contents = scope_contents q.facts s.variables (count m.blocks) ys vs in
        let way : in_world (at_state n vs st) (entered q.facts s.variables ys (world_in (sizes q.facts s) m n vs st)) ≡ at_state n contents inner =
        ap (in_world (at_state n vs st)) (enters_scope q.facts s.variables integers m n ys vs st (omega (arith, size)))
        ∙ behind_same q fits m good deeper keeps s integers n n vs contents st inner begins.spares.temps in
        scope_follows here gs ys ss (at_state n vs st) (entered q.facts s.variables ys (world_in (sizes q.facts s) m n vs st)) (opens q.facts s.variables integers ys (world_in (sizes q.facts s) m n vs st)) _
        (subst (λ c. Follows (AllRun here gs ss c) (run.exec_all q deeper s.variables here ss c)) (sym way) (all_follow (with_names ys f) low here gs agrees below deep_below ss h.1 among n contents inner begins.fit begins.scoped))

    pub all_follow : (f : ℕ → Bool) (low : ℕ) (here : Here) (gs : List Granted) → Agrees q.facts gs here.granted → AllBelow low gs → AllBelow low here.granted → (ss : Steps) → FitsSteps q.facts s q.functions f low ss
        → all_among reached ss ≡ true → (n : ℕ) (vs : List Value) (st : State) → Fit q.facts s st → IsScoped q.facts s f st → Follows (AllRun here gs ss (at_state n vs st)) (run.exec_all q deeper s.variables here ss (at_state n vs st))
    all_follow f low here gs agrees below deep_below end h among n vs st fit scoped = goes_so seg.none
    all_follow f low here gs agrees below deep_below (then_ a ss) h among n vs st fit scoped =
        let both = and_parts (calls_among reached a) (all_among reached ss) among in
        then_follows here gs a ss (at_state n vs st) (Kept q.facts s here.granted (sets a) (temps a) f st) (λ v after. Returned q.facts s here.granted v st after) _
        (statement_follows f low here gs agrees below deep_below a h.0 both.0 n vs st fit scoped)
        (statement_done q fits m good deeper keeps s integers f low here deep_below a h.0 n vs st fit scoped)
        (λ n vs mid kept. all_follow f low here gs agrees below deep_below ss h.1 both.1 n vs mid kept.fit kept.scoped)

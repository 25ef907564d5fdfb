-- A call: what goes wrong at it a segment run meets, and where it returns a segment run goes on behind it.
use Rattle.std.proofs.Common.{◌≡◌, ℕ, zero, suc, ◌+◌, ◌<◌, ◌≤◌, ℤ, negsuc, Bool, true, false, ◌&&◌, if◌then◌else◌, List, [], ◌∷◌, ◌++◌, map, length, Option, Some, None, is_some, refl, sym, ap, ◌∙◌, subst, arith}
use Rattle.std.specs.List.{list_all}
use Rattle.std.proofs.lemmas.Bool.{false≢true}
use Rattle.wp_base.specs.declared.kinds.CellKind.{CellKind}
use Rattle.wp_base.specs.declared.kinds.CellKind.TheVariants as cell
use Rattle.wp_base.specs.Blocks.{count}
use Rattle.typed_prog.specs.Tree as tree
use Rattle.c_runs.specs.TruthStates.{Value, number}
use Rattle.c_runs.specs.TruthAllowed.{is_named}
use Rattle.c_runs.specs.Program.{Variable, Facts, Function, Contract, Program}
use Rattle.c_runs.specs.States.{Memory, World, Here, Granted}
use Rattle.c_runs.specs.Operators.{noreturn}
use Rattle.c_runs.specs.Claims.{Stop, spent, undefined, failed, requires, unless_true, required, is_required, decreased, measure_of, at_entry, entered_well, ensured, here_in, granted_in, of_caller, parts_of}
use Rattle.c_runs.specs.Scopes.{arrived}
use Rattle.c_runs.specs.Calls.{Eval, gives, stops, nought, unless, turn_by, back_in, keeps_promises, entered_by, called_by, found as found_by}
use Rattle.c_runs.specs.Entry.{is_value, leads_well, Enters}
use Rattle.c_runs.specs.Run as spelled
use Rattle.c_runs.specs.CoreRun.{CoreWorld, Ending, goes_on, exits, returns, stopped, with_eval, in_world, begun}
use Rattle.c_runs.specs.Checks.{Check}
use Rattle.c_runs.specs.Tree.{Goal, nowhere, Step, call, Steps}
use Rattle.c_runs.specs.CheckedRun as run
use Rattle.goal_segments.specs.RunSegments.{Asks, BodyEnds, behind_call}
use Rattle.goal_segments.specs.RunSegments as segment
use Rattle.plain_runs.specs.Told.{State, Sizes, at, value_slot, world_in, core_in, IsClean, is_integer, entry_state, behind_state}
use Rattle.plain_runs.proofs.Told.{arrives, comes_back}
use Rattle.plain_runs.specs.Fitting.{IsGood, Shape, sizes, Fit, AreOf, is_param, FitsFunction, FitsProgram}
use Rattle.plain_runs.specs.Kept.{AllBelow, may_change_global, IsScoped, KeptFile, Kept, IsResult, Returned, IsAt, Comes}
use Rattle.plain_runs.specs.Laws.{shape, Keeps}
use Rattle.plain_runs.proofs.Sets.{parts_below, below_both, callers_below, entry_below, entry_globals}
use Rattle.plain_runs.proofs.Calls.{more_slots, entry_fits, entry_scoped, call_kept}
use Rattle.plain_runs.proofs.Scopes.{on_bool}
use Rattle.plain_runs.proofs.Cells.{clean_of}
use Rattle.goal_segments.specs.Sets.{call_inside}
use Rattle.goal_segments.specs.Segments as seg
use Rattle.goal_segments.specs.Segments.{BehindCall, no_deeper, Seg, AllSeg, FunctionSeg}
use Rattle.goal_segments.specs.Laws.{NoneFails}
use Rattle.goal_segments.proofs.Including.{Agrees, call_agrees}
use Rattle.goal_segments.proofs.Heads.{same_blocks, good_state, local_same, all_allow}
use Rattle.goal_segments.proofs.Following.{IsSpent, Follows, goes_wrong, goes_so, spends}
use Rattle.goal_segments.proofs.Deep.{Deep}
use Rattle.goal_segments.proofs.Arguments.{arguments_are, numbers_lead}

abbrev eval_world : World → Eval → World
eval_world w (gives v u) = u
eval_world w (stops e) = w

at_any_line : (b : Bool) (l : ℕ) → unless_true b requires l ≡ None → unless_true b requires 0 ≡ None
at_any_line true l h = refl
at_any_line false l h = absurd (false≢true (sym (ap is_some h)))

-- what a call comes to that is asked for nothing wrong: its turns are spent, or the caller goes on behind it
pub data Called (q : Program Steps) (s : Shape) (m : Memory) (k : ℕ) (g : Function Steps) (zs : List ℤ) (here : Here) (f : ℕ → Bool) (st : State) : Eval → Type 0 where
  is_spent : {w : World} → Called q s m k g zs here f st (stops (spent w))
  is_back : {v : Value} {u : World} (n : ℕ) (vs : List Value) (after : State) → u ≡ world_in (sizes q.facts s) m n vs after → IsResult q.facts g.result v
      → Kept q.facts s here.granted (λ x. false) (λ n. false) f st after → BehindCall q.facts k g (map number zs) (world_in (sizes q.facts s) m 0 [] st) v (world_in (sizes q.facts s) m n vs after)
      → Called q s m k g zs here f st (gives v u)

module _ (q : Program Steps) (fits : FitsProgram q) (m : Memory) (good : IsGood q.facts m) (reached : ℕ → Bool) (none_fails : NoneFails q reached)
    (deeper : run.Deeper) (keeps : Keeps q fits m deeper) (deep : Deep q fits m reached deeper)
    (s : Shape) (here : Here) (gs : List Granted) (agrees : Agrees q.facts gs here.granted) (f : ℕ → Bool) (st : State) (fit : Fit q.facts s st) (scoped : IsScoped q.facts s f st)
    (k : ℕ) (g : Function Steps) (e : q.functions k ≡ Some g) (among : reached k ≡ true) (zs : List ℤ) (args : AreOf q.facts g.variables g.params zs) where
  abbrev clean : IsClean m
  clean = clean_of q.facts m good.well

  abbrev callee : Shape
  callee = shape q g (fits.functions k g e)

  abbrev mem : Memory
  mem = (world_in (sizes q.facts s) m 0 [] st).memory

  abbrev there : Here
  there = here_in q.facts k (map number zs) mem g.contract here.granted

  abbrev alone : Here
  alone = here_in q.facts k (map number zs) mem g.contract []

  abbrev first : State
  first = entry_state (sizes q.facts callee).globals zs (more_slots (sizes q.facts callee) callee.temporaries (length zs)) st

  -- the function is entered as it asks for
  enters : (l : ℕ) → required q.facts l (at_entry q.facts (map number zs) mem) g.contract ≡ None → Enters q g (map number zs) mem
  enters l r = record {
    state = (good_state q.facts fits.globals m good s st fit).well;
    arguments = arguments_are q.facts m.blocks g.params g.variables (fits.functions k g e).integers (fits.functions k g e).params zs args;
    required = at_any_line (list_all (is_required q.facts (at_entry q.facts (map number zs) mem)) (parts_of g.contract)) l r;
    pointers = numbers_lead zs;
    cells = (good_state q.facts fits.globals m good s st fit).pointers;
  }

  -- ---- behind the call

  result_of : (r : Option CellKind) (v : Value) → IsResult q.facts r v → (r ≡ None → v ≡ nought) → seg.IsResult q.facts m.blocks r v
  result_of None v h n = n refl
  result_of (Some (cell.Of k)) v h n = (ap (is_value q.facts m.blocks (cell.Of k)) h.1 ∙ h.2, ap leads_well h.1)
  result_of (Some cell.Ptr) v h n = absurd h

  back : (n n' : ℕ) (vs vs' : List Value) (v : Value) (after : State) (u : World) → u ≡ world_in (sizes q.facts callee) m n' vs' after → KeptFile q.facts callee there.granted first after
      → IsResult q.facts g.result v → (g.result ≡ None → v ≡ nought)
      → ensured q.facts alone (behind_call (world_in (sizes q.facts s) m n vs st) u).memory v g.contract ≡ None
      → Called q s m k g zs here f st (gives v (behind_call (world_in (sizes q.facts s) m n vs st) u))
  back n n' vs vs' v after u same file result none promised =
      let behind : behind_call (world_in (sizes q.facts s) m n vs st) u ≡ world_in (sizes q.facts s) m n' vs' (behind_state (sizes q.facts s).globals after st) =
      ap (λ x. behind_call (world_in (sizes q.facts s) m n vs st) x) same
      ∙ ap (eval_world (world_in (sizes q.facts s) m n vs st)) (comes_back (sizes q.facts callee) (sizes q.facts s) refl m clean n n' vs vs' v st after) in
      let kept = call_kept q.facts s callee st fit zs g.params args (fits.functions k g e).params f scoped here.granted there.granted
      (entry_globals q.facts k (map number zs) mem g.contract here.granted) after file (λ x. false) (λ n. false) in
      is_back n' vs' (behind_state (sizes q.facts s).globals after st) behind result kept
      (record {
        good = good_state q.facts fits.globals m good s (behind_state (sizes q.facts s).globals after st) kept.fit;
        blocks = same_blocks m.blocks;
        changes = all_allow q.facts fits.globals m good s (map number zs) (at_entry q.facts (map number zs) mem) (count m.blocks) st (behind_state (sizes q.facts s).globals after st) (parts_of g.contract)
            (λ x l h. changed_by x l h);
        locals = λ x. local_same q.facts fits.globals m good s st (behind_state (sizes q.facts s).globals after st) x (λ l. kept.untouched x l refl);
        result = result_of g.result v result none;
        promises = sym (ap (λ (w : World). ensured q.facts alone w.memory v g.contract) behind) ∙ promised;
      }) where
        kept_there : Kept q.facts s there.granted (λ x. false) (λ n. false) f st (behind_state (sizes q.facts s).globals after st)
        kept_there = call_kept q.facts s callee st fit zs g.params args (fits.functions k g e).params f scoped there.granted there.granted (λ x h. h) after file (λ x. false) (λ n. false)

        some_first : (ps hs : List Granted) (x : ℕ) → may_change_global ps x ≡ false → may_change_global (ps ++ hs) x ≡ false
        some_first [] hs x h = absurd (false≢true (sym h))
        some_first (p ∷ ps) hs x h = on_bool (is_named p.regions (negsuc x))
            (λ t. ap (λ b. b && may_change_global (ps ++ hs) x) t ∙ some_first ps hs x (sym (ap (λ b. b && may_change_global ps x) t) ∙ h))
            (λ t. ap (λ b. b && may_change_global (ps ++ hs) x) t)

        changed_by : (x : ℕ) → x < (sizes q.facts s).globals → may_change_global (granted_in q.facts (at_entry q.facts (map number zs) mem) (count m.blocks) (parts_of g.contract)) x ≡ false
            → at (behind_state (sizes q.facts s).globals after st) (value_slot x) ≡ at st (value_slot x)
        changed_by x l h = kept_there.globals x l (some_first (granted_in q.facts (at_entry q.facts (map number zs) mem) (count m.blocks) (parts_of g.contract)) (map of_caller here.granted) x h)

  -- ---- the body, of which no segment run goes wrong

  module _ (l : ℕ) (asked : required q.facts l (at_entry q.facts (map number zs) mem) g.contract ≡ None) (n : ℕ) (vs : List Value)
      (inside : call_inside q.facts gs (granted_in q.facts (at_entry q.facts (map number zs) mem) (count m.blocks) (parts_of g.contract)) ≡ true)
      (entered : entered_well q.facts (at_entry q.facts (map number zs) mem) g.contract ≡ None) where
    abbrev before : World
    before = world_in (sizes q.facts s) m n vs st

    abbrev Body : Ending → Type 0
    Body = AllSeg q g.variables alone g.body (begun (arrived g.variables (map number zs) before))

    never : (x : Stop) → FunctionSeg q k g (map number zs) before (stops x) → ⊥
    never x h = none_fails k g among e (map number zs) before (enters l asked) x h

    promised : (o : Ending) (v : Value) (u : World) → Body o → BodyEnds g o (gives v u) → (t : Option Stop) → ensured q.facts alone (behind_call before u).memory v g.contract ≡ t
        → ensured q.facts alone (behind_call before u).memory v g.contract ≡ None
    promised o v u body ends None h = h
    promised o v u body ends (Some x) h = absurd (never x (seg.breaks_promise entered body ends h))

    -- what the caller makes of a body that ends so
    resumed : (o : Ending) → Eval
    resumed o = keeps_promises q.facts there g.contract (back_in before (run.returned g o))

    given_back : (o : Ending) (v : Value) (n' : ℕ) (vs' : List Value) (after : State) (c : CoreWorld) → Body o → BodyEnds g o (gives v c.world) → c ≡ core_in (sizes q.facts callee) m n' vs' after
        → KeptFile q.facts callee there.granted first after → IsResult q.facts g.result v → (g.result ≡ None → v ≡ nought)
        → Called q s m k g zs here f st (unless (ensured q.facts alone (behind_call before c.world).memory v g.contract) (gives v (behind_call before c.world)))
    given_back o v n' vs' after c body ends same file result none =
        let kept = promised o v c.world body ends (ensured q.facts alone (behind_call before c.world).memory v g.contract) refl in
        subst (λ t. Called q s m k g zs here f st (unless t (gives v (behind_call before c.world)))) (sym kept)
        (back n n' vs vs' v after c.world (ap (λ (c : CoreWorld). c.world) same) file result none kept)

    ended : (r : Option CellKind) → g.result ≡ r → (o : Ending) (c : CoreWorld) → Body o → (g.result ≡ None → BodyEnds g o (gives nought c.world)) → ((x : CellKind) → g.result ≡ Some x → BodyEnds g o (stops (undefined noreturn g.end)))
        → IsAt q.facts callee m (KeptFile q.facts callee there.granted first) c
        → Called q s m k g zs here f st (keeps_promises q.facts there g.contract (back_in before (spelled.ended r g.end c.world)))
    ended None is o c body void wrong h = given_back o nought h.turns h.contents h.state c body (void is) h.same h.so (subst (λ r. IsResult q.facts r nought) (sym is) refl) (λ i. refl)
    ended (Some x) is o c body void wrong h = absurd (never (undefined noreturn g.end) (seg.goes_wrong entered body (wrong x is)))

    body_called : (o : Ending) → Follows Body o
        → Comes q.facts callee m (KeptFile q.facts callee there.granted first) (λ v after. Returned q.facts callee there.granted v first after) o → Called q s m k g zs here f st (resumed o)
    unfolding resumed
    body_called o (goes_wrong x a) h = absurd (never x (seg.goes_wrong entered a segment.by_stop))
    body_called (goes_on c) (spends a) h = absurd a
    body_called (exits j c) (spends a) h = absurd a
    body_called (returns v c) (spends a) h = absurd a
    body_called (stopped (spent w)) (spends a) h = is_spent
    body_called (stopped (undefined u line)) (spends a) h = absurd a
    body_called (stopped (failed b line)) (spends a) h = absurd a
    body_called (goes_on c) (goes_so a) h = ended g.result refl (goes_on c) c a (λ i. segment.at_brace i) (λ x i. segment.without_result i) h
    body_called (exits j c) (goes_so a) h = ended g.result refl (exits j c) c a (λ i. segment.left_at_brace i) (λ x i. segment.left_without_result i) h
    body_called (returns v c) (goes_so a) h =
        given_back (returns v c) v h.turns h.contents h.state c a segment.by_return h.same h.so.file h.so.result (λ i. subst (λ r. IsResult q.facts r v) i h.so.result)
    body_called (stopped x) (goes_so a) h = absurd (never x (seg.goes_wrong entered a segment.by_stop))

    entered_called : Called q s m k g zs here f st (keeps_promises q.facts there g.contract (back_in before (run.returned g (deeper (run.body g) there (begun (arrived g.variables (map number zs) before))))))
    unfolding resumed
    entered_called =
        let way = arrives q.facts g.variables (fits.functions k g e).integers (sizes q.facts s) refl m n vs zs (more_slots (sizes q.facts callee) callee.temporaries (length zs)) st enough in
        body_called (deeper (run.body g) there (begun (arrived g.variables (map number zs) before))) (subst (λ c. Follows (AllSeg q g.variables alone g.body c) (deeper (run.body g) there c)) (sym way)
        (deep.body k g e among there alone.granted inside_agrees (below_both 0 own [] own_below tt) all_below n vs first begins.0 begins.1))
        (subst (λ c. Comes q.facts callee m (KeptFile q.facts callee there.granted first) (λ v after. Returned q.facts callee there.granted v first after) (deeper (run.body g) there c)) (sym way)
        (keeps.body k g e there all_below n vs first begins.0 begins.1)) where
          own : List Granted
          own = granted_in q.facts (at_entry q.facts (map number zs) mem) (count m.blocks) (parts_of g.contract)

          enough : length zs ≤ length g.variables
          enough = let a = args.0 in let b = (fits.functions k g e).params in omega (arith, a, b)

          begins : Fit q.facts callee first × IsScoped q.facts callee (is_param g.params) first
          begins = (entry_fits q.facts s callee st fit zs g.params args (fits.functions k g e).params, entry_scoped q.facts s callee st fit zs g.params args (fits.functions k g e).params)

          own_below : AllBelow 0 own
          own_below = parts_below q.facts (at_entry q.facts (map number zs) mem) (count m.blocks) (parts_of g.contract)

          all_below : AllBelow 0 there.granted
          all_below = entry_below q.facts k (map number zs) mem g.contract here.granted

          inside_agrees : Agrees q.facts alone.granted there.granted
          inside_agrees = call_agrees q.facts gs here.granted own agrees own_below inside

  -- all that is asked behind the turn
  module _ (l : ℕ) (asked : required q.facts l (at_entry q.facts (map number zs) mem) g.contract ≡ None)
      (inside : call_inside q.facts gs (granted_in q.facts (at_entry q.facts (map number zs) mem) (count m.blocks) (parts_of g.contract)) ≡ true) where
    entered_by_called : (n : ℕ) (vs : List Value) → Called q s m k g zs here f st (entered_by q.facts (λ f here w. run.returned f (deeper (run.body f) here (begun w))) g there (map number zs) (world_in (sizes q.facts s) m n vs st))
    entered_by_called n vs = by (entered_well q.facts (at_entry q.facts (map number zs) mem) g.contract) refl where
      by : (t : Option Stop) → entered_well q.facts (at_entry q.facts (map number zs) mem) g.contract ≡ t
          → Called q s m k g zs here f st (unless t (keeps_promises q.facts there g.contract (back_in (world_in (sizes q.facts s) m n vs st)
          (run.returned g (deeper (run.body g) there (begun (arrived g.variables (map number zs) (world_in (sizes q.facts s) m n vs st))))))))
      by None h = entered_called l asked n vs inside h
      by (Some x) h = absurd (none_fails k g among e (map number zs) (world_in (sizes q.facts s) m n vs st) (enters l asked) x (seg.not_entered h))

    pub turn_called : (n : ℕ) (vs : List Value)
        → Called q s m k g zs here f st (turn_by n (world_in (sizes q.facts s) m n vs st) (entered_by q.facts (λ f here w. run.returned f (deeper (run.body f) here (begun w))) g there (map number zs)))
    turn_called zero vs = is_spent
    turn_called (suc n) vs = entered_by_called n vs

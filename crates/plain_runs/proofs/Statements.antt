-- Each statement keeps what it doesn't set, and what the sets in force don't let change.
use Rattle.std.proofs.Common.{◌≡◌, ℕ, ◌<◌, ℤ, pos, Bool, true, false, List, [], map, Option, Some, None, refl, sym, ap, ◌∙◌, subst, arith}
use Rattle.std.specs.Prelude.{◌==◌}
use Rattle.std.specs.List.{list_all}
use Rattle.wp_base.specs.declared.kinds.CellKind.{CellKind}
use Rattle.wp_base.specs.declared.kinds.Kind.{Kind}
use Rattle.wp_base.specs.Blocks.{count}
use Rattle.c_kinds.specs.Models.{holds}
use Rattle.typed_prog.specs.declared.types.CoreType.{CoreType}
use Rattle.typed_prog.specs.declared.operators.Path.{Path}
use Rattle.typed_prog.specs.Tree as tree
use Rattle.c_runs.specs.TruthStates.{Value, number}
use Rattle.c_runs.specs.Program.{Function, Program}
use Rattle.c_runs.specs.States.{Memory, World, Here, is_nonzero}
use Rattle.c_runs.specs.Claims as claims
use Rattle.c_runs.specs.Claims.{Stop, unless_true, in_body, in_loop, may_change_local}
use Rattle.c_runs.specs.Scopes.{entered}
use Rattle.c_runs.specs.Calls.{Eval, gives, stops, nought}
use Rattle.plain_states.specs.Told.{CoreWorld, Ending, goes_on, with_eval, with_temp, in_world, scope_end}
use Rattle.c_runs.specs.CheckedTold.{Check}
use Rattle.c_runs.specs.Tree.{Goal, nowhere, temporary, place, variable, Step, set, store, start, call, branch, repeat, around, exit, give, claim, scope, Steps, end, then_}
use Rattle.c_runs.specs.CheckedRun as run
use Rattle.plain_states.specs.Slots.{State, at, temp_slot, with_temp_slot, memory_in, world_in, core_in}
use Rattle.plain_states.specs.Scopes.{is_integer, scope_state, scope_contents}
use Rattle.plain_states.proofs.Puts.{changes_are_puts}
use Rattle.plain_states.proofs.Scoping.{enters_scope}
use Rattle.plain_runs.specs.Fitting.{IsGood, Shape, sizes, Fit, IsOf, LeadsTo, Stores, with_names, Receives, by_temporary, by_place, by_variable, Calls, for_none, for_nothing, for_result, FitsStep, FitsSteps, FitsProgram}
use Rattle.plain_runs.specs.Kept.{is_local, goal_sets, sets, some_sets, goal_temp, temps, some_temps, AllBelow, IsScoped, Kept, IsResult, Returned}
use Rattle.plain_runs.specs.Laws.{Keeps}
use Rattle.plain_runs.proofs.Cells.{clean_of}
use Rattle.plain_runs.proofs.Sets.{loop_globals, loop_locals, loop_below}
use Rattle.plain_runs.proofs.Keeping.{first_false, second_false, kept_none, kept_more, file_of, block_comes}
use Rattle.plain_runs.proofs.Writes.{temp_kept}
use Rattle.plain_runs.proofs.Scopes.{zero_of, enters}
use Rattle.plain_runs.proofs.Objects.{stores, takes}
use Rattle.plain_runs.proofs.Evals.{Given, call_given}
use Rattle.plain_runs.proofs.Endings.{Ends, asked_ends, ends_more, ends_after, ends_then, ends_unless, ends_if, ends_pass, ends_scope}

abbrev unchanged_sub : {X : Type 0} (f : X → Bool) (x : X) → f x ≡ false → f x ≡ false
unchanged_sub f x h = h

module _ (q : Program Steps) (fits : FitsProgram q) (m : Memory) (good : IsGood q.facts m) (deeper : run.Deeper) (keeps : Keeps q fits m deeper) (s : Shape) (integers : list_all is_integer s.variables ≡ true) where
  abbrev Done : (here : Here) (t u f : ℕ → Bool) → State → Ending → Type 0
  Done here t u f st o = Ends q.facts s m here.granted t u f st o

  abbrev at_state : (n : ℕ) (vs : List Value) → State → CoreWorld
  at_state n vs st = core_in (sizes q.facts s) m n vs st

  -- ---- temporaries

  temp_done : (here : Here) (t f : ℕ → Bool) (n : ℕ) (vs : List Value) (st : State) → Fit q.facts s st → IsScoped q.facts s f st → (i : ℕ) (v : Value) (z : ℤ) → i < s.temporaries
      → v ≡ number z → holds q.facts.model (s.temp_kind i) z ≡ true → Done here t (λ j. i == j) f st (goes_on (with_temp i v (at_state n vs st)))
  temp_done here t f n vs st fit scoped i v z l same k =
      let size = fit.size in
      record {
        turns = n;
        contents = vs;
        state = with_temp_slot (sizes q.facts s) i z st;
        same = ap (λ v. with_temp i v (at_state n vs st)) same ∙ (changes_are_puts (sizes q.facts s) m n vs st).temporary i z (omega (arith, size, l));
        so = temp_kept q.facts s here.granted t f st fit scoped i z l k;
      }

  -- ---- results of calls

  -- in the world behind the call
  pub behind_same : (n n' : ℕ) (vs vs' : List Value) (st after : State) → ((i : ℕ) → at after (temp_slot (sizes q.facts s) i) ≡ at st (temp_slot (sizes q.facts s) i))
      → in_world (at_state n vs st) (world_in (sizes q.facts s) m n' vs' after) ≡ at_state n' vs' after
  behind_same n n' vs vs' st after h = λ i. record { world = world_in (sizes q.facts s) m n' vs' after; temps = λ j. number ((sym (h j)) i) }

  result_done : (here : Here) (f : ℕ → Bool) (low : ℕ) → AllBelow low here.granted → (k : Kind) (to : Goal) → Receives q.facts s f low k to → (n : ℕ) (vs : List Value) (st : State) → Fit q.facts s st → IsScoped q.facts s f st
      → (v : Value) → IsOf q.facts s k v → Done here (goal_sets to) (goal_temp to) f st (run.result_to q deeper s.variables here to v (at_state n vs st))
  result_done here f low below k nowhere none n vs st fit scoped v fits_k = elim none [ ]
  result_done here f low below k (temporary i) (by_temporary l kind) n vs st fit scoped v fits_k =
      temp_done here (goal_sets (temporary i)) f n vs st fit scoped i v fits_k.0 l fits_k.1 (ap (λ k. holds q.facts.model k fits_k.0) kind ∙ fits_k.2)
  result_done here f low below k (place cs type l path es) (by_place way) n vs st fit scoped v fits_k =
      asked_ends (Done here (goal_sets (place cs type l path tree.stop)) (goal_temp (place cs type l path tree.stop)) f st) (λ u l. tt) cs _ _
      (λ met. stores q deeper s fits.globals integers m here (is_local path.root) (λ n. false) f n vs st fit scoped type l path [] k v fits_k.0 way fits_k.1 fits_k.2 (λ i h. h))
  result_done here f low below k (variable x) (by_variable d) n vs st fit scoped v fits_k =
      takes q deeper s fits.globals integers m here (λ i. x == i) (λ n. false) f n vs st fit scoped low below x k v fits_k.0 d fits_k.1 fits_k.2 (λ i h. h)

  -- a call, and where its result goes
  eval_done : (here : Here) (t u f : ℕ → Bool) (r : Option CellKind) (n : ℕ) (vs : List Value) (st : State) (e : Eval) (go : Value → World → Ending) → Given q s m r here f st e
      → ((v : Value) (n' : ℕ) (vs' : List Value) (after : State) → Kept q.facts s here.granted (λ x. false) (λ n. false) f st after → IsResult q.facts r v
      → Done here t u f after (go v (world_in (sizes q.facts s) m n' vs' after))) → Done here t u f st (with_eval e go)
  eval_done here t u f r n vs st (gives v w) go h next =
      let kept = kept_more q.facts s here.granted here.granted t (λ x. false) u (λ n. false) f st h.state (λ x h. h) (λ x h. h) (λ x h. refl) (λ n h. refl) h.kept in
      subst (λ w. Done here t u f st (go v w)) (sym h.same)
      (ends_after q.facts s m here.granted t u f st h.state kept (go v (world_in (sizes q.facts s) m h.turns h.contents h.state)) (next v h.turns h.contents h.state h.kept h.result))
  eval_done here t u f r n vs st (stops x) go h next = tt

  -- ---- statements

  -- a call and its result
  call_done : (here : Here) (f : ℕ → Bool) (low : ℕ) → AllBelow low here.granted → (cs : List Check) (to : Goal) (k l : ℕ) (es : tree.Values) (g : Function Steps) → q.functions k ≡ Some g
      → Calls q.facts s q.functions f low cs es g to → (n : ℕ) (vs : List Value) (st : State) → Fit q.facts s st → IsScoped q.facts s f st
      → Done here (goal_sets to) (goal_temp to) f st (run.exec q deeper s.variables here (call cs to k l es) (at_state n vs st))
  call_done here f low below cs to k l es g found (for_nothing args) n vs st fit scoped =
      asked_ends (Done here (goal_sets nowhere) (goal_temp nowhere) f st) (λ u l. tt) cs _ _ (λ met.
      let zs = args m good n vs st fit met in
      subst (λ ws. Done here (goal_sets nowhere) (goal_temp nowhere) f st (with_eval (run.calls q deeper here k l ws (world_in (sizes q.facts s) m n vs st)) (λ v w. run.result_to q deeper s.variables here nowhere v (in_world (at_state n vs st) w)))) (sym zs.1)
      (eval_done here (goal_sets nowhere) (goal_temp nowhere) f g.result n vs st (run.calls q deeper here k l (map number zs.0) (world_in (sizes q.facts s) m n vs st)) _
      (call_given q fits m good deeper keeps s here f st fit scoped k g found zs.0 zs.2 l n vs)
      (λ v n' vs' after kept result. record {
        turns = n';
        contents = vs';
        state = after;
        same = behind_same n n' vs vs' st after (λ i. kept.temporaries i refl);
        so = kept_none q.facts s here.granted (goal_sets nowhere) (goal_temp nowhere) f after kept.fit kept.scoped;
      })))
  call_done here f low below cs to k l es g found (for_result {k = kind} args result receives) n vs st fit scoped =
      asked_ends (Done here (goal_sets to) (goal_temp to) f st) (λ u l. tt) cs _ _ (λ met.
      let zs = args m good n vs st fit met in
      subst (λ ws. Done here (goal_sets to) (goal_temp to) f st (with_eval (run.calls q deeper here k l ws (world_in (sizes q.facts s) m n vs st)) (λ v w. run.result_to q deeper s.variables here to v (in_world (at_state n vs st) w)))) (sym zs.1)
      (eval_done here (goal_sets to) (goal_temp to) f g.result n vs st (run.calls q deeper here k l (map number zs.0) (world_in (sizes q.facts s) m n vs st)) _
      (call_given q fits m good deeper keeps s here f st fit scoped k g found zs.0 zs.2 l n vs)
      (λ v n' vs' after kept is.
      subst (λ c. Done here (goal_sets to) (goal_temp to) f after (run.result_to q deeper s.variables here to v c)) (sym (behind_same n n' vs vs' st after (λ i. kept.temporaries i refl)))
      (result_done here f low below kind to receives n' vs' after kept.fit kept.scoped v (subst (λ r. IsResult q.facts r v) result is)))))
  call_done here f low below cs to k l es g found (for_none {n = i} args none within) n vs st fit scoped =
      asked_ends (Done here (goal_sets (temporary i)) (goal_temp (temporary i)) f st) (λ u l. tt) cs _ _ (λ met.
      let zs = args m good n vs st fit met in
      subst (λ ws. Done here (goal_sets (temporary i)) (goal_temp (temporary i)) f st (with_eval (run.calls q deeper here k l ws (world_in (sizes q.facts s) m n vs st)) (λ v w. run.result_to q deeper s.variables here (temporary i) v (in_world (at_state n vs st) w)))) (sym zs.1)
      (eval_done here (goal_sets (temporary i)) (goal_temp (temporary i)) f g.result n vs st (run.calls q deeper here k l (map number zs.0) (world_in (sizes q.facts s) m n vs st)) _
      (call_given q fits m good deeper keeps s here f st fit scoped k g found zs.0 zs.2 l n vs)
      (λ v n' vs' after kept is.
      subst (λ c. Done here (goal_sets (temporary i)) (goal_temp (temporary i)) f after (run.result_to q deeper s.variables here (temporary i) v c)) (sym (behind_same n n' vs vs' st after (λ i. kept.temporaries i refl)))
      (result_done here f low below (s.temp_kind i) (temporary i) (by_temporary within refl) n' vs' after kept.fit kept.scoped v (pos 0, subst (λ r. IsResult q.facts r v) none is, zero_of q.facts.model (s.temp_kind i))))))

  -- an assignment
  store_done : (here : Here) (f : ℕ → Bool) (cs : List Check) (type : CoreType) (l : ℕ) (path : Path) (es : tree.Values) (k : Kind) → LeadsTo q.facts s f path k → Stores q.facts s cs type path es k
      → (n : ℕ) (vs : List Value) (st : State) → Fit q.facts s st → IsScoped q.facts s f st
      → Done here (is_local path.root) (λ n. false) f st (run.exec q deeper s.variables here (store cs type l path es) (at_state n vs st))
  store_done here f cs type l path es k way gives_it n vs st fit scoped =
      asked_ends (Done here (is_local path.root) (λ n. false) f st) (λ u l. tt) cs _ _ (λ met.
      let v = gives_it m good n vs st fit met in
      stores q deeper s fits.globals integers m here (is_local path.root) (λ n. false) f n vs st fit scoped type l path _ k _ v.0 way v.1 v.2 (λ i h. h))

  mutual
    pub statement_done : (f : ℕ → Bool) (low : ℕ) (here : Here) → AllBelow low here.granted → (a : Step) → FitsStep q.facts s q.functions f low a → (n : ℕ) (vs : List Value) (st : State) → Fit q.facts s st → IsScoped q.facts s f st
        → Done here (sets a) (temps a) f st (run.exec q deeper s.variables here a (at_state n vs st))
    statement_done f low here below (set cs i e) h n vs st fit scoped =
        asked_ends (Done here (λ x. false) (λ j. i == j) f st) (λ u l. tt) cs _ _ (λ met.
        let v = h.1 m good n vs st fit met in temp_done here (λ x. false) f n vs st fit scoped i _ v.0 h.0 v.1 v.2)
    statement_done f low here below (store cs type l path es) h n vs st fit scoped = store_done here f cs type l path es h.0 h.1 h.2 n vs st fit scoped
    statement_done f low here below (start cs x e) h n vs st fit scoped =
        asked_ends (Done here (λ y. x == y) (λ n. false) f st) (λ u l. tt) cs _ _ (λ met.
        let v = h.2 m good n vs st fit met in
        takes q deeper s fits.globals integers m here (λ y. x == y) (λ n. false) f n vs st fit scoped low below x h.0 _ v.0 h.1 v.1 v.2 (λ i h. h))
    statement_done f low here below (call cs to k l es) h n vs st fit scoped = call_done here f low below cs to k l es h.0 h.1 h.2 n vs st fit scoped
    statement_done f low here below (branch cs e a b) h n vs st fit scoped =
        asked_ends (Done here (sets (branch cs e a b)) (temps (branch cs e a b)) f st) (λ u l. tt) cs _ _ (λ met.
        ends_if q.facts s m here.granted (sets (branch cs e a b)) (temps (branch cs e a b)) f st (is_nonzero (run.total_in q deeper s.variables (at_state n vs st) e)) _ _
        (ends_more q.facts s m here.granted here.granted (sets (branch cs e a b)) (some_sets a) (temps (branch cs e a b)) (some_temps a) f st (λ x h. h) (λ x h. h)
        (λ x h. first_false (some_sets a x) (some_sets b x) h) (λ n h. first_false (some_temps a n) (some_temps b n) h) _ (all_done f low here below a h.0 n vs st fit scoped))
        (ends_more q.facts s m here.granted here.granted (sets (branch cs e a b)) (some_sets b) (temps (branch cs e a b)) (some_temps b) f st (λ x h. h) (λ x h. h)
        (λ x h. second_false (some_sets a x) (some_sets b x) h) (λ n h. second_false (some_temps a n) (some_temps b n) h) _ (all_done f low here below b h.1 n vs st fit scoped)))
    statement_done f low here below (repeat l ss) h n vs st fit scoped =
        let inside = in_loop q.facts here l (world_in (sizes q.facts s) m n vs st) in
        let deep = loop_below q.facts here l (world_in (sizes q.facts s) m n vs st) low h.0 below in
        ends_more q.facts s m here.granted inside.granted (some_sets ss) (some_sets ss) (some_temps ss) (some_temps ss) f st
        (loop_globals q.facts here l (world_in (sizes q.facts s) m n vs st)) (loop_locals q.facts here l (world_in (sizes q.facts s) m n vs st)) (λ x h. h) (λ n h. h) _
        (ends_pass q.facts s m q deeper refl s.variables inside l None (run.exec_all q deeper s.variables inside ss) (λ last. deeper (run.again s.variables l last ss) inside) inside.granted (some_sets ss) (some_temps ss) f
        (λ n vs st fit scoped. all_done f l.declared inside deep ss h.2 n vs st fit scoped)
        (λ v n vs st fit scoped. keeps.again s integers f l.declared l v ss h.2 inside deep n vs st fit scoped) n vs st fit scoped)
    statement_done f low here below (around ss) h n vs st fit scoped =
        block_comes q.facts s m (Kept q.facts s here.granted (some_sets ss) (some_temps ss) f st) (λ v after. Returned q.facts s here.granted v st after) _ (all_done f low here below ss h n vs st fit scoped)
    statement_done f low here below (exit k) h n vs st fit scoped =
        record { turns = n; contents = vs; state = st; same = refl; so = kept_none q.facts s here.granted (λ x. false) (λ n. false) f st fit scoped }
    statement_done f low here below (give cs None) h n vs st fit scoped =
        record {
          turns = n;
          contents = vs;
          state = st;
          same = refl;
          so = record {
            result = subst (λ r. IsResult q.facts r nought) (sym h) refl;
            fit = fit;
            file = file_of q.facts s here.granted (λ x. false) (λ n. false) f st st (kept_none q.facts s here.granted (λ x. false) (λ n. false) f st fit scoped);
          };
        }
    statement_done f low here below (give cs (Some e)) h n vs st fit scoped =
        asked_ends (Done here (λ x. false) (λ n. false) f st) (λ u l. tt) cs _ _ (λ met.
        let v = h.2 m good n vs st fit met in
        record {
          turns = n;
          contents = vs;
          state = st;
          same = refl;
          so = record {
            result = subst (λ r. IsResult q.facts r (run.total_in q deeper s.variables (at_state n vs st) e)) (sym h.1) v;
            fit = fit;
            file = file_of q.facts s here.granted (λ x. false) (λ n. false) f st st (kept_none q.facts s here.granted (λ x. false) (λ n. false) f st fit scoped);
          };
        })
    statement_done f low here below (claim c) h n vs st fit scoped =
        ends_unless q.facts s m here.granted (λ x. false) (λ n. false) f st (unless_true (claims.holds q.facts (in_body q.facts here (world_in (sizes q.facts s) m n vs st)) c.what) claims.assert c.line) _
        (record { turns = n; contents = vs; state = st; same = refl; so = kept_none q.facts s here.granted (λ x. false) (λ n. false) f st fit scoped })
    statement_done f low here below (scope ys ss) h n vs st fit scoped =
        let size = fit.size in
        let inside = scope_state q.facts s.variables (count m.blocks) ys vs st in
        let contents = scope_contents q.facts s.variables (count m.blocks) ys vs in
        let begins = enters q.facts s integers (count m.blocks) f low ys h.0 vs st fit scoped in
        let way : in_world (at_state n vs st) (entered q.facts s.variables ys (world_in (sizes q.facts s) m n vs st)) ≡ at_state n contents inside =
        ap (in_world (at_state n vs st)) (enters_scope q.facts s.variables integers m n ys vs st (omega (arith, size))) ∙ behind_same n n vs contents st inside begins.spares.temps in
        subst (λ c. Done here (some_sets ss) (some_temps ss) f st (scope_end (memory_in (sizes q.facts s) m st) ys (run.exec_all q deeper s.variables here ss c))) (sym way)
        (ends_scope q.facts s m (clean_of q.facts m good.well) here.granted (some_sets ss) (some_temps ss) f low below ys h.0 st inside scoped begins _
        (all_done (with_names ys f) low here below ss h.1 n contents inside begins.fit begins.scoped))

    pub all_done : (f : ℕ → Bool) (low : ℕ) (here : Here) → AllBelow low here.granted → (ss : Steps) → FitsSteps q.facts s q.functions f low ss → (n : ℕ) (vs : List Value) (st : State) → Fit q.facts s st → IsScoped q.facts s f st
        → Done here (some_sets ss) (some_temps ss) f st (run.exec_all q deeper s.variables here ss (at_state n vs st))
    all_done f low here below end h n vs st fit scoped =
        record { turns = n; contents = vs; state = st; same = refl; so = kept_none q.facts s here.granted (λ x. false) (λ n. false) f st fit scoped }
    all_done f low here below (then_ a ss) h n vs st fit scoped =
        ends_then q.facts s m here.granted (some_sets (then_ a ss)) (some_temps (then_ a ss)) f st (run.exec_all q deeper s.variables here ss)
        (λ n vs mid kept. ends_more q.facts s m here.granted here.granted (some_sets (then_ a ss)) (some_sets ss) (some_temps (then_ a ss)) (some_temps ss) f mid (λ x h. h) (λ x h. h)
        (λ x h. second_false (sets a x) (some_sets ss x) h) (λ n h. second_false (temps a n) (some_temps ss n) h) _ (all_done f low here below ss h.1 n vs mid kept.fit kept.scoped)) _
        (ends_more q.facts s m here.granted here.granted (some_sets (then_ a ss)) (sets a) (some_temps (then_ a ss)) (temps a) f st (λ x h. h) (λ x h. h)
        (λ x h. first_false (sets a x) (some_sets ss x) h) (λ n h. first_false (temps a n) (some_temps ss n) h) _ (statement_done f low here below a h.0 n vs st fit scoped))

-- Spelled statements become core statements that set temporaries before they use them.
use Rattle.std.proofs.Common.{◌≡◌, ℕ, zero, suc, ℤ, Bool, true, false, not, ◌&&◌, ◌||◌, if◌then◌else◌, List, [], ◌∷◌, Option, Some, None, refl, sym, ap, ◌∙◌, subst, inl, inr, option_map}
use Rattle.std.specs.Prelude.{◌⊎◌}
use Rattle.std.proofs.lemmas.Bool.{false≢true}
use Rattle.typed_prog.specs.declared.types.CoreType.{CoreType}
use Rattle.typed_prog.specs.declared.operators.Effect.TheVariants as effect
use Rattle.typed_prog.specs.declared.operators.Path.{Path}
use Rattle.typed_prog.specs.Tree as tree
use Rattle.qed_terms.specs.Operators.{is_equal}
use Rattle.c_runs.specs.Program.{Variable, Loop, Function, Stmt, evaluate, block, initial, choose, loop, switch, case_of, default, break, continue, return_of, assert, Stmts, stop, more}
use Rattle.c_runs.specs.Values.{has_effect, have_effect}
use Rattle.c_runs.specs.Run.{updating, is_case, is_default}
use Rattle.c_runs.specs.Core.{Target, nowhere, place, variable, Core, store, start, call, branch, repeat, around, exit, give, Cores, end, then_, join, one}
use Rattle.c_runs.specs.Tree.{Steps}
use Rattle.c_runs.specs.Adding.{goal_of, step_of, function_of}
use Rattle.goal_segments.specs.Told.{goal_temp}
use Rattle.c_runs.specs.Plans.{no_value, Made, Mades, Tests, needs, need, save_if, pure, pures, operands, first_plan, planned, condition, next_of}
use Rattle.c_runs.specs.Normal.{Did, is_temp, is_settled, save_unless, dropped, called_into, called_to, plain_store, stored, effect_of, started, loop_test, loop_step, given, is_label, whole_switch, close, truth_of, label_test, index_of, dispatch, up, loop_body, stmt, stmts, groups, normal_function}
use Rattle.plain_states.proofs.Scoping.{none_some}
use Rattle.plain_states.proofs.Calling.{some_same}
use Rattle.program_steps.specs.Temporaries.{Temporaries, no_temporaries, out_at, uses, some_use, goal_uses, all_live}
use Rattle.plain_normal.proofs.Done.{or_false, on_test}
use Rattle.typed_normal.specs.Order.{KeepsOrder, SetsFirst}
use Rattle.typed_normal.specs.Laws.{TemporariesAreSetFirst}
use Rattle.typed_normal.proofs.Ordered.{Sets, In, With, of_either, of_others, before, Good, join_good, end_good, around_good, MadeOk, MadesOk, save_ok, forks_ok}
use Rattle.typed_normal.proofs.OrderedPlans.{CodeOk, no_more, operands_ok, value_ok, first_ok}

-- ---- no temporaries

abbrev pub Nothing : Sets
Nothing i = ⊥

abbrev pub Outs : List Temporaries → Type 0
Outs os = (k : ℕ) → In (out_at os k) Nothing

outs_up : (u : Temporaries) (os : List Temporaries) → In u Nothing → Outs os → Outs (u ∷ os)
outs_up u os h g zero = h
outs_up u os h g (suc k) = g k

nothing_before : In no_temporaries Nothing
nothing_before i u = false≢true u

module _ (xs : List Variable) where
  -- where nothing is used behind it and behind the blocks around
  abbrev pub GoodFrom : Cores → Sets → Type 0
  GoodFrom cs D = (os : List Temporaries) (t : Temporaries) → Outs os → In t Nothing → Good xs cs os t D

  abbrev pub DidOk : Cores → Type 0
  DidOk cs = GoodFrom cs Nothing

  join_ok : (a b : Cores) → DidOk a → DidOk b → DidOk (join a b)
  join_ok a b ha hb os t outs h = let y = hb os t outs h in join_good xs a b os t Nothing (ha os (before xs b os t) outs y.used) y.order

  -- code, and then a statement that uses its values
  behind : (a : Cores) (U : Temporaries) (s : Core) → CodeOk xs no_temporaries a U
      → ((os : List Temporaries) (t : Temporaries) → Outs os → In t Nothing → In (before xs (one s) os t) (With U Nothing))
      → ((os : List Temporaries) (t : Temporaries) → Outs os → In t Nothing → KeepsOrder os t (step_of xs s)) → DidOk (join a (one s))
  behind a U s h used order os t outs later =
      join_good xs a (one s) os t Nothing (h Nothing nothing_before os (before xs (one s) os t) (used os t outs later)) (order os t outs later, tt)

  used_first : (a b : Bool) {D : Type 0} → (a || b) ≡ true → (b ≡ true → D) → D ⊎ (a ≡ true)
  used_first a b u f = of_either a b u (λ x. inr x) (λ y. inl (f y))

  -- ---- values

  made_did : (m : Made) → MadeOk xs no_temporaries m → DidOk m.before
  made_did m h os t outs later = h Nothing nothing_before os t (λ i u. inl (later i u))

  save_unless_ok : (b : Bool) (m : Made) → MadeOk xs no_temporaries m → MadeOk xs no_temporaries (save_unless b m)
  save_unless_ok true m h = h
  save_unless_ok false m h = save_ok xs no_temporaries m h

  dropped_ok : (m : Made) → MadeOk xs no_temporaries m → DidOk (dropped m).did
  dropped_ok m h = made_did (save_unless (is_temp m.value) m) (save_unless_ok (is_temp m.value) m h)

  planned_ok : (e : tree.Value) (n : ℕ) → MadeOk xs no_temporaries ((planned xs e).made n)
  planned_ok e n = (value_ok xs e).all.made n

  own_operands : (es : tree.Values) (n : ℕ) → MadesOk xs no_temporaries (operands xs es (first_plan xs es) n)
  own_operands es n = operands_ok xs es (first_plan xs es) (first_ok xs es) n

  store_ok : (type : CoreType) (l : ℕ) (path : Path) (y : Mades) → MadesOk xs no_temporaries y → DidOk (plain_store xs type l path y).did
  store_ok type l path y h =
      behind y.before (some_use y.values) (store type l path y.values) h (λ os t outs later i u. used_first (some_use y.values i) (t i) u (later i)) (λ os t outs later. tt)

  call_ok : (to : Target) (l f : ℕ) (y : Mades) → In (goal_uses (goal_of xs to)) Nothing → MadesOk xs no_temporaries y → DidOk (called_into to l f y).did
  call_ok to l f y way h =
      behind y.before (some_use y.values) (call to f l y.values) h
      (λ os t outs later i u. of_either (some_use y.values i || goal_uses (goal_of xs to) i) (not (goal_temp (goal_of xs to) i) && t i) u
      (λ v. used_first (some_use y.values i) (goal_uses (goal_of xs to) i) v (way i))
      (λ v. of_others (goal_temp (goal_of xs to) i) (t i) v (λ other there. inl (later i there)))) (λ os t outs later. tt)

  -- ---- operands of which no statements come

  mutual
    value_unused : (e : tree.Value) → needs e ≡ false → has_effect e ≡ false → (n : ℕ) → In (uses ((pure xs no_value e).made n).value) Nothing
    value_unused (tree.typed (tree.constant z) type l) h none n i u = false≢true u
    value_unused (tree.typed tree.null type l) h none n i u = false≢true u
    value_unused (tree.typed (tree.temporary m) type l) h none n i u = false≢true u
    value_unused (tree.typed (tree.apply o es) type l) h none n i u = all_unused es h none n i u
    value_unused (tree.typed (tree.logic c a b) type l) h none n i u = false≢true (sym h ∙ ap not (or_false (has_effect a) (has_effect b) none).1)
    value_unused (tree.typed (tree.choose c a b) type l) h none n i u =
        let both = or_false (has_effect c || has_effect a) (has_effect b) none in
        let first = or_false (has_effect c) (has_effect a) both.0 in
        false≢true (sym h ∙ ap (λ x. not (x || has_effect b)) first.1 ∙ ap not both.1)
    value_unused (tree.typed (tree.effect e es) type l) h none n i u = false≢true (sym none)

    all_unused : (es : tree.Values) → need es ≡ false → have_effect es ≡ false → (n : ℕ) → In (some_use (pures xs no_value es n).values) Nothing
    all_unused tree.stop h none n i u = false≢true u
    all_unused (tree.more e es) h none n i u =
        let needed = or_false (needs e) (need es) h in
        let effects = or_false (has_effect e) (have_effect es) none in
        let m = (pure xs no_value e).made n in
        let x = save_if xs (need es) m in
        of_either (uses x.value i) (some_use (pures xs no_value es x.next_temp).values i) u
        (subst (λ b. In (uses (save_if xs b m).value) Nothing) (sym needed.1) (value_unused e needed.0 effects.0 n) i) (all_unused es needed.1 effects.1 x.next_temp i)

  -- ---- effects

  plain_stored : (type : CoreType) (l : ℕ) (path : Path) (es : tree.Values) (n : ℕ) → DidOk (plain_store xs type l path (operands xs es (first_plan xs es) n)).did
  plain_stored type l path es n = store_ok type l path (operands xs es (first_plan xs es) n) (own_operands es n)

  call_stored : (type : CoreType) (l : ℕ) (path : Path) (f : ℕ) (as_ : tree.Values) (u : CoreType) (k : ℕ) (es : tree.Values) (n : ℕ)
      → DidOk (stored xs type l path (tree.more (tree.typed (tree.effect (effect.Call f) as_) u k) es) n).did
  call_stored type l path f as_ u k es n =
      let all = tree.more (tree.typed (tree.effect (effect.Call f) as_) u k) es in
      on_test (need es || have_effect es) (λ z. DidOk (if z then plain_store xs type l path (operands xs all (first_plan xs all) n) else called_to xs type l path k f as_ es n).did)
      (λ e. plain_stored type l path all n)
      (λ e. let both = or_false (need es) (have_effect es) e in
      call_ok (place type l path (pures xs no_value es n).values) k f (operands xs as_ (first_plan xs as_) n) (all_unused es both.0 both.1 n) (own_operands as_ n))

  stored_ok : (type : CoreType) (l : ℕ) (path : Path) (es : tree.Values) (n : ℕ) → DidOk (stored xs type l path es n).did
  stored_ok type l path tree.stop n = plain_stored type l path tree.stop n
  stored_ok type l path (tree.more (tree.typed (tree.effect (effect.Call f) as_) u k) es) n = call_stored type l path f as_ u k es n
  stored_ok type l path (tree.more (tree.typed (tree.effect (effect.Assign p) as_) u k) es) n = plain_stored type l path (tree.more (tree.typed (tree.effect (effect.Assign p) as_) u k) es) n
  stored_ok type l path (tree.more (tree.typed (tree.effect (effect.Update p by g) as_) u k) es) n = plain_stored type l path (tree.more (tree.typed (tree.effect (effect.Update p by g) as_) u k) es) n
  stored_ok type l path (tree.more (tree.typed (tree.constant z) u k) es) n = plain_stored type l path (tree.more (tree.typed (tree.constant z) u k) es) n
  stored_ok type l path (tree.more (tree.typed tree.null u k) es) n = plain_stored type l path (tree.more (tree.typed tree.null u k) es) n
  stored_ok type l path (tree.more (tree.typed (tree.temporary j) u k) es) n = plain_stored type l path (tree.more (tree.typed (tree.temporary j) u k) es) n
  stored_ok type l path (tree.more (tree.typed (tree.apply o as_) u k) es) n = plain_stored type l path (tree.more (tree.typed (tree.apply o as_) u k) es) n
  stored_ok type l path (tree.more (tree.typed (tree.logic c a b) u k) es) n = plain_stored type l path (tree.more (tree.typed (tree.logic c a b) u k) es) n
  stored_ok type l path (tree.more (tree.typed (tree.choose c a b) u k) es) n = plain_stored type l path (tree.more (tree.typed (tree.choose c a b) u k) es) n

  effect_did : (e : tree.Value) (n : ℕ) → DidOk (effect_of xs e n).did
  effect_did (tree.typed (tree.effect (effect.Assign path) es) type l) n = stored_ok type l path es n
  effect_did (tree.typed (tree.effect (effect.Update path by g) es) type l) n =
      store_ok type l path (operands xs (updating path by type l es) (first_plan xs es) n) (operands_ok xs (updating path by type l es) (first_plan xs es) (first_ok xs es) n)
  effect_did (tree.typed (tree.effect (effect.Call f) es) type l) n = call_ok nowhere l f (operands xs es (first_plan xs es) n) nothing_before (own_operands es n)
  effect_did (tree.typed (tree.constant z) type l) n = dropped_ok ((planned xs (tree.typed (tree.constant z) type l)).made n) (planned_ok (tree.typed (tree.constant z) type l) n)
  effect_did (tree.typed tree.null type l) n = dropped_ok ((planned xs (tree.typed tree.null type l)).made n) (planned_ok (tree.typed tree.null type l) n)
  effect_did (tree.typed (tree.temporary m) type l) n = dropped_ok ((planned xs (tree.typed (tree.temporary m) type l)).made n) (planned_ok (tree.typed (tree.temporary m) type l) n)
  effect_did (tree.typed (tree.apply o es) type l) n = dropped_ok ((planned xs (tree.typed (tree.apply o es) type l)).made n) (planned_ok (tree.typed (tree.apply o es) type l) n)
  effect_did (tree.typed (tree.logic c a b) type l) n = dropped_ok ((planned xs (tree.typed (tree.logic c a b) type l)).made n) (planned_ok (tree.typed (tree.logic c a b) type l) n)
  effect_did (tree.typed (tree.choose c a b) type l) n = dropped_ok ((planned xs (tree.typed (tree.choose c a b) type l)).made n) (planned_ok (tree.typed (tree.choose c a b) type l) n)

  start_did : (x : ℕ) (m : Made) → MadeOk xs no_temporaries m → DidOk (join m.before (one (start x m.value)))
  start_did x m h = behind m.before (uses m.value) (start x m.value) h (λ os t outs later i u. used_first (uses m.value i) (t i) u (later i)) (λ os t outs later. tt)

  started_ok : (x : ℕ) (e : tree.Value) (n : ℕ) → DidOk (started xs x e n).did
  started_ok x (tree.typed (tree.effect (effect.Call f) es) type l) n = call_ok (variable x) l f (operands xs es (first_plan xs es) n) nothing_before (own_operands es n)
  started_ok x (tree.typed (tree.effect (effect.Assign path) es) type l) n = start_did x ((planned xs (tree.typed (tree.effect (effect.Assign path) es) type l)).made n) (planned_ok (tree.typed (tree.effect (effect.Assign path) es) type l) n)
  started_ok x (tree.typed (tree.effect (effect.Update path by g) es) type l) n = start_did x ((planned xs (tree.typed (tree.effect (effect.Update path by g) es) type l)).made n) (planned_ok (tree.typed (tree.effect (effect.Update path by g) es) type l) n)
  started_ok x (tree.typed (tree.constant z) type l) n = start_did x ((planned xs (tree.typed (tree.constant z) type l)).made n) (planned_ok (tree.typed (tree.constant z) type l) n)
  started_ok x (tree.typed tree.null type l) n = start_did x ((planned xs (tree.typed tree.null type l)).made n) (planned_ok (tree.typed tree.null type l) n)
  started_ok x (tree.typed (tree.temporary m) type l) n = start_did x ((planned xs (tree.typed (tree.temporary m) type l)).made n) (planned_ok (tree.typed (tree.temporary m) type l) n)
  started_ok x (tree.typed (tree.apply o es) type l) n = start_did x ((planned xs (tree.typed (tree.apply o es) type l)).made n) (planned_ok (tree.typed (tree.apply o es) type l) n)
  started_ok x (tree.typed (tree.logic c a b) type l) n = start_did x ((planned xs (tree.typed (tree.logic c a b) type l)).made n) (planned_ok (tree.typed (tree.logic c a b) type l) n)
  started_ok x (tree.typed (tree.choose c a b) type l) n = start_did x ((planned xs (tree.typed (tree.choose c a b) type l)).made n) (planned_ok (tree.typed (tree.choose c a b) type l) n)

  end_ok : DidOk end
  end_ok os t outs later = end_good xs os t Nothing later

  tests_ok : (o : Option tree.Value) (n : ℕ) → DidOk (loop_test xs o n).tests
  tests_ok None n = end_ok
  tests_ok (Some e) n = λ os t outs later. (value_ok xs e).all.test true 0 n Nothing nothing_before os t (outs 0) later

  step_ok : (o : Option tree.Value) (n : ℕ) → DidOk (loop_step xs o n).did
  step_ok None n = end_ok
  step_ok (Some e) n = effect_did e n

  given_ok : (o : Option tree.Value) (n : ℕ) → DidOk (given xs o n).did
  given_ok None n = λ os t outs later. record { used = nothing_before; order = (tt, tt) }
  given_ok (Some e) n =
      let m = (planned xs e).made n in
      behind m.before (uses m.value) (give (Some m.value)) (planned_ok e n) (λ os t outs later i u. inr u) (λ os t outs later. tt)

  -- ---- a switch

  truth_unused : (l : ℕ) (b : Bool) → In (uses (truth_of l b)) Nothing
  truth_unused l true i u = false≢true u
  truth_unused l false i u = false≢true u

  label_uses : (v : tree.Value) (z : ℤ) (i : ℕ) → uses (label_test v z) i ≡ true → uses v i ≡ true
  label_uses (tree.typed (tree.constant y) type l) z i u = absurd (truth_unused l (is_equal y z) i u)
  label_uses (tree.typed tree.null type l) z i u = absurd (false≢true u)
  label_uses (tree.typed (tree.temporary m) type l) z i u = no_more xs (uses (tree.typed (tree.temporary m) type l) i) u
  label_uses (tree.typed (tree.apply o es) type l) z i u = no_more xs (some_use es i) u
  label_uses (tree.typed (tree.logic c a b) type l) z i u = absurd (false≢true u)
  label_uses (tree.typed (tree.choose c a b) type l) z i u = absurd (false≢true u)
  label_uses (tree.typed (tree.effect e es) type l) z i u = absurd (false≢true u)

  dispatch_case : (v : tree.Value) (z : ℤ) (k : ℕ) (rest : Cores) → GoodFrom rest (With (uses v) Nothing)
      → GoodFrom (then_ (branch (label_test v z) (one (exit k)) end) rest) (With (uses v) Nothing)
  dispatch_case v z k rest h os t outs later =
      let r = h os t outs later in
      record {
        used = λ i u. of_either (uses (label_test v z) i) (out_at os k i || before xs rest os t i) u (λ a. inr (label_uses v z i a))
            (λ a. of_either (out_at os k i) (before xs rest os t i) a (λ b. inl (outs k i b)) (λ b. r.used i b));
        order = (((tt, tt), tt), r.order);
      }

  dispatch_ok : (v : tree.Value) (all ss : Stmts) → GoodFrom (dispatch v all ss) (With (uses v) Nothing)
  dispatch_ok v all stop = λ os t outs later. record { used = λ i u. inl (outs (index_of is_default false all) i u); order = (tt, tt) }
  dispatch_ok v all (more (case_of z) ss) = dispatch_case v z (index_of (is_case z) false all) (dispatch v all ss) (dispatch_ok v all ss)
  dispatch_ok v all (more (evaluate a) ss) = dispatch_ok v all ss
  dispatch_ok v all (more (block ys s) ss) = dispatch_ok v all ss
  dispatch_ok v all (more (initial x line a) ss) = dispatch_ok v all ss
  dispatch_ok v all (more (choose c a b) ss) = dispatch_ok v all ss
  dispatch_ok v all (more (loop l a b c d) ss) = dispatch_ok v all ss
  dispatch_ok v all (more (switch a s) ss) = dispatch_ok v all ss
  dispatch_ok v all (more default ss) = dispatch_ok v all ss
  dispatch_ok v all (more break ss) = dispatch_ok v all ss
  dispatch_ok v all (more continue ss) = dispatch_ok v all ss
  dispatch_ok v all (more (return_of a) ss) = dispatch_ok v all ss
  dispatch_ok v all (more (assert c) ss) = dispatch_ok v all ss

  close_ok : (o : Bool) (inner : Cores) (D : Sets) → GoodFrom inner D → GoodFrom (close o inner) D
  close_ok true inner D h os t outs later = around_good xs inner os t D (h (t ∷ os) t (outs_up t os later outs) later)
  close_ok false inner D h os t outs later = h os t outs later

  -- ---- statements

  choose_ok : (e : tree.Value) (a b : Stmt) → ((b' c' n : ℕ) → DidOk (stmt xs b' c' n a).did) → ((b' c' n : ℕ) → DidOk (stmt xs b' c' n b).did)
      → (b' c' n : ℕ) → DidOk (stmt xs b' c' n (choose e a b)).did
  choose_ok e a b ha hb b' c' n os t outs later =
      let n1 = next_of (condition (planned xs e) n) in
      let n2 = (stmt xs b' c' n1 a).next_temp in
      forks_ok xs no_temporaries (planned xs e) (value_ok xs e).all n Nothing nothing_before Outs outs_up
      (λ k. (stmt xs (up k b') (up k c') n1 a).did) (λ k. (stmt xs (up k b') (up k c') n2 b).did) os t outs (outs_up t os later outs)
      (λ k ps g. ha (up k b') (up k c') n1 ps t g later) (λ k ps g. hb (up k b') (up k c') n2 ps t g later)

  loop_ok : (l : Loop) (body : Cores) → DidOk body → DidOk (one (around (one (repeat l body))))
  loop_ok l body h os t outs later =
      let x = h (t ∷ os) no_temporaries (outs_up t os later outs) nothing_before in
      record { used = x.used; order = ((((λ n u. absurd (x.used n u)), x.order), tt), tt) }

  around_ok : (cs : Cores) → DidOk cs → DidOk (one (around cs))
  around_ok cs h os t outs later = around_good xs cs os t Nothing (h (t ∷ os) t (outs_up t os later outs) later)

  body_ok : (x : Tests) (y : Cores) (z : Did) (u : Tests) → DidOk x.tests → DidOk y → DidOk z.did → DidOk u.tests → DidOk (loop_body x y z u)
  body_ok x y z u hx hy hz hu =
      join_ok x.tests (then_ (around y) (join z.did u.tests)) hx (join_ok (one (around y)) (join z.did u.tests) (around_ok y hy) (join_ok z.did u.tests hz hu))

  switch_ok : (e : tree.Value) (n : ℕ) (d : Cores) → GoodFrom d (With (uses (save_unless (is_settled ((planned xs e).made n).value) ((planned xs e).made n)).value) Nothing)
      → DidOk (join (save_unless (is_settled ((planned xs e).made n).value) ((planned xs e).made n)).before (one (around d)))
  switch_ok e n d h os t outs later =
      let m = (planned xs e).made n in
      let x = save_unless (is_settled m.value) m in
      let y = around_good xs d os t (With (uses x.value) Nothing) (h (t ∷ os) t (outs_up t os later outs) later) in
      join_good xs x.before (one (around d)) os t Nothing
      (save_unless_ok (is_settled m.value) m (planned_ok e n) Nothing nothing_before os (before xs (one (around d)) os t) y.used) y.order

  groups_next : (D : Sets) (o : Bool) (inner did : Cores) → GoodFrom inner D → DidOk did → GoodFrom (join (close o inner) did) D
  groups_next D o inner did h g os t outs later =
      let y = g os t outs later in
      join_good xs (close o inner) did os t D (close_ok o inner D h os (before xs did os t) outs y.used) y.order

  mutual
    stmt_ok : (b c n : ℕ) (s : Stmt) → DidOk (stmt xs b c n s).did
    stmt_ok b c n (evaluate e) = effect_did e n
    stmt_ok b c n (block ys ss) = λ os t outs later. let x = stmts_ok b c n ss os t outs later in record { used = x.used; order = (x.order, tt) }
    stmt_ok b c n (initial x line e) = started_ok x e n
    stmt_ok b c n (choose e s s') = choose_ok e s s' (λ b' c' m. stmt_ok b' c' m s) (λ b' c' m. stmt_ok b' c' m s') b c n
    stmt_ok b c n (loop l first s step behind_) =
        let x = loop_test xs first n in
        let y = stmt xs 1 0 x.next_temp s in
        let z = loop_step xs step y.next_temp in
        let u = loop_test xs behind_ z.next_temp in
        loop_ok l (loop_body x y.did z u)
        (body_ok x y.did z u (tests_ok first n) (stmt_ok 1 0 x.next_temp s) (step_ok step y.next_temp) (tests_ok behind_ z.next_temp))
    stmt_ok b c n (switch e ss) =
        let m = (planned xs e).made n in
        let x = save_unless (is_settled m.value) m in
        switch_ok e n (groups xs c x.next_temp false (dispatch x.value ss ss) ss).did
        (groups_ok x.value c x.next_temp false (dispatch x.value ss ss) ss (dispatch_ok x.value ss ss))
    stmt_ok b c n (case_of z) = end_ok
    stmt_ok b c n default = end_ok
    stmt_ok b c n break = λ os t outs later. record { used = outs b; order = (tt, tt) }
    stmt_ok b c n continue = λ os t outs later. record { used = outs c; order = (tt, tt) }
    stmt_ok b c n (return_of e) = given_ok e n
    stmt_ok b c n (assert q) = λ os t outs later. record { used = later; order = (tt, tt) }

    stmts_ok : (b c n : ℕ) (ss : Stmts) → DidOk (stmts xs b c n ss).did
    stmts_ok b c n stop = end_ok
    stmts_ok b c n (more s ss) =
        let x = stmt xs b c n s in join_ok x.did (stmts xs b c x.next_temp ss).did (stmt_ok b c n s) (stmts_ok b c x.next_temp ss)

    groups_ok : (v : tree.Value) (c n : ℕ) (o : Bool) (inner : Cores) (ss : Stmts) → GoodFrom inner (With (uses v) Nothing) → GoodFrom (groups xs c n o inner ss).did (With (uses v) Nothing)
    groups_ok v c n o inner stop h = close_ok o inner (With (uses v) Nothing) h
    groups_ok v c n o inner (more s ss) h =
        let b = whole_switch false ss in
        let x = stmt xs b (up (suc b) c) n s in
        let label : GoodFrom (groups xs c n true inner ss).did (With (uses v) Nothing) = groups_ok v c n true inner ss h in
        let other : GoodFrom (groups xs c x.next_temp false (join (close o inner) x.did) ss).did (With (uses v) Nothing) =
        groups_ok v c x.next_temp false (join (close o inner) x.did) ss (groups_next (With (uses v) Nothing) o inner x.did h (stmt_ok b (up (suc b) c) n s)) in
        elim (is_label s) as (λ z. GoodFrom (if z then groups xs c n true inner ss else groups xs c x.next_temp false (join (close o inner) x.did) ss).did (With (uses v) Nothing))
        [ true ↦ label | false ↦ other ]

-- ---- functions and programs

none_out : Outs []
none_out k = nothing_before

function_ok : (g : Function Stmts) → SetsFirst (function_of (normal_function g)).body
function_ok g =
    let x = stmts_ok g.variables 0 0 0 g.body [] no_temporaries none_out nothing_before in
    record { begins = λ n. on_test (all_live (function_of (normal_function g)).body [] no_temporaries n) (λ b. b ≡ false) (λ u. absurd (x.used n u)) (λ u. refl); loops = x.order }

pub temporaries_are_set_first : TemporariesAreSetFirst
temporaries_are_set_first q n g e = by (q.functions n) e where
  by : (o : Option (Function Stmts)) → option_map function_of (option_map normal_function o) ≡ Some g → SetsFirst g.body
  by None h = absurd (none_some g h)
  by (Some f) h = subst (λ (k : Function Steps). SetsFirst k.body) (some_same (function_of (normal_function f)) g h) (function_ok f)

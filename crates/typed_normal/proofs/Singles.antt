-- Expressions in statements: done for their effects, as first values, as tests and as results.
use Rattle.std.proofs.Common.{◌≡◌, ℕ, Bool, true, false, not, ◌&&◌, ◌||◌, if◌then◌else◌, List, length, Option, Some, None, refl, sym, ap, ◌∙◌, subst}
use Rattle.std.proofs.lemmas.Bool.{false≢true, and_parts}
use Rattle.wp_base.specs.declared.kinds.CellKind.{CellKind}
use Rattle.typed_prog.specs.declared.types.CoreType.{CoreType}
use Rattle.typed_prog.specs.declared.operators.Change.{Change}
use Rattle.typed_prog.specs.declared.operators.Effect.TheVariants as effect
use Rattle.typed_prog.specs.declared.operators.Path.{Path}
use Rattle.typed_prog.specs.Types.{is_void}
use Rattle.typed_prog.specs.Tree as t
use Rattle.c_runs.specs.Values.{has_effect, have_effect}
use Rattle.c_runs.specs.Effects.{changed}
use Rattle.c_runs.specs.Run.{old_value, updating}
use Rattle.c_runs.specs.Core.{Target, nowhere, place, variable, store, start, call, give, join, one}
use Rattle.c_runs.specs.Plans.{Made, no_value, needs, need, save_if, pure, pures, operands, first_plan, planned}
use Rattle.c_runs.specs.Normal.{Did, is_temp, save_unless, dropped, called_into, called_to, plain_store, stored, effect_of, started, loop_test, loop_step, given}
use Rattle.value_terms.specs.Typed.{kind_given, AreTyped}
use Rattle.plain_normal.specs.Single.{is_single, are_single}
use Rattle.plain_normal.proofs.Done.{first_types, take_first, or_false, on_test}
use Rattle.typed_runs.specs.Fitting.{InScope, Takes}
use Rattle.typed_normal.specs.Spelled.{spelled_scope, ChangeIsKinded, IsCalled, IsKinded, AllAreKinded, IsWanted, IfWanted, Begins}
use Rattle.typed_normal.specs.Typed.{core_scope, IsReceived, dropped as result_dropped, place_gets, variable_gets}
use Rattle.typed_normal.proofs.Sorts.{SameTypes, op_kept}
use Rattle.typed_normal.proofs.Making.{Place, Env, shape, Makes, makes_none, makes_map, has_no_value, TypedIn, Fits, MadeIs, MadesAre, TestsFit, join_fits, saves}
use Rattle.typed_normal.proofs.Objects.{takes_kept, some_result, in_core, leads, store_fits, changed_kinded, call_fits}
use Rattle.typed_normal.proofs.Planned.{IsWay, IsRead, operands_are, changed_takes, changed_same, value_is, first_are}

module _ (q : Place) (f : InScope) (low : ℕ) where
  abbrev pub DidFits : Did → Env → Type 0
  DidFits d e = Fits q f low e d.did

  -- from this number on
  abbrev pub DoneIs : (ℕ → Did) → Type 0
  DoneIs g = (ks : List CellKind) (n : ℕ) → length ks ≡ n → Makes ks (g n).next_temp (DidFits (g n))

  -- ---- values

  pub planned_made : (e : t.Value) → IsWanted q.facts q.bare q.functions f e → (ks : List CellKind) (n : ℕ) → length ks ≡ n
      → Makes ks ((planned q.bare.variables e).made n).next_temp (MadeIs q f low (t.type_of e) ((planned q.bare.variables e).made n))
  planned_made e h ks n count = (value_is q f low e h.0 h.1).all.made ks n count (has_no_value q f ks)

  pub saves_unless : (b : Bool) (ks : List CellKind) (type : CoreType) (m : Made) → Makes ks m.next_temp (MadeIs q f low type m)
      → Makes ks (save_unless b m).next_temp (MadeIs q f low type (save_unless b m))
  saves_unless true ks type m h = h
  saves_unless false ks type m h = saves q f low ks type m h

  dropped_is : (e : t.Value) → IsWanted q.facts q.bare q.functions f e → DoneIs (λ n. dropped ((planned q.bare.variables e).made n))
  dropped_is e h ks n count =
      let m = (planned q.bare.variables e).made n in
      let x = save_unless (is_temp m.value) m in
      makes_map ks x.next_temp (λ env y. y.before) (saves_unless (is_temp m.value) ks (t.type_of e) m (planned_made e h ks n count))

  all_operands : (es : t.Values) → AllAreKinded q.facts q.bare q.functions f es → are_single es ≡ true → (ks : List CellKind) (n : ℕ) → length ks ≡ n
      → Makes ks (operands q.bare.variables es (first_plan q.bare.variables es) n).next_temp (MadesAre q f low es (operands q.bare.variables es (first_plan q.bare.variables es) n))
  all_operands es h single ks n count = operands_are q f low es (first_types es) (first_plan q.bare.variables es) h (take_first es single) (first_are q f low es h single) ks n count

  first_single : (e : t.Value) (es : t.Values) → are_single (t.more e es) ≡ true → is_single e ≡ true
  first_single e es h = (and_parts (is_single e) (are_single es) (and_parts (not (has_effect e && have_effect es)) (is_single e && are_single es) h).1).0

  -- ---- operands of which no statements come

  mutual
    value_alone : (e : t.Value) → IsKinded q.facts q.bare q.functions f e → needs e ≡ false → has_effect e ≡ false → (n : ℕ) (env : Env)
        → TypedIn q f env ((pure q.bare.variables no_value e).made n).value × (t.type_of e ≡ t.type_of ((pure q.bare.variables no_value e).made n).value)
    value_alone (t.typed (t.constant z) type l) h need_none none n env = (h, refl)
    value_alone (t.typed t.null type l) h need_none none n env = (h, refl)
    value_alone (t.typed (t.temporary i) type l) h need_none none n env = elim h [ ]
    value_alone (t.typed (t.apply o es) type l) h need_none none n env =
        let vs = all_alone es h.0 need_none none n env in (
          (
            vs.0,
            op_kept q.facts q.bare.variables (spelled_scope q.facts q.bare f) (core_scope q.facts (shape q env) f) (in_core q f env) type o es
                (pures q.bare.variables no_value es n).values vs.1 h.1,
          ),
          refl,
        )
    value_alone (t.typed (t.logic c a b) type l) h need_none none n env =
        absurd (false≢true (sym need_none ∙ ap not (or_false (has_effect a) (has_effect b) none).1))
    value_alone (t.typed (t.choose c a b) type l) h need_none none n env =
        let both = or_false (has_effect c || has_effect a) (has_effect b) none in
        let first = or_false (has_effect c) (has_effect a) both.0 in
        absurd (false≢true (sym need_none ∙ ap (λ x. not (x || has_effect b)) first.1 ∙ ap not both.1))
    value_alone (t.typed (t.effect e es) type l) h need_none none n env = absurd (false≢true (sym none))

    all_alone : (es : t.Values) → AllAreKinded q.facts q.bare q.functions f es → need es ≡ false → have_effect es ≡ false → (n : ℕ) (env : Env)
        → AreTyped q.facts q.bare.variables (core_scope q.facts (shape q env) f) (pures q.bare.variables no_value es n).values
        × SameTypes es (pures q.bare.variables no_value es n).values
    all_alone t.stop h need_none none n env = (tt, tt)
    all_alone (t.more e es) h need_none none n env =
        let needed = or_false (needs e) (need es) need_none in
        let effects = or_false (has_effect e) (have_effect es) none in
        let m = (pure q.bare.variables no_value e).made n in
        let v = value_alone e h.0 needed.0 effects.0 n env in
        let vs = all_alone es h.1 needed.1 effects.1 (save_if q.bare.variables (need es) m).next_temp env in
        let first = subst (λ b. TypedIn q f env (save_if q.bare.variables b m).value × (t.type_of e ≡ t.type_of (save_if q.bare.variables b m).value)) (sym needed.1) v in
        ((first.0, vs.0), (first.1, vs.1))

  -- ---- calls

  into_done : (to : ℕ → Target) (l n : ℕ) (type : CoreType) (es : t.Values) → AllAreKinded q.facts q.bare q.functions f es → are_single es ≡ true
      → (c : IsCalled q.facts q.bare q.functions n type es) → ((i : ℕ) (e : Env) → IsReceived q.facts (shape q e) f low c.function.result (to i))
      → DoneIs (λ i. called_into (to i) l n (operands q.bare.variables es (first_plan q.bare.variables es) i))
  into_done to l n type es h single c receives ks i count =
      let y = operands q.bare.variables es (first_plan q.bare.variables es) i in
      makes_map ks y.next_temp
      (λ e m. join_fits q f low e y.before (one (call (to i) n l y.values)) m.before
      (call_fits q f low e n l type es y.values c m.values m.same (to i) (receives i e), tt)) (all_operands es h single ks i count)

  -- ---- assignments

  plain_stored : (type : CoreType) (l : ℕ) (path : Path) (a : t.Value) (es : t.Values) → IsWay q f low type path → t.type_of a ≡ type
      → AllAreKinded q.facts q.bare q.functions f (t.more a es) → are_single (t.more a es) ≡ true
      → DoneIs (λ n. plain_store q.bare.variables type l path (operands q.bare.variables (t.more a es) (first_plan q.bare.variables (t.more a es)) n))
  plain_stored type l path a es way same h single ks n count =
      let y = operands q.bare.variables (t.more a es) (first_plan q.bare.variables (t.more a es)) n in
      makes_map ks y.next_temp
      (λ e m. join_fits q f low e y.before (one (store type l path y.values)) m.before
      (store_fits q f low e type l path a es y.values way.0 way.1 (ap kind_given same) m.values m.same, tt))
      (all_operands (t.more a es) h single ks n count)

  call_stored : (type : CoreType) (l : ℕ) (path : Path) (n : ℕ) (as_ : t.Values) (u : CoreType) (i : ℕ) (es : t.Values) → IsWay q f low type path → u ≡ type → is_void type ≡ false
      → AllAreKinded q.facts q.bare q.functions f (t.more (t.typed (t.effect (effect.Call n) as_) u i) es) → are_single (t.more (t.typed (t.effect (effect.Call n) as_) u i) es) ≡ true
      → DoneIs (stored q.bare.variables type l path (t.more (t.typed (t.effect (effect.Call n) as_) u i) es))
  call_stored type l path n as_ u i es way same valued h single =
      let a = t.typed (t.effect (effect.Call n) as_) u i in
      let plain : ℕ → Did = λ m. plain_store q.bare.variables type l path (operands q.bare.variables (t.more a es) (first_plan q.bare.variables (t.more a es)) m) in
      let direct : ℕ → Did = λ m. called_to q.bare.variables type l path i n as_ es m in
      let c = h.0.1 in
      on_test (need es || have_effect es) (λ z. DoneIs (λ m. if z then plain m else direct m))
      (λ e. plain_stored type l path a es way same h single)
      (λ e.
      let both = or_false (need es) (have_effect es) e in
      let result = some_result u c.function.result c.gives (ap is_void same ∙ valued) ∙ ap (λ v. Some (kind_given v)) same ∙ ap Some (sym way.0) in
      into_done (λ m. place type l path (pures q.bare.variables no_value es m).values) i n u as_ h.0.0 (first_single a es single) c
      (λ m env. subst (λ r. IsReceived q.facts (shape q env) f low r (place type l path (pures q.bare.variables no_value es m).values)) (sym result)
      (place_gets (all_alone es h.1 both.0 both.1 m env).0 (leads q f env type path way.1))))

  stored_done : (type : CoreType) (l : ℕ) (path : Path) (a : t.Value) (es : t.Values) → IsWay q f low type path → t.type_of a ≡ type → is_void type ≡ false
      → AllAreKinded q.facts q.bare q.functions f (t.more a es) → are_single (t.more a es) ≡ true → DoneIs (stored q.bare.variables type l path (t.more a es))
  stored_done type l path (t.typed (t.effect (effect.Call n) as_) u i) es way same valued h single = call_stored type l path n as_ u i es way same valued h single
  stored_done type l path (t.typed (t.effect (effect.Assign p) as_) u i) es way same valued h single = plain_stored type l path (t.typed (t.effect (effect.Assign p) as_) u i) es way same h single
  stored_done type l path (t.typed (t.effect (effect.Update p by g) as_) u i) es way same valued h single = plain_stored type l path (t.typed (t.effect (effect.Update p by g) as_) u i) es way same h single
  stored_done type l path (t.typed (t.constant z) u i) es way same valued h single = plain_stored type l path (t.typed (t.constant z) u i) es way same h single
  stored_done type l path (t.typed t.null u i) es way same valued h single = plain_stored type l path (t.typed t.null u i) es way same h single
  stored_done type l path (t.typed (t.temporary j) u i) es way same valued h single = plain_stored type l path (t.typed (t.temporary j) u i) es way same h single
  stored_done type l path (t.typed (t.apply o as_) u i) es way same valued h single = plain_stored type l path (t.typed (t.apply o as_) u i) es way same h single
  stored_done type l path (t.typed (t.logic c a b) u i) es way same valued h single = plain_stored type l path (t.typed (t.logic c a b) u i) es way same h single
  stored_done type l path (t.typed (t.choose c a b) u i) es way same valued h single = plain_stored type l path (t.typed (t.choose c a b) u i) es way same h single

  updated_done : (type : CoreType) (l : ℕ) (path : Path) (by : Change) (b : t.Value) (es : t.Values) → IsWay q f low type path → IsRead q f low type path es
      → ChangeIsKinded q.facts q.bare type by (t.type_of b) → AllAreKinded q.facts q.bare q.functions f (t.more b es) → are_single (t.more b es) ≡ true
      → DoneIs (λ n. plain_store q.bare.variables type l path (operands q.bare.variables (updating path by type l (t.more b es)) (first_plan q.bare.variables (t.more b es)) n))
  updated_done type l path by b es way read computes h single ks n count =
      let old = old_value path type l es in
      let new = changed by type l old b in
      let y = operands q.bare.variables (t.more new es) (first_plan q.bare.variables (t.more b es)) n in
      let takes = take_first (t.more b es) single in
      makes_map ks y.next_temp
      (λ e m. join_fits q f low e y.before (one (store type l path y.values)) m.before
      (store_fits q f low e type l path new es y.values way.0 way.1 (ap kind_given (changed_same q f low by type l old b)) m.values m.same, tt))
      (operands_are q f low (t.more new es) (first_types (t.more b es)) (first_plan q.bare.variables (t.more b es))
      (changed_kinded q f by type l old b computes refl (h.1, read) h.0, h.1)
      (changed_takes q f low (first_types (t.more b es)) by type l path b es takes.0 takes.1, takes.1)
      (first_are q f low (t.more b es) h single) ks n count)

  pub effect_done : (e : t.Value) → IsWanted q.facts q.bare q.functions f e → DoneIs (effect_of q.bare.variables e)
  effect_done (t.typed (t.effect (effect.Assign path) t.stop) type l) h = elim h.0.1 [ ]
  effect_done (t.typed (t.effect (effect.Assign path) (t.more a es)) type l) h =
      let fits = h.0.1 in stored_done type l path a es (fits.0, fits.1) fits.2 fits.3 h.0.0 h.1
  effect_done (t.typed (t.effect (effect.Update path by g) t.stop) type l) h = elim h.0.1 [ ]
  effect_done (t.typed (t.effect (effect.Update path by g) (t.more b es)) type l) h =
      let fits = h.0.1 in updated_done type l path by b es (fits.0, fits.1) fits.2 fits.3 h.0.0 h.1
  effect_done (t.typed (t.effect (effect.Call n) es) type l) h = into_done (λ i. nowhere) l n type es h.0.0 h.1 h.0.1 (λ i e. result_dropped)
  effect_done (t.typed (t.constant z) type l) h = dropped_is (t.typed (t.constant z) type l) h
  effect_done (t.typed t.null type l) h = dropped_is (t.typed t.null type l) h
  effect_done (t.typed (t.temporary n) type l) h = dropped_is (t.typed (t.temporary n) type l) h
  effect_done (t.typed (t.apply o es) type l) h = dropped_is (t.typed (t.apply o es) type l) h
  effect_done (t.typed (t.logic c a b) type l) h = dropped_is (t.typed (t.logic c a b) type l) h
  effect_done (t.typed (t.choose c a b) type l) h = dropped_is (t.typed (t.choose c a b) type l) h

  -- ---- first values

  takes_in : (e : Env) (x : ℕ) (k : CellKind) → Takes q.facts q.bare f low x k → Takes q.facts (shape q e) f low x k
  takes_in e x k h = takes_kept q.facts q.bare (shape q e) f f refl (λ y so. so) low x k h

  start_done : (x : ℕ) (e : t.Value) → Begins q.facts q.bare q.functions f low x e
      → DoneIs (λ n. record {
        did = join ((planned q.bare.variables e).made n).before (one (start x ((planned q.bare.variables e).made n).value));
        next_temp = ((planned q.bare.variables e).made n).next_temp;
      })
  start_done x e h ks n count =
      let m = (planned q.bare.variables e).made n in
      makes_map ks m.next_temp
      (λ env y. join_fits q f low env m.before (one (start x m.value)) y.before
      ((kind_given (t.type_of e), takes_in env x (kind_given (t.type_of e)) h.takes, (y.value, ap kind_given y.same)), tt))
      (planned_made e h.wanted ks n count)

  pub started_done : (x : ℕ) (e : t.Value) → Begins q.facts q.bare q.functions f low x e → DoneIs (started q.bare.variables x e)
  started_done x (t.typed (t.effect (effect.Call n) es) type l) h =
      let c = h.wanted.0.1 in
      into_done (λ i. variable x) l n type es h.wanted.0.0 h.wanted.1 c
      (λ i e. subst (λ r. IsReceived q.facts (shape q e) f low r (variable x)) (sym (some_result type c.function.result c.gives h.valued))
      (variable_gets (takes_in e x (kind_given type) h.takes)))
  started_done x (t.typed (t.effect (effect.Assign path) es) type l) h = start_done x (t.typed (t.effect (effect.Assign path) es) type l) h
  started_done x (t.typed (t.effect (effect.Update path by g) es) type l) h = start_done x (t.typed (t.effect (effect.Update path by g) es) type l) h
  started_done x (t.typed (t.constant z) type l) h = start_done x (t.typed (t.constant z) type l) h
  started_done x (t.typed t.null type l) h = start_done x (t.typed t.null type l) h
  started_done x (t.typed (t.temporary n) type l) h = start_done x (t.typed (t.temporary n) type l) h
  started_done x (t.typed (t.apply o es) type l) h = start_done x (t.typed (t.apply o es) type l) h
  started_done x (t.typed (t.logic c a b) type l) h = start_done x (t.typed (t.logic c a b) type l) h
  started_done x (t.typed (t.choose c a b) type l) h = start_done x (t.typed (t.choose c a b) type l) h

  -- ---- tests, steps and results

  pub tests_done : (o : Option t.Value) → IfWanted q.facts q.bare q.functions f o → (ks : List CellKind) (n : ℕ) → length ks ≡ n
      → Makes ks (loop_test q.bare.variables o n).next_temp (TestsFit q f low (loop_test q.bare.variables o n))
  tests_done None h ks n count = makes_none ks n count (λ e known. tt)
  tests_done (Some e) h ks n count = (value_is q f low e h.0 h.1).all.test true 0 ks n count (has_no_value q f ks)

  pub step_done : (o : Option t.Value) → IfWanted q.facts q.bare q.functions f o → DoneIs (loop_step q.bare.variables o)
  step_done None h ks n count = makes_none ks n count (λ e known. tt)
  step_done (Some e) h ks n count = effect_done e h ks n count

  pub none_given : q.bare.result ≡ None → DoneIs (given q.bare.variables None)
  none_given h ks n count = makes_none ks n count (λ e known. (h, tt))

  pub some_given : (e : t.Value) → q.bare.result ≡ Some (kind_given (t.type_of e)) → IsWanted q.facts q.bare q.functions f e → DoneIs (given q.bare.variables (Some e))
  some_given e result h ks n count =
      let m = (planned q.bare.variables e).made n in
      makes_map ks m.next_temp
      (λ env y. join_fits q f low env m.before (one (give (Some m.value))) y.before ((kind_given (t.type_of e), result, (y.value, ap kind_given y.same)), tt))
      (planned_made e h ks n count)

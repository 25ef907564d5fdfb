-- Expressions in statements: done for their effects, as first values, as tests and as results.
use Rattle.std.proofs.Common.{◌≡◌, ℕ, Bool, true, false, not, ◌&&◌, List, length, Option, Some, None, refl, sym, ap, ◌∙◌, inl, inr}
use Rattle.std.proofs.lemmas.Bool.{false≢true, and_parts}
use Rattle.wp_base.specs.declared.kinds.CellKind.{CellKind}
use Rattle.wp_base.specs.declared.kinds.CellKind.TheVariants as cell
use Rattle.wp_base.specs.declared.kinds.Kind.{Kind}
use Rattle.typed_prog.specs.declared.types.CoreType.{CoreType}
use Rattle.typed_prog.specs.declared.operators.Change.{Change}
use Rattle.typed_prog.specs.declared.operators.Effect.TheVariants as effect
use Rattle.typed_prog.specs.declared.operators.Path.{Path}
use Rattle.typed_prog.specs.Types.{of_kind, is_pointer, is_void}
use Rattle.typed_prog.specs.Tree as t
use Rattle.c_runs.specs.Values.{has_effect, kind_at}
use Rattle.c_runs.specs.Effects.{changed}
use Rattle.c_runs.specs.Run.{old_value, updating}
use Rattle.c_runs.specs.Adding.{goal_of}
use Rattle.c_runs.specs.Core.{Target, nowhere, place, variable, store, start, call, give, join, one}
use Rattle.c_runs.specs.Plans.{Made, operands, first_plan, planned}
use Rattle.c_runs.specs.Normal.{Did, is_temp, save_unless, dropped, called_into, plain_store, stored, effect_of, started, loop_test, loop_step, given}
use Rattle.plain_states.specs.Scopes.{kind_of}
use Rattle.plain_runs.specs.Fitting.{Receives, by_place, by_variable}
use Rattle.value_terms.specs.Typed.{kind_given}
use Rattle.plain_normal.specs.Single.{is_single, are_single}
use Rattle.plain_normal.specs.Plain.{ChangeIsPlain, IsCalled, ResultIsPlain, Names, IsPlain, AreAllPlain, IsWanted, IfWanted, Begins}
use Rattle.plain_normal.proofs.Done.{first_types, take_first}
use Rattle.plain_normal.proofs.Making.{Place, Env, shape, Makes, makes_none, makes_map, has_no_value, Fits, MadeIs, MadesAre, TestsFit, join_fits, saves}
use Rattle.plain_normal.proofs.Objects.{leads, store_fits, changed_plain, old_plain, call_fits, result_fits}
use Rattle.plain_normal.proofs.Planned.{operands_are, changed_takes, changed_same, value_is, first_are}

module _ (q : Place) (f : ℕ → Bool) (low : ℕ) where
  abbrev pub DidFits : Did → Env → Type 0
  DidFits d e = Fits q f low e d.did

  -- from this number on
  abbrev pub DoneIs : (ℕ → Did) → Type 0
  DoneIs g = (ks : List Kind) (n : ℕ) → length ks ≡ n → Makes ks (g n).next_temp (DidFits (g n))

  -- ---- values

  pub planned_made : (e : t.Value) → IsWanted q.facts q.variables q.functions f e → (ks : List Kind) (n : ℕ) → length ks ≡ n
      → Makes ks ((planned q.variables e).made n).next_temp (MadeIs q f low (t.type_of e) ((planned q.variables e).made n))
  planned_made e h ks n count = (value_is q f low e h.0 h.1).all.made ks n count (has_no_value q ks)

  pub saves_unless : (b : Bool) (ks : List Kind) (type : CoreType) (m : Made) → Makes ks m.next_temp (MadeIs q f low type m) → Makes ks (save_unless b m).next_temp (MadeIs q f low type (save_unless b m))
  saves_unless true ks type m h = h
  saves_unless false ks type m h = saves q f low ks type m h

  dropped_is : (e : t.Value) → IsWanted q.facts q.variables q.functions f e → DoneIs (λ n. dropped ((planned q.variables e).made n))
  dropped_is e h ks n count =
      let m = (planned q.variables e).made n in
      let x = save_unless (is_temp m.value) m in
      makes_map ks x.next_temp (λ env y. y.before) (saves_unless (is_temp m.value) ks (t.type_of e) m (planned_made e h ks n count))

  all_operands : (es : t.Values) → AreAllPlain q.facts q.variables q.functions f es → are_single es ≡ true → (ks : List Kind) (n : ℕ) → length ks ≡ n
      → Makes ks (operands q.variables es (first_plan q.variables es) n).next_temp (MadesAre q f low es (operands q.variables es (first_plan q.variables es) n))
  all_operands es h single ks n count = operands_are q f low es (first_types es) (first_plan q.variables es) h (take_first es single) (first_are q f low es h single) ks n count

  own_single : (e : t.Value) → are_single (t.more e t.stop) ≡ true → is_single e ≡ true
  own_single e h = (and_parts (is_single e) true (and_parts (not (has_effect e && false)) (is_single e && true) h).1).0

  -- ---- effects

  called_done : (l n : ℕ) (es : t.Values) → AreAllPlain q.facts q.variables q.functions f es → are_single es ≡ true → IsCalled q.functions n es
      → DoneIs (λ i. called_into nowhere l n (operands q.variables es (first_plan q.variables es) i))
  called_done l n es h single c ks i count =
      let y = operands q.variables es (first_plan q.variables es) i in
      makes_map ks y.next_temp (λ e m. join_fits q f low e y.before (one (call nowhere n l y.values)) m.before (call_fits q f low e n l es y.values c m.values m.same, tt)) (all_operands es h single ks i count)

  result_done : (to : Target) (l n : ℕ) (es : t.Values) (k : Kind) → AreAllPlain q.facts q.variables q.functions f es → are_single es ≡ true → (c : IsCalled q.functions n es)
      → c.function.result ≡ Some (cell.Of k) → ((e : Env) → Receives q.facts (shape q e) f low k (goal_of q.variables to)) → DoneIs (λ i. called_into to l n (operands q.variables es (first_plan q.variables es) i))
  result_done to l n es k h single c result receives ks i count =
      let y = operands q.variables es (first_plan q.variables es) i in
      makes_map ks y.next_temp
      (λ e m. join_fits q f low e y.before (one (call to n l y.values)) m.before (result_fits q f low e n l es y.values k to c result m.values m.same (receives e), tt)) (all_operands es h single ks i count)

  -- where a number is wanted, one is given
  number_result : (type : CoreType) (result : Option CellKind) (k : Kind) → type ≡ of_kind k → ResultIsPlain type result → result ≡ Some (cell.Of k)
  number_result type result k same (inl r) = r.2 ∙ ap (λ j. Some (cell.Of j)) (ap kind_at (sym r.1 ∙ same))
  number_result type result k same (inr r) = absurd (false≢true (sym (ap is_void same) ∙ ap is_void r.0))

  plain_stored : (type : CoreType) (l : ℕ) (path : Path) (k : Kind) (a : t.Value) → type ≡ of_kind k → Names q.facts q.variables f path k → t.type_of a ≡ type
      → IsPlain q.facts q.variables q.functions f a → are_single (t.more a t.stop) ≡ true
      → DoneIs (λ n. plain_store q.variables type l path (operands q.variables (t.more a t.stop) (first_plan q.variables (t.more a t.stop)) n))
  plain_stored type l path k a int names same h single ks n count =
      let y = operands q.variables (t.more a t.stop) (first_plan q.variables (t.more a t.stop)) n in
      makes_map ks y.next_temp
      (λ e m. join_fits q f low e y.before (one (store type l path y.values)) m.before (store_fits q f low e type l path k int names a y.values same m.values m.same, tt))
      (all_operands (t.more a t.stop) (h, tt) single ks n count)

  stored_done : (type : CoreType) (l : ℕ) (path : Path) (k : Kind) (a : t.Value) → type ≡ of_kind k → Names q.facts q.variables f path k → t.type_of a ≡ type
      → IsPlain q.facts q.variables q.functions f a → are_single (t.more a t.stop) ≡ true → DoneIs (stored q.variables type l path (t.more a t.stop))
  stored_done type l path k (t.typed (t.effect (effect.Call n) es) u i) int names same h single =
      let fits = h.1.1 in
      result_done (place type l path t.stop) i n es k h.1.0 (own_single (t.typed (t.effect (effect.Call n) es) u i) single) fits.0 (number_result u fits.0.function.result k (same ∙ int) fits.1)
      (λ e. by_place (leads q f e path k names))
  stored_done type l path k (t.typed (t.effect (effect.Assign p) es) u i) int names same h single = plain_stored type l path k (t.typed (t.effect (effect.Assign p) es) u i) int names same h single
  stored_done type l path k (t.typed (t.effect (effect.Update p by g) es) u i) int names same h single = plain_stored type l path k (t.typed (t.effect (effect.Update p by g) es) u i) int names same h single
  stored_done type l path k (t.typed (t.constant z) u i) int names same h single = plain_stored type l path k (t.typed (t.constant z) u i) int names same h single
  stored_done type l path k (t.typed t.null u i) int names same h single = plain_stored type l path k (t.typed t.null u i) int names same h single
  stored_done type l path k (t.typed (t.temporary j) u i) int names same h single = plain_stored type l path k (t.typed (t.temporary j) u i) int names same h single
  stored_done type l path k (t.typed (t.apply o es) u i) int names same h single = plain_stored type l path k (t.typed (t.apply o es) u i) int names same h single
  stored_done type l path k (t.typed (t.logic c a b) u i) int names same h single = plain_stored type l path k (t.typed (t.logic c a b) u i) int names same h single
  stored_done type l path k (t.typed (t.choose c a b) u i) int names same h single = plain_stored type l path k (t.typed (t.choose c a b) u i) int names same h single

  updated_done : (type : CoreType) (l : ℕ) (path : Path) (by : Change) (k : Kind) (b : t.Value) → is_pointer type ≡ false → type ≡ of_kind k → Names q.facts q.variables f path k
      → ChangeIsPlain by (t.type_of b) → IsPlain q.facts q.variables q.functions f b → are_single (t.more b t.stop) ≡ true
      → DoneIs (λ n. plain_store q.variables type l path (operands q.variables (updating path by type l (t.more b t.stop)) (first_plan q.variables (t.more b t.stop)) n))
  updated_done type l path by k b number int names computes h single ks n count =
      let new = changed by type l (old_value path type l t.stop) b in
      let y = operands q.variables (t.more new t.stop) (first_plan q.variables (t.more b t.stop)) n in
      makes_map ks y.next_temp
      (λ e m. join_fits q f low e y.before (one (store type l path y.values)) m.before
      (store_fits q f low e type l path k int names new y.values (changed_same q f low by type l (old_value path type l t.stop) b) m.values m.same, tt))
      (operands_are q f low (t.more new t.stop) (first_types (t.more b t.stop)) (first_plan q.variables (t.more b t.stop))
      (changed_plain q f by type l (old_value path type l t.stop) b number computes (old_plain q f type l path k number int names) h, tt)
      (changed_takes q f low (first_types (t.more b t.stop)) by type l path b computes (take_first (t.more b t.stop) single).0, tt)
      (first_are q f low (t.more b t.stop) (h, tt) single) ks n count)

  pub effect_done : (e : t.Value) → IsWanted q.facts q.variables q.functions f e → DoneIs (effect_of q.variables e)
  effect_done (t.typed (t.effect (effect.Assign path) t.stop) type l) h = elim h.0.1.1.3 [ ]
  effect_done (t.typed (t.effect (effect.Assign path) (t.more a (t.more b es))) type l) h = elim h.0.1.1.3 [ ]
  effect_done (t.typed (t.effect (effect.Assign path) (t.more a t.stop)) type l) h =
      let fits = h.0.1.1 in stored_done type l path fits.0 a fits.1 fits.2 fits.3 h.0.1.0.0 h.1
  effect_done (t.typed (t.effect (effect.Update path by g) t.stop) type l) h = elim h.0.1.1.3 [ ]
  effect_done (t.typed (t.effect (effect.Update path by g) (t.more a (t.more b es))) type l) h = elim h.0.1.1.3 [ ]
  effect_done (t.typed (t.effect (effect.Update path by g) (t.more b t.stop)) type l) h =
      let fits = h.0.1.1 in updated_done type l path by fits.0 b h.0.0 fits.1 fits.2 fits.3 h.0.1.0.0 h.1
  effect_done (t.typed (t.effect (effect.Call n) es) type l) h =
      let fits = h.0.1.1 in called_done l n es h.0.1.0 h.1 fits.0
  effect_done (t.typed (t.constant z) type l) h = dropped_is (t.typed (t.constant z) type l) h
  effect_done (t.typed t.null type l) h = dropped_is (t.typed t.null type l) h
  effect_done (t.typed (t.temporary n) type l) h = dropped_is (t.typed (t.temporary n) type l) h
  effect_done (t.typed (t.apply o es) type l) h = dropped_is (t.typed (t.apply o es) type l) h
  effect_done (t.typed (t.logic c a b) type l) h = dropped_is (t.typed (t.logic c a b) type l) h
  effect_done (t.typed (t.choose c a b) type l) h = dropped_is (t.typed (t.choose c a b) type l) h

  -- ---- first values

  start_done : (x : ℕ) (e : t.Value) → Begins q.facts q.variables q.functions f low x e
      → DoneIs (λ n. record { did = join ((planned q.variables e).made n).before (one (start x ((planned q.variables e).made n).value)); next_temp = ((planned q.variables e).made n).next_temp })
  start_done x e h ks n count =
      let m = (planned q.variables e).made n in
      makes_map ks m.next_temp
      (λ env y. join_fits q f low env m.before (one (start x m.value)) y.before (
        (
          kind_of h.variable,
          (h.variable, h.found, refl, h.in_its_scope, h.own),
          (y.value, ap kind_given (y.same ∙ h.type)),
        ),
        tt,
      ))
      (planned_made e h.wanted ks n count)

  pub started_done : (x : ℕ) (e : t.Value) → Begins q.facts q.variables q.functions f low x e → DoneIs (started q.variables x e)
  started_done x (t.typed (t.effect (effect.Call n) es) type l) h =
      let fits = h.wanted.0.1.1 in
      result_done (variable x) l n es (kind_of h.variable) h.wanted.0.1.0 h.wanted.1 fits.0
      (number_result type fits.0.function.result (kind_of h.variable) h.type fits.1)
      (λ e. by_variable (h.variable, h.found, refl, h.in_its_scope, h.own))
  started_done x (t.typed (t.effect (effect.Assign path) es) type l) h = start_done x (t.typed (t.effect (effect.Assign path) es) type l) h
  started_done x (t.typed (t.effect (effect.Update path by g) es) type l) h = start_done x (t.typed (t.effect (effect.Update path by g) es) type l) h
  started_done x (t.typed (t.constant z) type l) h = start_done x (t.typed (t.constant z) type l) h
  started_done x (t.typed t.null type l) h = start_done x (t.typed t.null type l) h
  started_done x (t.typed (t.temporary n) type l) h = start_done x (t.typed (t.temporary n) type l) h
  started_done x (t.typed (t.apply o es) type l) h = start_done x (t.typed (t.apply o es) type l) h
  started_done x (t.typed (t.logic c a b) type l) h = start_done x (t.typed (t.logic c a b) type l) h
  started_done x (t.typed (t.choose c a b) type l) h = start_done x (t.typed (t.choose c a b) type l) h

  -- ---- tests, steps and results

  pub tests_done : (o : Option t.Value) → IfWanted q.facts q.variables q.functions f o → (ks : List Kind) (n : ℕ) → length ks ≡ n
      → Makes ks (loop_test q.variables o n).next_temp (TestsFit q f low (loop_test q.variables o n))
  tests_done None h ks n count = makes_none ks n count (λ e known. tt)
  tests_done (Some e) h ks n count = (value_is q f low e h.0 h.1).all.test true 0 ks n count (has_no_value q ks)

  pub step_done : (o : Option t.Value) → IfWanted q.facts q.variables q.functions f o → DoneIs (loop_step q.variables o)
  step_done None h ks n count = makes_none ks n count (λ e known. tt)
  step_done (Some e) h ks n count = effect_done e h ks n count

  pub none_given : q.result ≡ None → DoneIs (given q.variables None)
  none_given h ks n count = makes_none ks n count (λ e known. (h, tt))

  pub some_given : (k : Kind) (e : t.Value) → q.result ≡ Some (cell.Of k) → t.type_of e ≡ of_kind k → IsWanted q.facts q.variables q.functions f e → DoneIs (given q.variables (Some e))
  some_given k e result type h ks n count =
      let m = (planned q.variables e).made n in
      makes_map ks m.next_temp
      (λ env y. join_fits q f low env m.before (one (give (Some m.value))) y.before
      ((k, result, (y.value, ap kind_given (y.same ∙ type))), tt))
      (planned_made e h ks n count)

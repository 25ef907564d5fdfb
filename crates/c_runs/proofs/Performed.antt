-- Expressions that are done for their effect: assignments, updates, calls, and values of declared variables.
use Rattle.std.proofs.Common.{◌≡◌, ℕ, Bool, true, false, ◌||◌, if◌then◌else◌, List, refl, sym, ap, ◌∙◌, subst}
use Rattle.std.proofs.lemmas.Bool.{false≢true}
use Rattle.typed_prog.specs.declared.types.CoreType.{CoreType}
use Rattle.typed_prog.specs.declared.operators.Path.{Path}
use Rattle.typed_prog.specs.declared.operators.Change.{Change}
use Rattle.typed_prog.specs.declared.operators.UpdateForm.{UpdateForm}
use Rattle.typed_prog.specs.declared.operators.UpdateForm.TheVariants as form
use Rattle.typed_prog.specs.declared.operators.Effect.TheVariants as effect
use Rattle.typed_prog.specs.Tree as t
use Rattle.c_runs.specs.Told.{Value}
use Rattle.c_runs.specs.Program.{Variable, Program}
use Rattle.c_runs.specs.States.{World, Here}
use Rattle.c_runs.specs.Operators.{is, wrong}
use Rattle.c_runs.specs.Values.{have_effect, values, Temps, Vals, are, wrongs, push_val}
use Rattle.c_runs.specs.Claims.{undefined}
use Rattle.c_runs.specs.Calls.{Eval, gives, stops, Act, bind, nought}
use Rattle.c_runs.specs.Effects.{Written, wrote, unwritten, write, wrote_act, assign_act, initial_act}
use Rattle.c_runs.specs.Run.{no_temps, first_operand, other_operands, old_value, updating, with_act, with_acts, giving, update_act, postfix_act, first_of, run}
use Rattle.c_runs.specs.Run as sp
use Rattle.c_runs.specs.Core.{Target, nowhere, place, variable, start, call, store, Cores, join, one}
use Rattle.c_runs.specs.CoreRun.{CoreWorld, Ending, goes_on, exits, returns, stopped, then_do, with_eval}
use Rattle.c_runs.specs.CoreRun as core
use Rattle.c_runs.specs.Checks.{has_checks}
use Rattle.c_runs.specs.Plans.{Made, Mades, no_value, need, operands, planned, first_plan, pures}
use Rattle.c_runs.specs.Normal.{is_temp, is_settled, save_unless, dropped, called_into, plain_store, called_to, effect_of, started}
use Rattle.c_runs.proofs.Relations.{pair, keeps_all, Gives, early, there, Sure, sure_early, sure, Fixed, fixed_early, fixed, sure_of_fixed, Lists, lists_early, lists}
use Rattle.c_runs.proofs.Plans.{join_ex, join_join, one_ex, saved, kept_sure}
use Rattle.c_runs.proofs.Pure.{pures_ok}
use Rattle.c_runs.proofs.Unaffected.{zero_stays, quiet_values}
use Rattle.c_runs.proofs.All.{plans_ok, firsts_ok}
use Rattle.c_runs.proofs.Updates.{postfix_stores}
use Rattle.c_runs.proofs.Endings.{Like, halt, on, Runs, runs_on, runs_halt, runs_as, runs_bound, bind_gives, bind_same}

temp_sure : (xs : List Variable) (e : t.Value) → is_temp e ≡ true → has_checks xs e ≡ false
temp_sure xs (t.typed (t.temporary n) type l) h = refl
temp_sure xs (t.typed (t.constant z) type l) h = refl
temp_sure xs (t.typed t.null type l) h = refl
temp_sure xs (t.typed (t.apply o es) type l) h = absurd (false≢true h)
temp_sure xs (t.typed (t.logic c a b) type l) h = absurd (false≢true h)
temp_sure xs (t.typed (t.choose c a b) type l) h = absurd (false≢true h)
temp_sure xs (t.typed (t.effect e es) type l) h = absurd (false≢true h)

pub settled_sure : (xs : List Variable) (e : t.Value) → is_settled e ≡ true → has_checks xs e ≡ false
settled_sure xs (t.typed (t.temporary n) type l) h = refl
settled_sure xs (t.typed (t.constant z) type l) h = refl
settled_sure xs (t.typed t.null type l) h = refl
settled_sure xs (t.typed (t.apply o es) type l) h = absurd (false≢true h)
settled_sure xs (t.typed (t.logic c a b) type l) h = absurd (false≢true h)
settled_sure xs (t.typed (t.choose c a b) type l) h = absurd (false≢true h)
settled_sure xs (t.typed (t.effect e es) type l) h = absurd (false≢true h)

module _ (cp : Program Cores) (dc : core.Deeper) (xs : List Variable) (here : Here) (calls : (function line : ℕ) → Vals → Act)
    (same_calls : (f l : ℕ) (vs : Vals) (w : World) → core.calls cp dc here f l vs w ≡ calls f l vs w) where
  abbrev ex : Cores → CoreWorld → Ending
  ex = core.exec_all cp dc xs here

  -- ---- calls

  -- what becomes of a result is as given
  abbrev Results : Target → (Value → World → Eval) → Type 0
  Results to res = (v : Value) (w : World) (tm : Temps) → Runs (core.result_to cp dc xs here to v (pair w tm)) (res v w)

  call_runs : (to : Target) (res : Value → World → Eval) → Results to res → (f l : ℕ) (args : t.Values) (w : World) (tm : Temps) (r : Eval) → core.calls cp dc here f l (values cp.facts xs tm nought w args) w ≡ r
      → Runs (ex (one (call to f l args)) (pair w tm)) (bind r res)
  call_runs to res h f l args w tm (gives v w1) e = rw (one_ex cp dc xs here (call to f l args) (pair w tm), e) (h v w1 tm)
  call_runs to res h f l args w tm (stops s) e = rw e (runs_halt s)

  lists_run : {w : World} {tm : Temps} {n : ℕ} (to : Target) (res : Value → World → Eval) → Results to res → (f l : ℕ) (y : Mades) {e : Ending} {vs : Vals} → Lists cp.facts xs w tm n y.values y.next_temp e vs
      → Runs (then_do e (ex (one (call to f l y.values)))) (bind (calls f l vs w) res)
  lists_run {w} to res h f l y (lists_early u k) = rw (sym (same_calls f l (wrongs u k) w)) (runs_halt (undefined u k))
  lists_run {w} to res h f l y (lists tm1 vs mv g) =
      call_runs to res h f l y.values w tm1 (calls f l vs w) (ap (λ vs. core.calls cp dc here f l vs w) (g tm1 (keeps_all y.next_temp tm1)) ∙ same_calls f l vs w)

  arguments_run : {w : World} {tm : Temps} {n : ℕ} (to : Target) (res : Value → World → Eval) → Results to res → (f l : ℕ) (es : t.Values) (m : Made) {e : Ending} {r : Eval} → Fixed cp.facts xs false w tm n m.value m.next_temp e r
      → (let y = pures xs m.value es m.next_temp in
      Runs (then_do e (ex (join y.before (one (call to f l y.values))))) (bind (bind r (λ d w. calls f l (values cp.facts xs no_temps d w es) w)) res))
  arguments_run to res h f l es m (fixed_early s) = runs_halt s
  arguments_run to res h f l es m (fixed w1 tm1 v mv g) =
      let y = pures xs m.value es m.next_temp in
      rw (join_ex cp dc xs here y.before (one (call to f l y.values)) (pair w1 tm1)) (lists_run to res h f l y (pures_ok cp dc xs here m.value v es w1 m.next_temp tm1 g))

  -- the operands of a call, and the call
  abbrev call_act : (f l : ℕ) → t.Values → Act
  call_act f l es w = bind (first_of cp.facts xs here calls es w) (λ d w. calls f l (values cp.facts xs no_temps d w es) w)

  called_runs : (to : Target) (res : Value → World → Eval) → Results to res → (f l : ℕ) (es : t.Values) (n : ℕ) (w : World) (tm : Temps)
      → Runs (ex (called_into to l f (operands xs es (first_plan xs es) n)).did (pair w tm)) (bind (call_act f l es w) res)
  called_runs to res h f l es n w tm =
      let m = first_plan xs es n in
      let y = pures xs m.value es m.next_temp in
      rw (join_join cp dc xs here m.before y.before (one (call to f l y.values)) (pair w tm))
      (arguments_run to res h f l es m ((firsts_ok cp dc xs here calls same_calls es).ok n w tm))

  -- ---- assignments

  assigned_runs : (type : CoreType) (l : ℕ) (path : Path) (es : t.Values) (w : World) (tm : Temps) (r : Eval) → assign_act cp.facts xs here l type path (values cp.facts xs tm nought w es) w ≡ r
      → Runs (ex (one (store type l path es)) (pair w tm)) r
  assigned_runs type l path es w tm (gives v w1) h = rw h (runs_on v (pair w1 tm))
  assigned_runs type l path es w tm (stops s) h = rw h (runs_halt s)

  stores_run : {w : World} {tm : Temps} {n : ℕ} (type : CoreType) (l : ℕ) (path : Path) (y : Mades) {e : Ending} {vs : Vals} → Lists cp.facts xs w tm n y.values y.next_temp e vs
      → Runs (then_do e (ex (one (store type l path y.values)))) (assign_act cp.facts xs here l type path vs w)
  stores_run type l path y (lists_early u k) = runs_halt (undefined u k)
  stores_run {w} type l path y (lists tm1 vs mv g) =
      assigned_runs type l path y.values w tm1 (assign_act cp.facts xs here l type path vs w) (ap (λ vs. assign_act cp.facts xs here l type path vs w) (g tm1 (keeps_all y.next_temp tm1)))

  first_stores : {w : World} {tm : Temps} {n : ℕ} (type : CoreType) (l : ℕ) (path : Path) (es : t.Values) (m : Made) {e : Ending} {r : Eval} → Fixed cp.facts xs false w tm n m.value m.next_temp e r
      → (let y = pures xs m.value es m.next_temp in
      Runs (then_do e (ex (join y.before (one (store type l path y.values))))) (bind r (λ d w. assign_act cp.facts xs here l type path (values cp.facts xs no_temps d w es) w)))
  first_stores type l path es m (fixed_early s) = runs_halt s
  first_stores type l path es m (fixed w1 tm1 v mv g) =
      let y = pures xs m.value es m.next_temp in
      rw (join_ex cp dc xs here y.before (one (store type l path y.values)) (pair w1 tm1)) (stores_run type l path y (pures_ok cp dc xs here m.value v es w1 m.next_temp tm1 g))

  -- what is stored may have other operands than those whose effect comes first
  store_runs : (type : CoreType) (l : ℕ) (path : Path) (fs es : t.Values) (n : ℕ) (w : World) (tm : Temps)
      → Runs (ex (plain_store xs type l path (operands xs es (first_plan xs fs) n)).did (pair w tm))
      (bind (first_of cp.facts xs here calls fs w) (λ d w. assign_act cp.facts xs here l type path (values cp.facts xs no_temps d w es) w))
  store_runs type l path fs es n w tm =
      let m = first_plan xs fs n in
      let y = pures xs m.value es m.next_temp in
      rw (join_join cp dc xs here m.before y.before (one (store type l path y.values)) (pair w tm))
      (first_stores type l path es m ((firsts_ok cp dc xs here calls same_calls fs).ok n w tm))

  -- ---- expression statements

  abbrev does : t.Value → Act
  does = run cp.facts xs here calls

  abbrev EffectRuns : t.Value → Type 0
  EffectRuns e = (n : ℕ) (w : World) (tm : Temps) → Runs (ex (effect_of xs e n).did (pair w tm)) (does e w)

  store_effect : (type : CoreType) (l : ℕ) (path : Path) (es : t.Values) (n : ℕ) (w : World) (tm : Temps)
      → Runs (ex (plain_store xs type l path (operands xs es (first_plan xs es) n)).did (pair w tm)) (does (t.typed (t.effect (effect.Assign path) es) type l) w)
  store_effect type l path es n w tm = store_runs type l path es es n w tm

  -- the result of a call goes to an object at once
  abbrev place_act : CoreType → ℕ → Path → t.Values → Value → World → Eval
  place_act type l path es v w = assign_act cp.facts xs here l type path (push_val (is v) (values cp.facts xs no_temps v w es)) w

  place_runs : (type : CoreType) (l : ℕ) (path : Path) (es : t.Values) (n : ℕ) → (need es || have_effect es) ≡ false → Results (place type l path (pures xs no_value es n).values) (place_act type l path es)
  place_runs type l path es n h v w tm = rw (quiet_values cp dc xs here es h n w tm v) (placed (values cp.facts xs no_temps v w es))
    where
      written : (r : Written) → Runs (with_eval (wrote_act v r) (λ z w1. goes_on (core.in_world (pair w tm) w1))) (wrote_act v r)
      written (wrote w1) = runs_on v (pair w1 tm)
      written (unwritten s) = runs_halt s

      placed : (vs : Vals) → Runs (core.to_place cp dc xs here type l path v (pair w tm) vs) (assign_act cp.facts xs here l type path (push_val (is v) vs) w)
      placed (are vs) = written (write cp.facts xs here l type path w vs v)
      placed (wrongs u k) = runs_halt (undefined u k)

  call_to_place : (type : CoreType) (l : ℕ) (path : Path) (f : ℕ) (args : t.Values) (k : ℕ) (es : t.Values) (n : ℕ) (w : World) (tm : Temps) → (need es || have_effect es) ≡ false
      → Runs (ex (called_to xs type l path k f args es n).did (pair w tm)) (bind (call_act f k args w) (place_act type l path es))
  call_to_place type l path f args k es n w tm h =
      called_runs (place type l path (pures xs no_value es n).values) (place_act type l path es) (place_runs type l path es n h) f k args n w tm

  call_stored : (type : CoreType) (l : ℕ) (path : Path) (f : ℕ) (args : t.Values) (u : CoreType) (k : ℕ) (es : t.Values)
      → EffectRuns (t.typed (t.effect (effect.Assign path) (t.more (t.typed (t.effect (effect.Call f) args) u k) es)) type l)
  call_stored type l path f args u k es n w tm =
      let all = t.more (t.typed (t.effect (effect.Call f) args) u k) es in
      elim (need es || have_effect es) as (λ b. (need es || have_effect es) ≡ b → Runs (ex (if b then plain_store xs type l path (operands xs all (first_plan xs all) n) else called_to xs type l path k f args es n).did (pair w tm))
      (does (t.typed (t.effect (effect.Assign path) all) type l) w)) [
        | true ↦ (λ h. store_effect type l path all n w tm)
        | false ↦ (λ h. call_to_place type l path f args k es n w tm h)
      ] refl

  stored_runs : (type : CoreType) (l : ℕ) (path : Path) (es : t.Values) → EffectRuns (t.typed (t.effect (effect.Assign path) es) type l)
  stored_runs type l path t.stop n w tm = store_effect type l path t.stop n w tm
  stored_runs type l path (t.more (t.typed (t.effect (effect.Call f) as_) u k) es) n w tm = call_stored type l path f as_ u k es n w tm
  stored_runs type l path (t.more (t.typed (t.effect (effect.Assign q) as_) u k) es) n w tm = store_effect type l path (t.more (t.typed (t.effect (effect.Assign q) as_) u k) es) n w tm
  stored_runs type l path (t.more (t.typed (t.effect (effect.Update q by f) as_) u k) es) n w tm = store_effect type l path (t.more (t.typed (t.effect (effect.Update q by f) as_) u k) es) n w tm
  stored_runs type l path (t.more (t.typed (t.constant z) u k) es) n w tm = store_effect type l path (t.more (t.typed (t.constant z) u k) es) n w tm
  stored_runs type l path (t.more (t.typed t.null u k) es) n w tm = store_effect type l path (t.more (t.typed t.null u k) es) n w tm
  stored_runs type l path (t.more (t.typed (t.temporary i) u k) es) n w tm = store_effect type l path (t.more (t.typed (t.temporary i) u k) es) n w tm
  stored_runs type l path (t.more (t.typed (t.apply o as_) u k) es) n w tm = store_effect type l path (t.more (t.typed (t.apply o as_) u k) es) n w tm
  stored_runs type l path (t.more (t.typed (t.logic c a b) u k) es) n w tm = store_effect type l path (t.more (t.typed (t.logic c a b) u k) es) n w tm
  stored_runs type l path (t.more (t.typed (t.choose c a b) u k) es) n w tm = store_effect type l path (t.more (t.typed (t.choose c a b) u k) es) n w tm

  update_runs : (type : CoreType) (l : ℕ) (path : Path) (by : Change) (f : UpdateForm) (es : t.Values) → EffectRuns (t.typed (t.effect (effect.Update path by f) es) type l)
  update_runs type l path by form.Compound es n w tm = store_runs type l path es (updating path by type l es) n w tm
  update_runs type l path by form.Prefix es n w tm = store_runs type l path es (updating path by type l es) n w tm
  update_runs type l path by form.Postfix es n w tm =
      runs_as (does (t.typed (t.effect (effect.Update path by form.Postfix) es) type l) w) (store_runs type l path es (updating path by type l es) n w tm)
      (bind_same (first_of cp.facts xs here calls es w) (λ d w. assign_act cp.facts xs here l type path (values cp.facts xs no_temps d w (updating path by type l es)) w)
      (λ d w. postfix_act cp.facts xs here calls type l path by es d w) (λ d w. postfix_stores cp.facts xs here type l path calls by es d w))

  sure_runs : {still : Bool} {w : World} {tm : Temps} {i n : ℕ} {e : t.Value} {o : Ending} {r : Eval} → Sure cp.facts xs still w tm i e n o r → Runs o r
  sure_runs (sure_early s) = runs_halt s
  sure_runs (sure w1 tm1 v mv h) = runs_on v (pair w1 tm1)

  pub unless_sure : {still : Bool} {w : World} {tm : Temps} {n : ℕ} (m : Made) {r : Eval} (b : Bool) → (b ≡ true → has_checks xs m.value ≡ false) → Gives cp.facts xs still w tm n m.value m.next_temp (ex m.before (pair w tm)) r
      → (let x = save_unless b m in Sure cp.facts xs still w tm n x.value x.next_temp (ex x.before (pair w tm)) r)
  unless_sure m true h g = kept_sure cp dc xs here (h refl) g
  unless_sure m false h g = sure_of_fixed (saved cp dc xs here m g)

  pub planned_gives : (e : t.Value) (n : ℕ) (w : World) (tm : Temps)
      → (let m = (planned xs e).made n in Gives cp.facts xs false w tm n m.value m.next_temp (ex m.before (pair w tm)) (does e w))
  planned_gives e n w tm = (plans_ok cp dc xs here calls same_calls e).all_ok.made_ok n w tm (zero_stays cp.facts xs n tm)

  drop_effect : (e : t.Value) (n : ℕ) (w : World) (tm : Temps) → Runs (ex (dropped ((planned xs e).made n)).did (pair w tm)) (does e w)
  drop_effect e n w tm = let m = (planned xs e).made n in sure_runs (unless_sure m (is_temp m.value) (temp_sure xs m.value) (planned_gives e n w tm))

  nowhere_runs : Results nowhere gives
  nowhere_runs v w tm = runs_on v (pair w tm)

  pub effect_runs : (e : t.Value) → EffectRuns e
  effect_runs (t.typed (t.effect (effect.Assign path) es) type l) n w tm = stored_runs type l path es n w tm
  effect_runs (t.typed (t.effect (effect.Update path by f) es) type l) n w tm = update_runs type l path by f es n w tm
  effect_runs (t.typed (t.effect (effect.Call f) es) type l) n w tm =
      subst (λ r. Runs (ex (called_into nowhere l f (operands xs es (first_plan xs es) n)).did (pair w tm)) r) (bind_gives (call_act f l es w)) (called_runs nowhere gives nowhere_runs f l es n w tm)
  effect_runs (t.typed (t.constant z) type l) n w tm = drop_effect (t.typed (t.constant z) type l) n w tm
  effect_runs (t.typed t.null type l) n w tm = drop_effect (t.typed t.null type l) n w tm
  effect_runs (t.typed (t.temporary i) type l) n w tm = drop_effect (t.typed (t.temporary i) type l) n w tm
  effect_runs (t.typed (t.apply o es) type l) n w tm = drop_effect (t.typed (t.apply o es) type l) n w tm
  effect_runs (t.typed (t.logic c a b) type l) n w tm = drop_effect (t.typed (t.logic c a b) type l) n w tm
  effect_runs (t.typed (t.choose c a b) type l) n w tm = drop_effect (t.typed (t.choose c a b) type l) n w tm

  -- ---- declared variables

  abbrev begins : (x : ℕ) → Value → World → sp.Outcome
  begins x v w = sp.goes_on (initial_act xs x v w)

  start_like : {b c : ℕ} {still : Bool} {w : World} {tm : Temps} {n : ℕ} (x : ℕ) (m : Made) {e : Ending} {r : Eval} → Gives cp.facts xs still w tm n m.value m.next_temp e r
      → Like b c (then_do e (ex (one (start x m.value)))) (sp.ran r (begins x))
  start_like x m (early s) = halt s
  start_like x m (there w1 tm1 (is v) mv h) = rw (h tm1 (keeps_all m.next_temp tm1)) (on (pair (initial_act xs x v w1) tm1))
  start_like x m (there w1 tm1 (wrong u k) mv h) = rw (h tm1 (keeps_all m.next_temp tm1)) (halt (undefined u k))

  abbrev StartsLike : (x : ℕ) → t.Value → Type 0
  StartsLike x e = (b c n : ℕ) (w : World) (tm : Temps) → Like b c (ex (started xs x e n).did (pair w tm)) (sp.ran (does e w) (begins x))

  plain_start : (x : ℕ) (e : t.Value) (b c n : ℕ) (w : World) (tm : Temps) → Like b c (ex (let m = (planned xs e).made n in join m.before (one (start x m.value))) (pair w tm)) (sp.ran (does e w) (begins x))
  plain_start x e b c n w tm = let m = (planned xs e).made n in rw (join_ex cp dc xs here m.before (one (start x m.value)) (pair w tm)) (start_like x m (planned_gives e n w tm))

  variable_runs : (x : ℕ) → Results (variable x) (λ v w. gives v (initial_act xs x v w))
  variable_runs x v w tm = runs_on v (pair (initial_act xs x v w) tm)

  pub started_like : (x : ℕ) (e : t.Value) → StartsLike x e
  started_like x (t.typed (t.effect (effect.Call f) es) type l) b c n w tm =
      runs_bound (initial_act xs x) (call_act f l es w) (called_runs (variable x) (λ v w. gives v (initial_act xs x v w)) (variable_runs x) f l es n w tm)
  started_like x (t.typed (t.effect (effect.Assign path) es) type l) b c n w tm = plain_start x (t.typed (t.effect (effect.Assign path) es) type l) b c n w tm
  started_like x (t.typed (t.effect (effect.Update path by f) es) type l) b c n w tm = plain_start x (t.typed (t.effect (effect.Update path by f) es) type l) b c n w tm
  started_like x (t.typed (t.constant z) type l) b c n w tm = plain_start x (t.typed (t.constant z) type l) b c n w tm
  started_like x (t.typed t.null type l) b c n w tm = plain_start x (t.typed t.null type l) b c n w tm
  started_like x (t.typed (t.temporary i) type l) b c n w tm = plain_start x (t.typed (t.temporary i) type l) b c n w tm
  started_like x (t.typed (t.apply o es) type l) b c n w tm = plain_start x (t.typed (t.apply o es) type l) b c n w tm
  started_like x (t.typed (t.logic q a e) type l) b c n w tm = plain_start x (t.typed (t.logic q a e) type l) b c n w tm
  started_like x (t.typed (t.choose q a e) type l) b c n w tm = plain_start x (t.typed (t.choose q a e) type l) b c n w tm

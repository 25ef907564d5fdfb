-- Statements with one expression: what is used before them is used behind them.
use Rattle.std.proofs.Common.{◌≡◌, ℕ, Bool, true, false, not, ◌&&◌, ◌||◌, List, Option, Some, None, refl, sym}
use Rattle.std.proofs.lemmas.Bool.{false≢true}
use Rattle.typed_prog.specs.declared.types.CoreType.{CoreType}
use Rattle.typed_prog.specs.declared.operators.Effect.TheVariants as effect
use Rattle.typed_prog.specs.declared.operators.Path.{Path}
use Rattle.typed_prog.specs.Tree as t
use Rattle.c_runs.specs.Program.{Variable, Function, Facts, Stmts}
use Rattle.c_runs.specs.Run.{updating}
use Rattle.c_runs.specs.Core.{Target, nowhere, place, variable, store, start, call, give, join, one}
use Rattle.c_runs.specs.Adding.{goal_of}
use Rattle.c_runs.specs.Plans.{Made, Mades, operands, first_plan, planned}
use Rattle.c_runs.specs.Normal.{Did, is_temp, save_unless, dropped, called_into, plain_store, stored, effect_of, started, loop_test, loop_step, given}
use Rattle.plain_runs.specs.Kept.{goal_temp}
use Rattle.loop_words.specs.Told.{Temporaries, no_temporaries, uses, some_use, goal_uses}
use Rattle.plain_normal.specs.Plain.{IsPlain, IfWanted}
use Rattle.plain_words.proofs.Live.{either, left_in, right_in, Among, among_none, join_below, Reaches, lives, Fine, end_fine, join_fine}
use Rattle.plain_words.proofs.Made.{MadeWell, MadesWell, AllMade, TestsWell, save_well}
use Rattle.plain_words.proofs.Planned.{operands_well, first_well, planned_well}

module _ (xs : List Variable) (i : ℕ → Bool) where
  -- from this number on
  pub record DidWell (n : ℕ) (d : Did) : Type 0 where
    pub reaches : Reaches xs d.did n d.next_temp
    pub fine : (a : Temporaries) (os : List Temporaries) (f : Temporaries) → Among f a → Fine xs i a os f d.did

  abbrev pub AllDone : (ℕ → Did) → Type 0
  AllDone g = (n : ℕ) → DidWell n (g n)

  -- ---- values

  pub made_well : (e : t.Value) → AllMade xs i no_temporaries (planned xs e).made
  made_well e = (planned_well xs i e).made

  pub save_unless_well : (b : Bool) (n : ℕ) (m : Made) → MadeWell xs i no_temporaries n m → MadeWell xs i no_temporaries n (save_unless b m)
  save_unless_well true n m h = h
  save_unless_well false n m h = save_well xs i no_temporaries n m h

  dropped_well : (e : t.Value) → AllDone (λ n. dropped ((planned xs e).made n))
  dropped_well e n =
      let m = (planned xs e).made n in
      let x = save_unless (is_temp m.value) m in
      let h = save_unless_well (is_temp m.value) n m (made_well e n) in
      record { reaches = h.reaches; fine = λ a os f g. h.fine a os f (among_none a) (λ j e. left_in (a j) (uses x.value j) (g j e)) }

  start_well : (x : ℕ) (e : t.Value) → AllDone (λ n. record { did = join ((planned xs e).made n).before (one (start x ((planned xs e).made n).value)); next_temp = ((planned xs e).made n).next_temp })
  start_well x e n =
      let m = (planned xs e).made n in
      let h = made_well e n in
      let s = start x m.value in
      record {
        reaches = λ k low below. h.reaches k low (join_below xs m.before (one s) k below).0;
        fine = λ a os f g.
            join_fine xs i m.before (one s) a os f
            (h.fine a os (lives xs (one s) os f) (among_none a) (λ j. either (uses m.value j) (f j) (right_in (a j) (uses m.value j)) (λ e. left_in (a j) (uses m.value j) (g j e)))) (tt, tt);
      }

  -- ---- calls

  call_uses : (u v w f a : Bool) → v ≡ false → (f ≡ true → a ≡ true) → (u || v || (w && f)) ≡ true → (a || u) ≡ true
  call_uses true v w f a none h k = right_in a true refl
  call_uses false true w f a none h k = absurd (false≢true (sym none))
  call_uses false false true f a none h k = left_in a false (h k)
  call_uses false false false f a none h k = absurd (false≢true k)

  -- to what uses no temporary
  called_into_well : (to : Target) (l n j : ℕ) (y : Mades) → ((b : ℕ) → goal_uses (goal_of xs to) b ≡ false) → MadesWell xs i no_temporaries j y → DidWell j (called_into to l n y)
  called_into_well to l n j y none h =
      let s = call to n l y.values in
      record {
        reaches = λ k low below. h.reaches k low (join_below xs y.before (one s) k below).0;
        fine = λ a os f g.
            join_fine xs i y.before (one s) a os f
            (h.fine a os (lives xs (one s) os f) (among_none a)
            (λ b k. call_uses (some_use y.values b) (goal_uses (goal_of xs to) b) (not (goal_temp (goal_of xs to) b)) (f b) (a b) (none b) (g b) k)) (tt, tt);
      }

  call_well : (to : Target) (l n : ℕ) (es : t.Values) → ((b : ℕ) → goal_uses (goal_of xs to) b ≡ false) → AllDone (λ j. called_into to l n (operands xs es (first_plan xs es) j))
  call_well to l n es none j = called_into_well to l n j (operands xs es (first_plan xs es) j) none (operands_well xs i es (first_plan xs es) (first_well xs i es) j)

  -- ---- assignments

  store_done : (type : CoreType) (l : ℕ) (path : Path) (n : ℕ) (y : Mades) → MadesWell xs i no_temporaries n y → DidWell n (plain_store xs type l path y)
  store_done type l path n y h =
      let s = store type l path y.values in
      record {
        reaches = λ k low below. h.reaches k low (join_below xs y.before (one s) k below).0;
        fine = λ a os f g.
            join_fine xs i y.before (one s) a os f
            (h.fine a os (lives xs (one s) os f) (among_none a) (λ j. either (some_use y.values j) (f j) (right_in (a j) (some_use y.values j)) (λ e. left_in (a j) (some_use y.values j) (g j e))))
            (tt, tt);
      }

  store_well : (type : CoreType) (l : ℕ) (path : Path) (es fs : t.Values) → AllDone (λ n. plain_store xs type l path (operands xs es (first_plan xs fs) n))
  store_well type l path es fs n = store_done type l path n (operands xs es (first_plan xs fs) n) (operands_well xs i es (first_plan xs fs) (first_well xs i fs) n)

  stored_well : (type : CoreType) (l : ℕ) (path : Path) (a : t.Value) → AllDone (stored xs type l path (t.more a t.stop))
  stored_well type l path (t.typed (t.effect (effect.Call n) es) u k) = call_well (place type l path t.stop) k n es (λ b. refl)
  stored_well type l path (t.typed (t.effect (effect.Assign p) es) u k) = store_well type l path (t.more (t.typed (t.effect (effect.Assign p) es) u k) t.stop) (t.more (t.typed (t.effect (effect.Assign p) es) u k) t.stop)
  stored_well type l path (t.typed (t.effect (effect.Update p by g) es) u k) =
      store_well type l path (t.more (t.typed (t.effect (effect.Update p by g) es) u k) t.stop) (t.more (t.typed (t.effect (effect.Update p by g) es) u k) t.stop)
  stored_well type l path (t.typed (t.constant z) u k) = store_well type l path (t.more (t.typed (t.constant z) u k) t.stop) (t.more (t.typed (t.constant z) u k) t.stop)
  stored_well type l path (t.typed t.null u k) = store_well type l path (t.more (t.typed t.null u k) t.stop) (t.more (t.typed t.null u k) t.stop)
  stored_well type l path (t.typed (t.temporary j) u k) = store_well type l path (t.more (t.typed (t.temporary j) u k) t.stop) (t.more (t.typed (t.temporary j) u k) t.stop)
  stored_well type l path (t.typed (t.apply o es) u k) = store_well type l path (t.more (t.typed (t.apply o es) u k) t.stop) (t.more (t.typed (t.apply o es) u k) t.stop)
  stored_well type l path (t.typed (t.logic c a b) u k) = store_well type l path (t.more (t.typed (t.logic c a b) u k) t.stop) (t.more (t.typed (t.logic c a b) u k) t.stop)
  stored_well type l path (t.typed (t.choose c a b) u k) = store_well type l path (t.more (t.typed (t.choose c a b) u k) t.stop) (t.more (t.typed (t.choose c a b) u k) t.stop)

  module _ (p : Facts) (functions : ℕ → Option (Function Stmts)) (f : ℕ → Bool) where
    pub effect_done : (e : t.Value) → IsPlain p xs functions f e → AllDone (effect_of xs e)
    effect_done (t.typed (t.effect (effect.Assign path) t.stop) type l) h = elim h.1.1.3 [ ]
    effect_done (t.typed (t.effect (effect.Assign path) (t.more a (t.more b es))) type l) h = elim h.1.1.3 [ ]
    effect_done (t.typed (t.effect (effect.Assign path) (t.more a t.stop)) type l) h = stored_well type l path a
    effect_done (t.typed (t.effect (effect.Update path by g) es) type l) h = store_well type l path (updating path by type l es) es
    effect_done (t.typed (t.effect (effect.Call n) es) type l) h = call_well nowhere l n es (λ b. refl)
    effect_done (t.typed (t.constant z) type l) h = dropped_well (t.typed (t.constant z) type l)
    effect_done (t.typed t.null type l) h = dropped_well (t.typed t.null type l)
    effect_done (t.typed (t.temporary n) type l) h = dropped_well (t.typed (t.temporary n) type l)
    effect_done (t.typed (t.apply o es) type l) h = dropped_well (t.typed (t.apply o es) type l)
    effect_done (t.typed (t.logic c a b) type l) h = dropped_well (t.typed (t.logic c a b) type l)
    effect_done (t.typed (t.choose c a b) type l) h = dropped_well (t.typed (t.choose c a b) type l)

    pub step_done : (o : Option t.Value) → IfWanted p xs functions f o → AllDone (loop_step xs o)
    step_done None h n = record { reaches = λ k low below. low; fine = λ a os g e. end_fine xs i a os g e }
    step_done (Some e) h n = effect_done e h.0 n

  -- ---- first values, tests and results

  pub started_done : (x : ℕ) (e : t.Value) → AllDone (started xs x e)
  started_done x (t.typed (t.effect (effect.Call n) es) type l) = call_well (variable x) l n es (λ b. refl)
  started_done x (t.typed (t.effect (effect.Assign path) es) type l) = start_well x (t.typed (t.effect (effect.Assign path) es) type l)
  started_done x (t.typed (t.effect (effect.Update path by g) es) type l) = start_well x (t.typed (t.effect (effect.Update path by g) es) type l)
  started_done x (t.typed (t.constant z) type l) = start_well x (t.typed (t.constant z) type l)
  started_done x (t.typed t.null type l) = start_well x (t.typed t.null type l)
  started_done x (t.typed (t.temporary n) type l) = start_well x (t.typed (t.temporary n) type l)
  started_done x (t.typed (t.apply o es) type l) = start_well x (t.typed (t.apply o es) type l)
  started_done x (t.typed (t.logic c a b) type l) = start_well x (t.typed (t.logic c a b) type l)
  started_done x (t.typed (t.choose c a b) type l) = start_well x (t.typed (t.choose c a b) type l)

  pub tests_done : (o : Option t.Value) (n : ℕ) → TestsWell xs i no_temporaries 0 n (loop_test xs o n)
  tests_done None n = record { reaches = λ k low below. low; fine = λ a os f g out e. end_fine xs i a os f e }
  tests_done (Some e) n = (planned_well xs i e).test true 0 n

  pub given_done : (o : Option t.Value) → AllDone (given xs o)
  given_done None n = record { reaches = λ k low below. low; fine = λ a os f g. record { live = λ j e. absurd (false≢true e); stays = (tt, tt) } }
  given_done (Some e) n =
      let m = (planned xs e).made n in
      let h = made_well e n in
      let s = give (Some m.value) in
      record {
        reaches = λ k low below. h.reaches k low (join_below xs m.before (one s) k below).0;
        fine = λ a os f g. join_fine xs i m.before (one s) a os f (h.fine a os (lives xs (one s) os f) (among_none a) (λ j e. right_in (a j) (uses m.value j) e)) (tt, tt);
      }

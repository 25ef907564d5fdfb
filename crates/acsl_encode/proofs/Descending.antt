-- A logic function that calls itself has the value of its formulas, step by step.
use Rattle.std.proofs.Common.{◌≡◌, ℕ, zero, suc, eqb, Bool, true, false, ◌&&◌, cond, List, [], ◌∷◌, ◌++◌, length, refl, sym, ap, ◌∙◌, subst, arith}
use Rattle.std.specs.Prelude.{ℤ, pos, negsuc, ◌-ℤ◌, ◌-◌, int_le, Option, Some, if◌then◌else◌}
use Rattle.std.specs.Str.{bytes_eq}
use Rattle.std.proofs.lemmas.Bool.{false≢true}
use Rattle.std.proofs.lemmas.Bool.Decides.{Decides-eqb}
use Rattle.std.proofs.lemmas.Int.{ints}
use Rattle.std.proofs.lemmas.Slice.Eq.{bytes_eq-Decides}
use Rattle.wp_base.specs.Blocks.{to_nat}
use Rattle.c_kinds.specs.Models.{long_bits}
use Rattle.typed_prog.specs.declared.operators.Comparison.TheVariants as cmp
use Rattle.acsl_trees.specs.declared.heads.Head.TheVariants as hd
use Rattle.acsl_trees.specs.Tree.{Tree, leaf, two, three}
use Rattle.c_runs.specs.TruthStates.{Value, World, number, number_of, truth}
use Rattle.c_runs.specs.Truth.{Calls, last_of, value_at, named, chosen, value, with_call, stepped}
use Rattle.c_runs.specs.Recursion.{goes_down}
use Rattle.qed_terms.specs.Names.{is_name}
use Rattle.qed_terms.specs.Tree.{Tree as Term, var}
use Rattle.qed_terms.specs.Meaning.{Values, World as Logic}
use Rattle.qed_terms.specs.Setting.{Apps, are_arguments, bound, uses, with_function, descend}
use Rattle.qed_terms.specs.Setting as setting
use Rattle.acsl_encode.specs.Readings.{Named, one, Called, Common}
use Rattle.acsl_encode.specs.Encode.{encoded}
use Rattle.acsl_encode.specs.Meaning.{Holds, number_in, Means, Stands}
use Rattle.acsl_encode.specs.Binders.{Spelled, numbered, AllLack, Differ, Later}
use Rattle.acsl_encode.specs.Calls.{Given, AreArguments, AllAre, IsMemory, IsGlobal, Shares, CallStands}
use Rattle.acsl_encode.specs.WellFormed.{IsInt}
use Rattle.acsl_encode.specs.Setting.{params_of, memory_params, global_params, all_params, params_in, names_of, Known, body_reading, body_term, with_called}
use Rattle.acsl_encode.specs.Setting.{function_of}
use Rattle.acsl_encode.specs.Regular.{CalledFits}
use Rattle.acsl_encode.proofs.Operands.{IsNumber, as_number}
use Rattle.acsl_encode.proofs.Naming.{binders_differ}
use Rattle.acsl_encode.proofs.Around.{Around, later_same}
use Rattle.acsl_encode.proofs.Annotated.{same_meaning}
use Rattle.acsl_encode.proofs.Bound.{AllBound, all_bound, both_arguments, split_bound}
use Rattle.acsl_encode.proofs.Bodies.{arguments_count, memories_count, globals_count, names_mean}
use Rattle.acsl_encode.proofs.Reading_bodies.{later_bound, body_stands, body_fits, names_fit}
use Rattle.acsl_encode.proofs.Steps.{step_means}

-- ---- how far above the cut

at_cut : (z c : ℤ) → to_nat (z -ℤ c) ≡ 0 → int_le z c ≡ true
at_cut z c h = by (z -ℤ c) refl h
  where
    by : (d : ℤ) → z -ℤ c ≡ d → to_nat d ≡ 0 → int_le z c ≡ true
    by (pos n) e h = grind (arith, ints, e, h)
    by (negsuc n) e h = grind (arith, ints, e)

above_cut : (z c : ℤ) (j : ℕ) → to_nat (z -ℤ c) ≡ suc j → (int_le z c ≡ false) × (to_nat ((z -ℤ pos 1) -ℤ c) ≡ j)
above_cut z c j h = by (z -ℤ c) refl h
  where
    by : (d : ℤ) → z -ℤ c ≡ d → to_nat d ≡ suc j → (int_le z c ≡ false) × (to_nat ((z -ℤ pos 1) -ℤ c) ≡ j)
    by (pos n) e h = let less : (z -ℤ pos 1) -ℤ c ≡ pos j = omega (arith, ints, e, h) in (grind (arith, ints, e, h), ap to_nat less)
    by (negsuc n) e h = absurd (omega (arith, h))

chosen_base : (b : Bool) (v u : Value) → b ≡ true → chosen (truth b ∷ v ∷ u ∷ []) ≡ v
chosen_base true v u h = refl
chosen_base false v u h = absurd (false≢true h)

chosen_step : (b : Bool) (v u : Value) → b ≡ false → chosen (truth b ∷ v ∷ u ∷ []) ≡ u
chosen_step true v u h = absurd (false≢true (sym h))
chosen_step false v u h = refl

there : {X : Type 0} (p : X → Type 0) (o : Option X) (x : X) → Holds p o → o ≡ Some x → p x
there p o x h e = subst (Holds p) e h

pub count_same : (ps : List Named) (vs : List Value) (args : Given) → AreArguments ps vs args → length ps ≡ length vs
count_same [] [] args h = refl
count_same [] (v ∷ vs) args h = absurd h
count_same (p ∷ ps) [] args h = absurd h
count_same (p ∷ ps) (v ∷ vs) args h = ap suc (count_same ps vs h.1 h.3)

pub front_length : (front : List Named) (y : List ℕ) → length (front ++ one y ∷ []) ≡ suc (length front)
front_length [] y = refl
front_length (p ∷ front) y = ap suc (front_length front y)

-- ---- the function

module _ (names : Spelled) (lack : AllLack names) (r : Common) (binders_are : (k : ℕ) → r.binder k ≡ numbered names k)
    (binders_fit : (k : ℕ) → IsInt (var (r.binder k)))
    (known : Known) (known_names : (f : ℕ) (e : Called) → known f ≡ Some e → is_name e.name ≡ true)
    (n : ℕ) (c : Called) (fits : CalledFits c) (front : List Named) (last : List ℕ) (params : c.params ≡ front ++ one last ∷ [])
    (cut : ℤ) (base step : Tree) (goes : goes_down n (length front) step ≡ true) (tb ts : Term) (is_base : body_term r known c base ≡ Some tb)
    (is_step : body_term r (with_called n (Some c) known) c step ≡ Some ts)
    (apps : Apps) (m : Calls) (stands : (f : ℕ) (e : Called) → known f ≡ Some e → CallStands apps m r f e)
    (other : (f : ℕ) (e : Called) → known f ≡ Some e → (eqb f n ≡ false) × (bytes_eq e.name c.name ≡ false)) where
  abbrev x : ℕ
  x = length front

  abbrev body : Tree
  body = three hd.Choose (two (hd.Compare cmp.AtMost) (leaf (hd.Name x)) (leaf (hd.Number cut))) base step

  abbrev function : setting.Logic
  function = function_of c cut tb ts

  abbrev bits : ℕ
  bits = long_bits r.model

  abbrev logic : Apps → Logic
  logic apps = record { long_bits = bits; apps = apps }

  abbrev below : ℕ → Calls
  below j = with_call n (stepped m n body j) m

  abbrev apps_below : ℕ → Apps
  apps_below j = with_function apps function (descend bits apps function j)

  differ : Differ r.binder
  differ i j e = binders_differ names lack i j (sym (binders_are i) ∙ e ∙ binders_are j)

  step_names : (f : ℕ) (e : Called) → with_called n (Some c) known f ≡ Some e → is_name e.name ≡ true
  step_names f e h = by (eqb f n) refl h
    where
      by : (b : Bool) → eqb f n ≡ b → (if b then Some c else known f) ≡ Some e → is_name e.name ≡ true
      by true so h = let same : c ≡ e = cc in ap (λ d. is_name d.name) (sym same) ∙ fits.name
      by false so h = known_names f e h

  -- calls of other functions are as they were
  others : (j f : ℕ) (e : Called) (q : Apps) → known f ≡ Some e → ((vals : Given) → q e.name vals ≡ apps e.name vals) → CallStands q (below j) r f e
  others j f e q h same vs w args ms gs s a b g =
      ap (λ t. if t then stepped m n body j vs w else m f vs w) (other f e h).0 ∙ stands f e h vs w args ms gs s a b g ∙ ap number
      (sym (same (args ++ (ms ++ gs))))

  other_apps : (f j : ℕ) (e : Called) → known f ≡ Some e → (vals : Given) → apps_below j e.name vals ≡ apps e.name vals
  other_apps f j e h vals =
      ap (λ b. cond (b && are_arguments (params_in c) vals) (descend bits apps function j vals) (apps e.name vals)) (other f e h).1

  module _ (vs : List Value) (w : World) (args ms gs : Given) (shares : Shares r w) (are : AreArguments c.params vs args)
      (memories : AllAre (IsMemory r.model w.here) c.memories ms) (globals : AllAre (IsGlobal r w.here) c.globals gs) where
    abbrev vals : Given
    vals = args ++ (ms ++ gs)

    abbrev env : Values
    env = bound (params_in c) vals

    pub counts : are_arguments (params_in c) vals ≡ true
    counts =
        both_arguments (all_params params_of c.params) (all_params memory_params c.memories ++ all_params global_params c.globals) args (ms ++ gs)
        (arguments_count c.params vs args are)
        (both_arguments (all_params memory_params c.memories) (all_params global_params c.globals) ms gs (memories_count r w.here c.memories ms memories)
        (globals_count r w.here c.globals gs globals))

    -- each part is bound, whatever binders are
    record Parts (env' : Values) : Type 0 where
      of_params : AllBound env' (all_params params_of c.params) args
      of_memories : AllBound env' (all_params memory_params c.memories) ms
      of_globals : AllBound env' (all_params global_params c.globals) gs

    parts : (env' : Values) → Later r.binder 0 env env' → Parts env'
    parts env' l =
        let all = later_bound names r binders_are env env' l c fits vals (all_bound (params_in c) vals fits.differ counts) in
        let one = split_bound env' (all_params params_of c.params) (all_params memory_params c.memories ++ all_params global_params c.globals) args (ms ++ gs)
        (arguments_count c.params vs args are) all in
        let two = split_bound env' (all_params memory_params c.memories) (all_params global_params c.globals) ms gs
        (memories_count r w.here c.memories ms memories) one.1 in
        record { of_params = one.0; of_memories = two.0; of_globals = two.1 }

    stands_then : (q : Apps) (known' : Known) (env' : Values) → Later r.binder 0 env env' → Stands (logic q) (body_reading r known' c) env' w
    stands_then q known' env' l =
        let p = parts env' l in body_stands (logic q) r known' c env' w shares refl ms gs memories globals p.of_memories p.of_globals

    named_then : (q : Apps) (known' : Known) (env' : Values) → Later r.binder 0 env env' → (y : ℕ) → Means (logic q) r env' (names_of c.params y) (named vs y)
    named_then q known' env' l y = names_mean (logic q) env' r c.params vs args are (parts env' l).of_params y

    base_around : Around (logic apps) (below 0)
    base_around = record {
      r = body_reading r known c;
      w = w;
      env = env;
      ns = names_of c.params;
      values = named vs;
      i = 0;
      d = length c.params;
      differ = differ;
      calls = λ f e h. others 0 f e apps h (λ vals. refl);
      good = body_fits r known c fits binders_fit known_names;
      names_fit = names_fit c.params fits.params;
      stands = stands_then apps known;
      fits = named_then apps known;
    }

    -- an arm with this term has the value of its term
    arm_is : (q : Apps) (known' : Known) (m' : Calls) (t : Tree) (u : Term) → body_term r known' c t ≡ Some u
        → Means (logic q) r env (encoded (body_reading r known' c) (names_of c.params) 0 (length c.params) t) (value m' (named vs) (length c.params) w t)
        → value m' (named vs) (length vs) w t ≡ number (number_in (logic q) env u)
    arm_is q known' m' t u e means =
        ap (λ d. value m' (named vs) d w t) (sym (count_same c.params vs args are))
        ∙ there (IsNumber (logic q) r env (value m' (named vs) (length c.params) w t)) (body_term r known' c t) u
        (as_number (logic q) r env (encoded (body_reading r known' c) (names_of c.params) 0 (length c.params) t)
        (value m' (named vs) (length c.params) w t) means) e

    base_value : to_nat (number_of (value_at vs x) -ℤ cut) ≡ 0 → stepped m n body 1 vs w ≡ number (descend bits apps function 0 vals)
    unfolding descend base_around
    base_value at =
        chosen_base (int_le (number_of (value_at vs x)) cut) (value (below 0) (named vs) (length vs) w base) (value (below 0) (named vs) (length vs) w step)
        (at_cut (number_of (value_at vs x)) cut at)
        ∙ arm_is apps known (below 0) base tb is_base (same_meaning (logic apps) (below 0) base base_around)

    -- the function itself one step further down
    abbrev Own : ℕ → Type 0
    Own j =
        (us : List Value) → number_of (last_of us) ≡ number_of (value_at vs x) -ℤ pos 1 → (args' ms' gs' : Given) → AreArguments c.params us args'
        → AllAre (IsMemory r.model w.here) c.memories ms' → AllAre (IsGlobal r w.here) c.globals gs'
        → below (suc j) n us w ≡ number (apps_below j c.name (args' ++ (ms' ++ gs')))

    step_value : (j : ℕ) → int_le (number_of (value_at vs x)) cut ≡ false → Own j → stepped m n body (suc (suc j)) vs w ≡ number
        (descend bits apps function (suc j) vals)
    unfolding descend
    step_value j above own =
        chosen_step (int_le (number_of (value_at vs x)) cut) (value (below (suc j)) (named vs) (length vs) w base)
        (value (below (suc j)) (named vs) (length vs) w step) above
        ∙ arm_is (apps_below j) (with_called n (Some c) known) (below (suc j)) step ts is_step
        (step_means (logic (apps_below j)) (below (suc j)) (body_reading r (with_called n (Some c) known) c) known n x c env w (names_of c.params) (named vs)
        (length c.params)
        (stands_then (apps_below j) (with_called n (Some c) known) env (later_same r.binder 0 env))
        (body_fits r (with_called n (Some c) known) c fits binders_fit step_names) (names_fit c.params fits.params)
        (named_then (apps_below j) (with_called n (Some c) known) env (later_same r.binder 0 env)) (λ f. refl)
        (λ f e not_so h. others (suc j) f e (apps_below j) h (other_apps f j e h)) refl own step 0 goes)

  -- ---- all steps

  used : (given : Given) → are_arguments (params_in c) given ≡ true → uses function c.name given ≡ true
  used given a = let e = (bytes_eq-Decides c.name c.name).1 refl in λ i. e i && a i

  abbrev Descended : ℕ → Type 0
  Descended j =
      (vs : List Value) (w : World) (args ms gs : Given) → Shares r w → AreArguments c.params vs args → AllAre (IsMemory r.model w.here) c.memories ms
      → AllAre (IsGlobal r w.here) c.globals gs → to_nat (number_of (value_at vs x) -ℤ cut) ≡ j
      → stepped m n body (suc j) vs w ≡ number (descend bits apps function j (args ++ (ms ++ gs)))

  pub descended : (j : ℕ) → Descended j
  descended zero vs w args ms gs s a b g at = base_value vs w args ms gs s a b g at
  descended (suc j) vs w args ms gs s a b g at =
      let up = above_cut (number_of (value_at vs x)) cut j at in step_value vs w args ms gs s a b g j up.0 (own up.1 (descended j))
    where
      own : to_nat ((number_of (value_at vs x) -ℤ pos 1) -ℤ cut) ≡ j → Descended j → Own vs w args ms gs s a b g j
      own less lower us at args' ms' gs' a' b' g' =
          let long : length us ≡ suc x = sym (count_same c.params us args' a') ∙ ap length params ∙ front_length front last in
          let place : length us - 1 ≡ x = omega (arith, long) in
          let now : to_nat (number_of (value_at us x) -ℤ cut) ≡ j = ap (λ k. to_nat (number_of (value_at us k) -ℤ cut)) (sym place) ∙ ap
          (λ z. to_nat (z -ℤ cut)) at ∙ less in
          ap (λ t. if t then stepped m n body (suc j) us w else m n us w) ((Decides-eqb n n).1 refl)
          ∙ lower us w args' ms' gs' s a' b' g' now
          ∙ ap (λ t. number (cond t (descend bits apps function j (args' ++ (ms' ++ gs'))) (apps c.name (args' ++ (ms' ++ gs')))))
          (sym (used (args' ++ (ms' ++ gs')) (counts us w args' ms' gs' s a' b' g')))

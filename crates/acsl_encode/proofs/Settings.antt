-- In the setting of their definitions, logic functions have the values that the definitions give.
use Rattle.std.proofs.Common.{◌≡◌, ℕ, zero, suc, ◌<◌, eqb, Bool, true, false, ◌&&◌, cond, List, [], ◌∷◌, ◌++◌, length, refl, sym, ap, ◌∙◌, subst, arith, ⊎_elim}
use Rattle.std.specs.Prelude.{◌-ℤ◌, ◌-◌, Option, Some, None, if◌then◌else◌}
use Rattle.std.specs.Str.{bytes_eq}
use Rattle.std.proofs.lemmas.Bool.{cases_Bool, eqb-true}
use Rattle.std.proofs.lemmas.Bool.Decides.{Decides-eqb}
use Rattle.std.proofs.lemmas.Slice.Eq.{bytes_eq-Decides}
use Rattle.wp_base.specs.Blocks.{to_nat}
use Rattle.c_kinds.specs.Models.{long_bits}
use Rattle.typed_prog.specs.declared.operators.Comparison.TheVariants as cmp
use Rattle.acsl_trees.specs.declared.heads.Head.TheVariants as hd
use Rattle.acsl_trees.specs.Tree.{Tree, leaf, three, two as two_kids}
use Rattle.acsl_expand.specs.Expansion.{Definition, definition_at}
use Rattle.c_runs.specs.TruthStates.{Value, World, number, number_of}
use Rattle.c_runs.specs.Truth.{last_of, value_at, kid, test_number, recursive_value, body_value, call_value, calls_first}
use Rattle.qed_terms.specs.Names.{is_name}
use Rattle.qed_terms.specs.Tree.{Tree as Term}
use Rattle.qed_terms.specs.Setting.{Logic, Apps, argument_at, are_arguments, descend, steps_of, uses, after, apps_from, no_apps, world_of}
use Rattle.acsl_encode.specs.Readings.{Named, one, two, Called, Common}
use Rattle.acsl_encode.specs.Encode.{on_two}
use Rattle.acsl_encode.specs.Binders.{Spelled}
use Rattle.acsl_encode.specs.Calls.{Given, AreArguments, AllAre, IsMemory, IsGlobal, Shares, CallStands}
use Rattle.acsl_encode.specs.Setting.{params_of, memory_params, global_params, all_params, params_in, Known, body_term, with_called, number_place}
use Rattle.acsl_encode.specs.Setting.{function_of, logic_of, logic_at, in_form, known_first, more_logic, logic_first}
use Rattle.acsl_encode.specs.Regular.{CalledFits, Descends, InOrder, SettingStands}
use Rattle.acsl_encode.proofs.Descending.{count_same, front_length, descended}
use Rattle.acsl_encode.proofs.Bound.{both_arguments}
use Rattle.acsl_encode.proofs.Bodies.{arguments_count, memories_count, globals_count}

-- ---- the place of the last argument

place : List Named → ℕ
place [] = 0
place (one x ∷ ps) = suc (place ps)
place (two b o ∷ ps) = suc (suc (place ps))

flat_count : (front : List Named) (y : List ℕ) → length (all_params params_of (front ++ one y ∷ [])) ≡ suc (place front)
unfolding place
flat_count [] y = refl
flat_count (one x ∷ front) y = ap suc (flat_count front y)
flat_count (two b o ∷ front) y = ap (λ n. suc (suc n)) (flat_count front y)

last_argument : (front : List Named) (y : List ℕ) (vs : List Value) (args rest : Given) → AreArguments (front ++ one y ∷ []) vs args
    → argument_at (args ++ rest) (place front) ≡ number_of (value_at vs (length front))
unfolding place
last_argument [] y [] args rest h = absurd h
last_argument [] y (v ∷ vs) args rest h =
    ap (λ a. argument_at (a ++ rest) 0) (h.4 ∙ ap (λ a. a ++ h.1) h.2.2) ∙ sym (ap number_of h.2.1)
last_argument (p ∷ front) y [] args rest h = absurd h
last_argument (one x ∷ front) y (v ∷ vs) args rest h =
    ap (λ a. argument_at (a ++ rest) (suc (place front))) (h.4 ∙ ap (λ a. a ++ h.1) h.2.2) ∙ last_argument front y vs h.1 rest h.3
last_argument (two b o ∷ front) y (v ∷ vs) args rest h =
    ap (λ a. argument_at (a ++ rest) (suc (suc (place front)))) (h.4 ∙ ap (λ a. a ++ h.1) h.2.4) ∙ last_argument front y vs h.1 rest h.3

-- ---- counts

all_counted : (r : Common) (c : Called) (vs : List Value) (w : World) (args ms gs : Given) → AreArguments c.params vs args → AllAre
    (IsMemory r.model w.here) c.memories ms
    → AllAre (IsGlobal r w.here) c.globals gs → are_arguments (params_in c) (args ++ (ms ++ gs)) ≡ true
all_counted r c vs w args ms gs a b g =
    both_arguments (all_params params_of c.params) (all_params memory_params c.memories ++ all_params global_params c.globals) args (ms ++ gs)
    (arguments_count c.params vs args a)
    (both_arguments (all_params memory_params c.memories) (all_params global_params c.globals) ms gs (memories_count r w.here c.memories ms b)
    (globals_count r w.here c.globals gs g))

-- ---- what is made

record BothThere (X Y : Type 0) (f : X → X → Y) (o o' : Option X) (y : Y) : Type 0 where
  first : X
  second : X
  is_first : o ≡ Some first
  is_second : o' ≡ Some second
  made : f first second ≡ y

both_there : (X Y : Type 0) (f : X → X → Y) (o o' : Option X) (y : Y) → on_two f o o' ≡ Some y → BothThere X Y f o o' y
both_there X Y f (Some a) (Some b) y h = record { first = a; second = b; is_first = refl; is_second = refl; made = cc }
both_there X Y f (Some a) None y h = absurd cc
both_there X Y f None o' y h = absurd cc

apps_more : (bits : ℕ) (known : Apps) (fs : List Logic) (f : Logic) → apps_from bits known (fs ++ f ∷ []) ≡ after bits (apps_from bits known fs) f
apps_more bits known [] f = refl
apps_more bits known (g ∷ fs) f = apps_more bits (after bits known g) fs f

-- ---- definitions

module _ (names : Spelled) (r : Common) (told : ℕ → Called) (ds : List Definition) (good : InOrder names r told ds) where
  abbrev bits : ℕ
  bits = long_bits r.model

  abbrev known : ℕ → Known
  known n = known_first r told ds n

  abbrev is_recursive : ℕ → Bool
  is_recursive n = (definition_at ds n).is_recursive

  abbrev own : ℕ → Option Logic
  own n = logic_at r (known n) told ds n

  abbrev apps : ℕ → Apps
  apps n = apps_from bits no_apps (logic_first r told ds n)

  -- a function that is known is a definition before, and calls itself
  record Fact (n f : ℕ) (c : Called) : Type 0 where
    before : f < n
    called : told f ≡ c
    recursive : is_recursive f ≡ true

  own_fact : (n : ℕ) (b : Bool) (o : Option Logic) (c : Called) → in_form (told n) (if b then o else None) ≡ Some c → (b ≡ true) × (told n ≡ c)
  own_fact n true (Some l) c h = (refl, cc)
  own_fact n true None c h = absurd cc
  own_fact n false o c h = absurd cc

  facts : (n f : ℕ) (c : Called) → known n f ≡ Some c → Fact n f c
  unfolding known_first
  facts zero f c h = absurd cc
  facts (suc n) f c h = by (eqb f n) refl h (facts n f c)
    where
      by : (b : Bool) → eqb f n ≡ b → (if b then in_form (told n) (own n) else known n f) ≡ Some c → (known n f ≡ Some c → Fact n f c) → Fact (suc n) f c
      by true so h earlier =
          let is : f ≡ n = eqb-true f n so in
          let e = own_fact n (is_recursive n) (logic_of r (known n) n (told n) (definition_at ds n).body) c h in
          record { before = omega (arith, is); called = ap told is ∙ e.1; recursive = ap is_recursive is ∙ e.0 }
      by false so h earlier = let e = earlier h in record { before = omega (arith, e.before); called = e.called; recursive = e.recursive }

  names_are : (n f : ℕ) (c : Called) → known n f ≡ Some c → is_name c.name ≡ true
  names_are n f c h = let e = facts n f c h in subst (λ d. is_name d.name ≡ true) e.called (good.called f e.recursive).name

  differs : (n f : ℕ) (c : Called) → known n f ≡ Some c → (eqb f n ≡ false) × (bytes_eq c.name (told n).name ≡ false)
  differs n f c h =
      let e = facts n f c h in
      let apart : f ≡ n → ⊥ = λ p. omega (arith, p, e.before) in (
        ⊎_elim (λ yes. absurd (apart (eqb-true f n yes))) (λ no. no) (cases_Bool (eqb f n)),
        ⊎_elim
            (λ yes. absurd (apart (good.differ f n (ap (λ (d : Called). d.name) e.called ∙ (bytes_eq-Decides c.name (told n).name).0 yes))))
            (λ no. no)
            (cases_Bool (bytes_eq c.name (told n).name)),
      )

  abbrev Stand : ℕ → Type 0
  Stand n = (f : ℕ) (c : Called) → known n f ≡ Some c → CallStands (apps n) (calls_first ds n) r f c

  -- ---- the function that a definition makes

  module _ (n : ℕ) (before : Stand n) (recursive : is_recursive n ≡ true) where
    abbrev c : Called
    c = told n

    abbrev d : Descends n c (definition_at ds n).body
    d = good.recursions n recursive

    abbrev body : Tree
    body =
        three hd.Choose (two_kids (hd.Compare cmp.AtMost) (leaf (hd.Name (length d.front)))
        (leaf (hd.Number d.recursion.bound))) d.recursion.base d.recursion.step

    body_stands : (l : Logic) → logic_of r (known n) n c body ≡ Some l → (vs : List Value) (w : World) (args ms gs : Given) → Shares r w
        → AreArguments c.params vs args
        → AllAre (IsMemory r.model w.here) c.memories ms → AllAre (IsGlobal r w.here) c.globals gs
        → recursive_value (calls_first ds n) n body vs w ≡ number (after bits (apps n) l c.name (args ++ (ms ++ gs)))
    body_stands l made vs w args ms gs s a b g =
        descended names good.spelled r good.binders good.binders_fit (known n)
        (names_are n) n c fits d.front d.last d.params d.recursion.bound d.recursion.base d.recursion.step
        d.recursion.step_goes arms.first arms.second arms.is_first arms.is_second (apps n) (calls_first ds n) before (differs n)
        (to_nat (number_of (last_of vs) -ℤ d.recursion.bound)) vs w args ms gs s a b g
        (ap (λ k. to_nat (number_of (value_at vs k) -ℤ d.recursion.bound)) (sym long))
        ∙ ap (λ k. number (descend bits (apps n) made_of (to_nat (k -ℤ d.recursion.bound)) vals)) (sym last_is)
        ∙ sym (ap (λ t. number (cond t (descend bits (apps n) made_of (steps_of made_of vals) vals) (apps n c.name vals))) used)
        ∙ ap (λ f. number (after bits (apps n) f c.name vals)) arms.made
      where
        fits : CalledFits c
        fits = good.called n recursive

        arms : BothThere Term Logic (function_of c d.recursion.bound) (body_term r (known n) c d.recursion.base)
            (body_term r (with_called n (Some c) (known n)) c d.recursion.step) l
        arms = both_there Term Logic (function_of c d.recursion.bound) (body_term r (known n) c d.recursion.base)
            (body_term r (with_called n (Some c) (known n)) c d.recursion.step) l made

        made_of : Logic
        made_of = function_of c d.recursion.bound arms.first arms.second

        vals : Given
        vals = args ++ (ms ++ gs)

        long : length vs - 1 ≡ length d.front
        long = let e = sym (count_same c.params vs args a) ∙ ap length d.params ∙ front_length d.front d.last in omega (arith, e)

        last_is : argument_at vals (number_place c) ≡ number_of (last_of vs)
        last_is =
            let p : number_place c ≡ place d.front = let e = ap (λ ps. length (all_params params_of ps)) d.params ∙ flat_count d.front d.last in omega
            (arith, e) in
            ap (argument_at vals) p ∙ last_argument d.front d.last vs args (ms ++ gs) (subst (λ ps. AreArguments ps vs args) d.params a)
            ∙ ap (λ k. number_of (value_at vs k)) (sym long)

        used : uses made_of c.name vals ≡ true
        used =
            let e = (bytes_eq-Decides c.name c.name).1 refl in
            let f = all_counted r c vs w args ms gs a b g in λ i. e i && f i

    own_stands : (l : Logic) → logic_of r (known n) n c (definition_at ds n).body ≡ Some l → CallStands (after bits (apps n) l) (calls_first ds (suc n)) r n c
    own_stands l made vs w args ms gs s a b g =
        ap (λ t. if t then call_value (calls_first ds n) n (definition_at ds n) vs w else calls_first ds n n vs w) ((Decides-eqb n n).1 refl)
        ∙ ap (λ t. if t then recursive_value (calls_first ds n) n (definition_at ds n).body vs w else body_value (calls_first ds n)
        (definition_at ds n).body vs w) recursive
        ∙ ap (λ t. recursive_value (calls_first ds n) n t vs w) d.recursion.is
        ∙ body_stands l (subst (λ t. logic_of r (known n) n c t ≡ Some l) d.recursion.is made) vs w args ms gs s a b g

  -- ---- all definitions

  other_stands : (n f : ℕ) (c : Called) (q : Apps) → known n f ≡ Some c → ((vals : Given) → q c.name vals ≡ apps n c.name vals) → Stand n
      → CallStands q (calls_first ds (suc n)) r f c
  other_stands n f c q h same before vs w args ms gs s a b g =
      ap (λ t. if t then call_value (calls_first ds n) n (definition_at ds n) vs w else calls_first ds n f vs w) (differs n f c h).0
      ∙ before f c h vs w args ms gs s a b g ∙ ap number (sym (same (args ++ (ms ++ gs))))

  -- a function that is made changes no other one
  after_other : (n f : ℕ) (c : Called) (l : Logic) → known n f ≡ Some c → l.name ≡ (told n).name → (vals : Given) → after bits (apps n) l c.name vals
      ≡ apps n c.name vals
  after_other n f c l h named vals =
      ap (λ b. cond (b && are_arguments l.params vals) (descend bits (apps n) l (steps_of l vals) vals) (apps n c.name vals))
      (ap (bytes_eq c.name) named ∙ (differs n f c h).1)

  made_named : (n : ℕ) (l : Logic) → logic_of r (known n) n (told n) (definition_at ds n).body ≡ Some l → l.name ≡ (told n).name
  made_named n l made =
      let t = (definition_at ds n).body in
      let arms = both_there Term Logic (function_of (told n) (test_number t)) (body_term r (known n) (told n) (kid t 1))
      (body_term r (with_called n (Some (told n)) (known n)) (told n) (kid t 2)) l made in
      ap (λ (f : Logic). f.name) (sym arms.made)

  all_stand : (n : ℕ) → Stand n
  unfolding known_first
  all_stand zero f c h = absurd cc
  all_stand (suc n) f c h = by (is_recursive n) refl (logic_of r (known n) n (told n) (definition_at ds n).body) refl (eqb f n) refl h (all_stand n)
    where
      by : (b : Bool) → is_recursive n ≡ b → (o : Option Logic) → logic_of r (known n) n (told n) (definition_at ds n).body ≡ o → (e : Bool) → eqb f n ≡ e
          → (if e then in_form (told n) (if b then o else None) else known n f) ≡ Some c → Stand n
          → CallStands (apps_from bits no_apps (more_logic (logic_first r told ds n) (if b then o else None))) (calls_first ds (suc n)) r f c
      by true recursive (Some l) made true so h before =
          let is : f ≡ n = eqb-true f n so in
          let same : told n ≡ c = cc in
          subst (λ q. CallStands q (calls_first ds (suc n)) r f c) (sym (apps_more bits no_apps (logic_first r told ds n) l))
          (subst (λ d. CallStands (after bits (apps n) l) (calls_first ds (suc n)) r f d) same
          (subst (λ k. CallStands (after bits (apps n) l) (calls_first ds (suc n)) r k (told n)) (sym is) (own_stands n before recursive l made)))
      by true recursive (Some l) made false so h before =
          subst (λ q. CallStands q (calls_first ds (suc n)) r f c) (sym (apps_more bits no_apps (logic_first r told ds n) l))
          (other_stands n f c (after bits (apps n) l) h (after_other n f c l h (made_named n l made)) before)
      by true recursive None made true so h before = absurd cc
      by true recursive None made false so h before = other_stands n f c (apps n) h (λ vals. refl) before
      by false recursive o made true so h before = absurd cc
      by false recursive o made false so h before = other_stands n f c (apps n) h (λ vals. refl) before

pub setting_stands : SettingStands
unfolding world_of
setting_stands names r told ds good f c h = all_stand names r told ds good (length ds) f c h

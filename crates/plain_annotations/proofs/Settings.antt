-- The setting of a file: in it, calls of logic functions have the values of their definitions, whatever annotation they stand in.
use Rattle.std.proofs.Common.{◌≡◌, ℕ, zero, suc, ◌+◌, ◌==◌, Bool, true, false, not, ◌&&◌, ◌||◌, if◌then◌else◌, List, [], ◌∷◌, length, refl, sym, ap, ◌∙◌, subst, arith}
use Rattle.std.specs.List.{list_all}
use Rattle.std.specs.Prelude.{Option, Some, None}
use Rattle.std.specs.Option.{is_some}
use Rattle.std.proofs.lemmas.Bool.{and_parts, false≢true}
use Rattle.typed_prog.specs.declared.operators.Variable.{Variable}
use Rattle.typed_prog.specs.declared.operators.Variable.TheVariants as variables
use Rattle.acsl_trees.specs.Tree as acsl
use Rattle.acsl_expand.specs.Expansion.{Definition, definition_at}
use Rattle.c_runs.specs.TruthStates.{State, World, is_negative}
use Rattle.c_runs.specs.Truth.{calls_of}
use Rattle.qed_terms.specs.Names.{is_name}
use Rattle.qed_terms.specs.Setting.{Logic, world_of, is_regular, are_regular_after}
use Rattle.c_kinds.specs.declared.models.Machdep.{Machdep}
use Rattle.c_kinds.specs.declared.models.Machdep.TheVariants as machdep
use Rattle.c_kinds.specs.Models.{long_bits}
use Rattle.c_runs.specs.Program.{Facts}
use Rattle.program_steps.specs.Told.{Shape}
use Rattle.acsl_encode.specs.Readings.{Global, integer_global, pointer_global, Called, Common}
use Rattle.acsl_encode.specs.Calls.{Given, AllAre, IsGlobal, Shares, CallsStand}
use Rattle.acsl_encode.specs.Setting.{in_form, logic_at, logic_of, known_first, more_logic, logic_first}
use Rattle.acsl_encode.proofs.Settings.{setting_stands}
use Rattle.program_steps.specs.Leaves.{after_as}
use Rattle.program_steps.specs.Terms.{Texts, common_of}
use Rattle.plain_annotations.proofs.Naming.{binder_fits}
use Rattle.plain_annotations.specs.Settings.{own_block, shared, told, file_setting, texts_of, SettingsFit, calls_none, plain_names, PlainSettingsFit}

-- ---- names

called_named : (c : Called) (o : Option Logic) (d : Called) → is_name c.name ≡ true → in_form c o ≡ Some d → is_name d.name ≡ true
called_named c (Some l) d e h = subst (λ o. IsNamed o) h e
  where
    IsNamed : Option Called → Type 0
    IsNamed (Some c) = is_name c.name ≡ true
    IsNamed None = Unit {0}
called_named c None d e h = absurd (false≢true (ap is_some h))

module _ (r : Common) (t : ℕ → Called) (ds : List Definition) (named : (n : ℕ) → (definition_at ds n).is_recursive ≡ true → is_name (t n).name ≡ true) where
  known_named : (n f : ℕ) (c : Called) → known_first r t ds n f ≡ Some c → is_name c.name ≡ true
  unfolding known_first
  known_named zero f c h = absurd (false≢true (ap is_some h))
  known_named (suc n) f c h = by (f == n) h (known_named n f c)
    where
      own : (b : Bool) → (definition_at ds n).is_recursive ≡ b
          → in_form (t n) (if b then logic_of r (known_first r t ds n) n (t n) (definition_at ds n).body else None) ≡ Some c → is_name c.name ≡ true
      own true e k = called_named (t n) (logic_of r (known_first r t ds n) n (t n) (definition_at ds n).body) c (named n e) k
      own false e k = absurd (false≢true (ap is_some k))

      by : (b : Bool) → (if b then in_form (t n) (logic_at r (known_first r t ds n) t ds n) else known_first r t ds n f) ≡ Some c
          → (known_first r t ds n f ≡ Some c → is_name c.name ≡ true) → is_name c.name ≡ true
      by true k before = own (definition_at ds n).is_recursive refl k
      by false k before = before k

-- ---- what annotations have in common

module _ (p : Facts) (s : Shape) (texts : Texts) (a : acsl.Tree) where
  global_same : (st : State) (g : Global) (args : Given) → IsGlobal (common_of p s texts a) st g args → IsGlobal (shared p) st g args
  global_same st (integer_global n k x) args h = h
  global_same st (pointer_global n b o) args h = h

  globals_same : (st : State) (gs : List Global) (args : Given) → AllAre (IsGlobal (common_of p s texts a) st) gs args → AllAre (IsGlobal (shared p) st) gs args
  globals_same st [] args h = h
  globals_same st (g ∷ gs) args h = (h.0, h.1, global_same st g h.0 h.2, globals_same st gs h.1 h.3, h.4)

  no_address : (x : Variable) → is_negative (own_block p x) ≡ true
  no_address (variables.Global x) = refl
  no_address (variables.Local x) = refl

  shares_same : (w : World) → Shares (common_of p s texts a) w → Shares (shared p) w
  shares_same w h = record { model = h.model; structs = h.structs; hidden = no_address; homes = λ l n. tt }

  calls_same : (apps : _) (m : _) (called : (number : ℕ) → Option Called) → CallsStand apps m (shared p) called → CallsStand apps m (common_of p s texts a) called
  calls_same apps m called stand f c h vs w args ms gs shares xs ys zs =
      stand f c h vs w args ms gs (shares_same w shares) xs ys (globals_same w.here c.globals gs zs)

pub settings_fit : SettingsFit
unfolding world_of
settings_fit p names s binders good = record {
  texts = record {
    binders = binders;
    called = λ n c h. known_named (shared p) (told p names) p.definitions (λ n e. (good.called n e).name) (length p.definitions) n c h;
    calls = λ a. calls_same p s (texts_of p names) a (world_of (file_setting p names)).apps (calls_of p.definitions) (texts_of p names).called
        (setting_stands [] (shared p) (told p names) p.definitions good);
  };
  model = refl;
}

-- ---- files in which no logic function calls itself

none_recursive : (ds : List Definition) → list_all calls_none ds ≡ true → (n : ℕ) → (definition_at ds n).is_recursive ≡ false
none_recursive [] h n = refl
none_recursive (d ∷ ds) h zero = by d.is_recursive (and_parts (calls_none d) (list_all calls_none ds) h).0
  where
    by : (b : Bool) → not b ≡ true → b ≡ false
    by true e = absurd (false≢true e)
    by false e = refl
none_recursive (d ∷ ds) h (suc n) = none_recursive ds (and_parts (calls_none d) (list_all calls_none ds) h).1 n

as_many : (n : ℕ) (xs : List ℕ) → length (after_as n xs) ≡ n + length xs
as_many zero xs = omega arith
as_many (suc n) xs = let e = as_many n xs in let g : suc (length (after_as n xs)) ≡ suc n + length xs = omega (arith, e) in g

names_differ : (i j : ℕ) → after_as i [] ≡ after_as j [] → i ≡ j
names_differ i j e =
    let a : length (after_as i []) ≡ i + 0 = as_many i [] in
    let b : length (after_as j []) ≡ j + 0 = as_many j [] in
    let c : length (after_as i []) ≡ length (after_as j []) = ap length e in
    omega (arith, a, b, c)

no_logic : (r : Common) (t : ℕ → Called) (ds : List Definition) → ((n : ℕ) → (definition_at ds n).is_recursive ≡ false) → (n : ℕ) → logic_first r t ds n ≡ []
no_logic r t ds none zero = refl
no_logic r t ds none (suc n) =
    ap (λ b. more_logic (logic_first r t ds n) (if b then logic_of r (known_first r t ds n) n (t n) (definition_at ds n).body else None)) (none n)
    ∙ no_logic r t ds none n

right_width : (m : Machdep) → (long_bits m == 32 || long_bits m == 64) ≡ true
right_width machdep.X86_32 = refl
right_width machdep.X86_64 = refl

pub plain_settings_fit : PlainSettingsFit
unfolding is_regular
plain_settings_fit p binders s none named = record {
  fits = settings_fit p (plain_names binders) s named (record {
    called = λ n e. absurd (false≢true (sym (all n) ∙ e));
    differ = names_differ;
    recursions = λ n e. absurd (false≢true (sym (all n) ∙ e));
    spelled = tt;
    binders = λ n. refl;
    binders_fit = λ n. binder_fits [] n refl;
  });
  regular =
      let e = no_logic (shared p) (told p (plain_names binders)) p.definitions all (length p.definitions) in
      let w = right_width p.model in
      λ i. w i && are_regular_after [] (e i);
}
  where
    all : (n : ℕ) → (definition_at p.definitions n).is_recursive ≡ false
    all = none_recursive p.definitions none

-- Files whose logic functions pass the test.
use Rattle.std.proofs.Common.{◌≡◌, ℕ, zero, suc, ◌+◌, ◌≤◌, ◌==◌, Bool, true, false, ◌&&◌, ◌||◌, if◌then◌else◌, List, [], ◌∷◌, ◌++◌, length, refl, sym, ap, ◌∙◌, subst, arith}
use Rattle.std.specs.Prelude.{Option, Some, None, slice_index_or}
use Rattle.std.specs.List.{list_all}
use Rattle.std.proofs.lemmas.Bool.{and_parts, false≢true, ne_eqb}
use Rattle.c_kinds.specs.declared.models.Machdep.{Machdep}
use Rattle.c_kinds.specs.declared.models.Machdep.TheVariants as machdep
use Rattle.c_kinds.specs.Models.{long_bits}
use Rattle.acsl_trees.specs.Tree.{Tree}
use Rattle.acsl_expand.specs.Expansion.{Definition, definition_at}
use Rattle.c_runs.specs.Truth.{kid, test_number}
use Rattle.qed_terms.specs.Names.{is_name}
use Rattle.qed_terms.specs.Setting.{Logic}
use Rattle.qed_terms.specs.Tree.{Tree as Term, var}
use Rattle.qed_terms.specs.WellFormed.{int, fits}
use Rattle.c_runs.specs.Program.{Facts}
use Rattle.acsl_encode.specs.Readings.{Called, Common}
use Rattle.acsl_encode.specs.Binders.{numbered}
use Rattle.acsl_encode.specs.Encode.{encoded, as_integer, on_two}
use Rattle.acsl_encode.specs.Regular.{CalledFits}
use Rattle.acsl_encode.specs.Setting.{Known, body_reading, body_term, names_of, with_called, function_of, logic_of, logic_at, in_form, known_first, more_logic, logic_first}
use Rattle.acsl_encode.specs.Meaning.{Holds}
use Rattle.acsl_encode.specs.WellFormed.{IsInt}
use Rattle.acsl_encode.proofs.Fitted.{tree_fits}
use Rattle.acsl_encode.proofs.Fitting.{integer_fits}
use Rattle.acsl_encode.proofs.Reading_bodies.{names_fit, body_fits}
use Rattle.plain_annotations.proofs.Naming.{binder_fits}
use Rattle.plain_annotations.specs.Places.{takes_integers, params_of, is_one}
use Rattle.plain_annotations.specs.Settings.{shared}
use Rattle.regular_settings.specs.Shapes.{are_shaped_after, BodiesFit, AllBodiesFit}
use Rattle.regular_settings.proofs.Regular.{shaped_is_regular}
use Rattle.logic_order.specs.Laws.{FilesInOrder, FunctionsTake}
use Rattle.logic_order.specs.Names.{FileNames, are_apart}
use Rattle.logic_order.specs.Order.{called_fits, has_simple_parts, is_function, told_as, setting_by, known_by, definition_fits, all_fit, is_in_order, takes_from, takes_in}
use Rattle.logic_order.specs.Recursive.{descends}
use Rattle.logic_order.proofs.Apart.{names_apart}
use Rattle.logic_order.proofs.Fitting.{called_is}
use Rattle.logic_order.proofs.Recursions.{descends_is}

-- ---- each definition

pub record Passes (p : Facts) (n : ℕ) (c : Called) (t : Tree) : Type 0 where
  pub takes : takes_integers p c ≡ true
  pub fits : called_fits c ≡ true
  pub goes : descends n c.params t ≡ true
  pub simple : has_simple_parts t ≡ true

pub passes : (p : Facts) (n : ℕ) (c : Called) (t : Tree) → is_function p n c t ≡ true → Passes p n c t
passes p n c t h =
    let first = and_parts (takes_integers p c) _ h in
    let second = and_parts (called_fits c) _ first.1 in
    let third = and_parts (descends n c.params t) (has_simple_parts t) second.1 in
    record { takes = first.0; fits = second.0; goes = third.0; simple = third.1 }

module _ (p : Facts) (names : FileNames) where
  -- the one with this number behind those before
  one_fits : (n : ℕ) (d : Definition) → definition_fits p names n d ≡ true → d.is_recursive ≡ true → Passes p n (told_as p names n) d.body
  one_fits n d h e =
      passes p n (told_as p names n) d.body (sym (ap (λ b. if b then is_function p n (told_as p names n) d.body else true) e) ∙ h)

  fit_from : (n : ℕ) (ds : List Definition) (i : ℕ) → all_fit p names n ds ≡ true → (definition_at ds i).is_recursive ≡ true
      → Passes p (n + i) (told_as p names (n + i)) (definition_at ds i).body
  fit_from n [] i h e = absurd (false≢true e)
  fit_from n (d ∷ ds) zero h e =
      let k = one_fits n d (and_parts (definition_fits p names n d) (all_fit p names (suc n) ds) h).0 e in
      let is : n ≡ n + 0 = omega arith in
      let P : ℕ → Type 0 = λ m. Passes p m (told_as p names m) d.body in
      subst P is k
  fit_from n (d ∷ ds) (suc i) h e =
      let k = fit_from (suc n) ds i (and_parts (definition_fits p names n d) (all_fit p names (suc n) ds) h).1 e in
      let is : suc n + i ≡ n + suc i = omega arith in
      let P : ℕ → Type 0 = λ m. Passes p m (told_as p names m) (definition_at ds i).body in
      subst P is k

  pub each_fits : all_fit p names 0 p.definitions ≡ true → (n : ℕ) → (definition_at p.definitions n).is_recursive ≡ true
      → Passes p n (told_as p names n) (definition_at p.definitions n).body
  each_fits h n e =
      let k = fit_from 0 p.definitions n h e in
      let is : 0 + n ≡ n = omega arith in
      let P : ℕ → Type 0 = λ m. Passes p m (told_as p names m) (definition_at p.definitions n).body in
      subst P is k

-- ---- bodies are terms for integers

all_more : (fs : List Logic) (f : Logic) → AllBodiesFit fs → BodiesFit f → AllBodiesFit (fs ++ f ∷ [])
all_more [] f h k = (k, tt)
all_more (g ∷ fs) f h k = (h.0, all_more fs f h.1 k)

some_same : {X : Type 0} (x y : X) → Some x ≡ Some y → x ≡ y
some_same x y e = cc

none_some : {X : Type 0} (x : X) → None ≡ Some x → ⊥
none_some x e = absurd cc

module _ (r : Common) (t : ℕ → Called) (ds : List Definition) (good : (n : ℕ) → (definition_at ds n).is_recursive ≡ true → CalledFits (t n))
    (binders : (n : ℕ) → IsInt (var (r.binder n))) where
  abbrev known : ℕ → Known
  known n = known_first r t ds n

  called_named : (c : Called) (o : Option Logic) (d : Called) → is_name c.name ≡ true → in_form c o ≡ Some d → is_name d.name ≡ true
  called_named c (Some l) d e h = let same : c ≡ d = cc in subst (λ (k : Called). is_name k.name ≡ true) same e
  called_named c None d e h = absurd (none_some d h)

  known_named : (n f : ℕ) (c : Called) → known n f ≡ Some c → is_name c.name ≡ true
  unfolding known_first
  known_named zero f c h = absurd (none_some c h)
  known_named (suc n) f c h = by (f == n) h (known_named n f c)
    where
      own : (b : Bool) → (definition_at ds n).is_recursive ≡ b
          → in_form (t n) (if b then logic_of r (known n) n (t n) (definition_at ds n).body else None) ≡ Some c → is_name c.name ≡ true
      own true e k = called_named (t n) (logic_of r (known n) n (t n) (definition_at ds n).body) c (good n e).name k
      own false e k = absurd (none_some c k)

      by : (b : Bool) → (if b then in_form (t n) (logic_at r (known n) t ds n) else known n f) ≡ Some c → (known n f ≡ Some c → is_name c.name ≡ true) → is_name c.name ≡ true
      by true k before = own (definition_at ds n).is_recursive refl k
      by false k before = before k

  with_named : (n : ℕ) (c : Called) → is_name c.name ≡ true → (f : ℕ) (d : Called) → with_called n (Some c) (known n) f ≡ Some d → is_name d.name ≡ true
  with_named n c name f d h = by (f == n) h
    where
      by : (b : Bool) → (if b then Some c else known n f) ≡ Some d → is_name d.name ≡ true
      by true e = subst (λ (k : Called). is_name k.name ≡ true) (some_same c d e) name
      by false e = known_named n f d e

  term_fits : (k : Known) (c : Called) → CalledFits c → ((f : ℕ) (d : Called) → k f ≡ Some d → is_name d.name ≡ true) → (a : Tree) (u : Term) → body_term r k c a ≡ Some u → fits int u ≡ true
  term_fits k c h named a u e =
      let whole = encoded (body_reading r k c) (names_of c.params) 0 (length c.params) a in
      let fit = tree_fits a (body_reading r k c) (names_of c.params) 0 (length c.params) (body_fits r k c h binders named) (names_fit c.params h.params) in
      by (as_integer whole) (integer_fits whole fit) e
    where
      by : (o : Option Term) → Holds IsInt o → o ≡ Some u → fits int u ≡ true
      by (Some v) so e = subst (λ w. fits int w ≡ true) (some_same v u e) so.int
      by None so e = absurd (none_some u e)

  function_fits : (n : ℕ) (c : Called) (a : Tree) (f : Logic) → CalledFits c → logic_of r (known n) n c a ≡ Some f → BodiesFit f
  function_fits n c a f h e =
      by (body_term r (known n) c (kid a 1)) (body_term r (with_called n (Some c) (known n)) c (kid a 2)) refl refl e
    where
      by : (o o' : Option Term) → body_term r (known n) c (kid a 1) ≡ o → body_term r (with_called n (Some c) (known n)) c (kid a 2) ≡ o'
          → on_two (function_of c (test_number a)) o o' ≡ Some f → BodiesFit f
      by (Some u) (Some v) k l e =
          subst BodiesFit (some_same (function_of c (test_number a) u v) f e) (record {
            base = term_fits (known n) c h (known_named n) (kid a 1) u k;
            step = term_fits (with_called n (Some c) (known n)) c h (with_named n c h.name) (kid a 2) v l;
          })
      by (Some u) None k l e = absurd (none_some f e)
      by None o k l e = absurd (none_some f e)

  pub bodies_fit : (n : ℕ) → AllBodiesFit (logic_first r t ds n)
  bodies_fit zero = tt
  bodies_fit (suc n) = by (bodies_fit n) (definition_at ds n).is_recursive refl
    where
      one : AllBodiesFit (logic_first r t ds n) → (o : Option Logic) → ((f : Logic) → o ≡ Some f → BodiesFit f) → AllBodiesFit (more_logic (logic_first r t ds n) o)
      one before (Some f) h = all_more (logic_first r t ds n) f before (h f refl)
      one before None h = before

      by : AllBodiesFit (logic_first r t ds n) → (b : Bool) → (definition_at ds n).is_recursive ≡ b → AllBodiesFit (more_logic (logic_first r t ds n) (logic_at r (known n) t ds n))
      by before true e =
          one before (logic_at r (known n) t ds n) (λ f h. function_fits n (t n) (definition_at ds n).body f (good n e)
          (sym (ap (λ b. if b then logic_of r (known n) n (t n) (definition_at ds n).body else None) e) ∙ h))
      by before false e =
          one before (logic_at r (known n) t ds n) (λ f h. absurd (none_some f (sym (ap (λ b. if b then logic_of r (known n) n (t n) (definition_at ds n).body else None) e) ∙ h)))

-- ---- files

right_width : (m : Machdep) → (long_bits m == 32 || long_bits m == 64) ≡ true
right_width machdep.X86_32 = refl
right_width machdep.X86_64 = refl

pub files_in_order : FilesInOrder
unfolding is_in_order
files_in_order p names binders h =
    let first = and_parts (are_apart names.functions) (all_fit p names 0 p.definitions && are_shaped_after [] (setting_by p names).logic) h in
    let second = and_parts (all_fit p names 0 p.definitions) (are_shaped_after [] (setting_by p names).logic) first.1 in
    let each = each_fits p names second.0 in
    let called : (n : ℕ) → (definition_at p.definitions n).is_recursive ≡ true → CalledFits (told_as p names n) = λ n e. called_is (told_as p names n) (each n e).fits in
    let bound : (n : ℕ) → IsInt (var (numbered [] n)) = λ n. binder_fits [] n refl in
    record {
      ordered = record {
        called = called;
        differ = names_apart names.functions first.0;
        recursions = λ n e. descends_is n (told_as p names n) (definition_at p.definitions n).body
            (and_parts (list_all is_one (told_as p names n).params) _ (each n e).takes).0 (each n e).goes;
        spelled = tt;
        binders = λ n. refl;
        binders_fit = bound;
      };
      regular = shaped_is_regular (setting_by p names) (right_width p.model)
          (bodies_fit (shared p) (told_as p names) p.definitions called bound (length p.definitions)) second.1;
    }

-- ---- what functions take

taken_from : (p : Facts) (names : FileNames) (n : ℕ) (ds : List Definition) (i : ℕ) → (length ds ≤ i → params_of p (known_by p names (n + i)) ≡ None)
    → params_of p (known_by p names (n + i)) ≡ slice_index_or (takes_from p names n ds) i None
taken_from p names n [] i past = past (omega arith)
taken_from p names n (d ∷ ds) zero past = let is : n + 0 ≡ n = omega arith in ap (λ m. params_of p (known_by p names m)) is
taken_from p names n (d ∷ ds) (suc i) past =
    let is : n + suc i ≡ suc n + i = omega arith in
    let same = ap (λ m. params_of p (known_by p names m)) is in
    same ∙ taken_from p names (suc n) ds i (λ l. sym same ∙ past (omega (arith, l)))

-- a number that is no definition's is known of nothing
unknown : (r : Common) (t : ℕ → Called) (ds : List Definition) (n f : ℕ) → n ≤ f → known_first r t ds n f ≡ None
unfolding known_first
unknown r t ds zero f l = refl
unknown r t ds (suc n) f l =
    let apart : (f == n) ≡ false = ne_eqb f n (λ same. omega (arith, same, l)) in
    ap (λ b. if b then in_form (t n) (logic_at r (known_first r t ds n) t ds n) else known_first r t ds n f) apart ∙ unknown r t ds n f (omega (arith, l))

pub functions_take : FunctionsTake
unfolding takes_in
functions_take p names binders f =
    let is : 0 + f ≡ f = omega arith in
    let same = ap (λ m. params_of p (known_by p names m)) is in
    sym same ∙ taken_from p names 0 p.definitions f
    (λ l. same ∙ ap (params_of p) (unknown (shared p) (told_as p names) p.definitions (length p.definitions) f l))

-- The row at calls, in the world of a regular setting.
use Rattle.std.proofs.Common.{◌≡◌, ℕ, zero, suc, Bool, true, false, ◌||◌, cond, bytes_eq, refl, sym, ◌∙◌, ap, subst, inl, inr}
use Rattle.std.specs.Prelude.{ℤ, int_lt, int_le, List, [], ◌∷◌, ◌++◌, slice_get, Option, Some, None}
use Rattle.std.proofs.lemmas.Slice.Eq.{bytes_eq-Decides}
use Rattle.qed_terms.specs.declared.head.Head.TheVariants as h
use Rattle.qed_terms.specs.Meaning.{World, Values, Value, whole, value, meanings}
use Rattle.qed_terms.specs.Operators.{is_equal}
use Rattle.qed_terms.specs.Setting.{Setting, Logic, bound, argument_at, kids_match, takes, is_plain, is_body, some_takes, goes_down, is_regular_after, are_regular_after, is_regular, world_of}
use Rattle.qed_terms.specs.Tree.{Tree, node, Trees, stop, more}
use Rattle.qed_terms.specs.WellFormed.{int, fits}
use Rattle.qed_calls.specs.Calls.{with_arguments, are_terms, fits_call}
use Rattle.branches.specs.Branch.{AreTrue}
use Rattle.instance_rows.specs.Calls.{argument_tree, call_cases, cases_at, cases_among, cases_of_call}
use Rattle.instance_rows.specs.Laws.{RowIsValid}
use Rattle.instance_rows.proofs.Below.{Below}
use Rattle.instance_rows.proofs.Tests.{first, second, and_left, and_right, alone, le_so, lt_so, lt_or_le, equal_so}

-- ---- regular functions

regular_at : (fs before : List Logic) → are_regular_after before fs ≡ true → (n : ℕ) (f : Logic) → slice_get fs n ≡ Some f → (known : List Logic) × (is_regular_after known f ≡ true)
regular_at [] before k n f e = absurd cc
regular_at (g ∷ fs) before k zero f e =
    let same : g ≡ f = cc in
    (before, subst (λ z. is_regular_after before z ≡ true) same (and_left (is_regular_after before g) (are_regular_after (before ++ g ∷ []) fs) k))
regular_at (g ∷ fs) before k (suc n) f e = regular_at fs (before ++ g ∷ []) (and_right (is_regular_after before g) (are_regular_after (before ++ g ∷ []) fs) k) n f e

base_plain : (known : List Logic) (f : Logic) → is_regular_after known f ≡ true → is_plain f.params (some_takes known) f.base ≡ true
base_plain known f k =
    let body : is_body f.params (some_takes known) f.base ≡ true = and_right _ (is_body f.params (some_takes known) f.base) (and_left _ _ k) in
    and_right (fits int f.base) (is_plain f.params (some_takes known) f.base) body

step_plain : (known : List Logic) (f : Logic) → is_regular_after known f ≡ true → is_plain f.params (λ x ts. some_takes known x ts || goes_down f x ts) f.step ≡ true
step_plain known f k =
    let body : is_body f.params (λ x ts. some_takes known x ts || goes_down f x ts) f.step ≡ true = and_right _ _ k in
    and_right (fits int f.step) (is_plain f.params (λ x ts. some_takes known x ts || goes_down f x ts) f.step) body

functions_regular : (s : Setting) → is_regular s ≡ true → are_regular_after [] s.logic ≡ true
unfolding is_regular
functions_regular s k = and_right _ (are_regular_after [] s.logic) k

number_there : (w : World) (env : Values) (ts : Trees) (n : ℕ) (t : Tree) → argument_tree ts n ≡ Some t → argument_at (meanings w env ts) n ≡ value w env t
number_there w env stop n t e = absurd cc
number_there w env (more u ts) zero t e = let same : u ≡ t = cc in ap (value w env) same
number_there w env (more u ts) (suc n) t e = number_there w env ts n t e

-- ---- the two cases, of a call whose number is n

two_cases : (n cut call base step : ℤ) → call ≡ cond (int_le n cut) base step
    → ((int_lt cut n || (is_equal call base || false)) ≡ true) × ((int_le n cut || (is_equal call step || false)) ≡ true)
two_cases n cut call base step e = (
  elim (lt_or_le cut n) [
    | inl k ↦ first (int_lt cut n) _ (lt_so cut n k)
    | inr k ↦ second (int_lt cut n) _ (alone _ (equal_so call base (e ∙ ap (λ b. cond b base step) (le_so n cut k))))
  ],
  up (int_le n cut) e,
)
  where
    up : (b : Bool) → call ≡ cond b base step → (b || (is_equal call step || false)) ≡ true
    up true q = refl
    up false q = alone _ (equal_so call step q)

module _ (below : Below) (s : Setting) (regular : is_regular s ≡ true) (env : Values) where
  abbrev w : World
  w = world_of s

  module _ (place : ℕ) (f : Logic) (there : slice_get s.logic place ≡ Some f) (x : List ℕ) (ts : Trees) (fit : fits_call x ts f ≡ true) where
    abbrev vs : List Value
    vs = meanings w env ts

    cases_true : (n : Tree) → argument_tree ts f.number ≡ Some n → AreTrue w env (call_cases f ts (node (h.App x) ts) n)
    cases_true n e =
        let taken = and_left (takes x ts f) (are_terms ts) fit in
        let terms = and_right (takes x ts f) (are_terms ts) fit in
        let named = (bytes_eq-Decides x f.name).0 (and_left (bytes_eq x f.name) (kids_match f.params ts) taken) in
        let match = and_right (bytes_eq x f.name) (kids_match f.params ts) taken in
        let known = regular_at s.logic [] (functions_regular s regular) place f there in
        let fixed = below.calls_fixed s place f regular there vs (below.arguments_fit w env f.params ts match terms) in
        let base = ap whole (below.arguments_put w env f.params ts match terms (some_takes known.0) f.base (base_plain known.0 f known.1)) in
        let step = ap whole (below.arguments_put w env f.params ts match terms (λ y us. some_takes known.0 y us || goes_down f y us) f.step (step_plain known.0 f known.1)) in
        let number = number_there w env ts f.number n e in
        let by_bodies : w.apps f.name vs ≡ cond (int_le (value w env n) f.cut) (value w env (with_arguments f.params ts f.base)) (value w env (with_arguments f.params ts f.step)) =
        fixed ∙ chosen (int_le (argument_at vs f.number) f.cut) ∙ (λ i. cond (int_le (number i) f.cut) (sym base i) (sym step i)) in
        let two = two_cases (value w env n) f.cut (value w env (node (h.App x) ts)) (value w env (with_arguments f.params ts f.base)) (value w env (with_arguments f.params ts f.step))
        (ap (λ y. w.apps y vs) named ∙ by_bodies) in
        (two.0, (two.1, tt))
      where
        chosen : (b : Bool) → value w (bound f.params vs) (cond b f.base f.step) ≡ cond b (value w (bound f.params vs) f.base) (value w (bound f.params vs) f.step)
        chosen true = refl
        chosen false = refl

    at_true : (n : Option Tree) → argument_tree ts f.number ≡ n → AreTrue w env (cases_at f ts (node (h.App x) ts) n)
    at_true None e = tt
    at_true (Some n) e = cases_true n e

  among_true : (fs : List Logic) → ((n : ℕ) (f : Logic) → slice_get fs n ≡ Some f → (m : ℕ) × (slice_get s.logic m ≡ Some f)) → (x : List ℕ) (ts : Trees) → AreTrue w env (cases_among fs x ts)
  among_true [] all x ts = tt
  among_true (f ∷ fs) all x ts = go (fits_call x ts f) refl (among_true fs (λ n g e. all (suc n) g e) x ts)
    where
      go : (b : Bool) → fits_call x ts f ≡ b → AreTrue w env (cases_among fs x ts) → AreTrue w env (cond b (cases_at f ts (node (h.App x) ts) (argument_tree ts f.number)) (cases_among fs x ts))
      go true e r = let here = all zero f refl in at_true here.0 f here.1 x ts e (argument_tree ts f.number) refl
      go false e r = r

pub calls_valid : Below → (s : Setting) → is_regular s ≡ true → RowIsValid (world_of s) (cases_of_call s.logic)
calls_valid below s regular (h.App x) ts env = among_true below s regular env s.logic (λ n f e. (n, e)) x ts
calls_valid below s regular head ts env = tt

-- A call up to the cut means the base case under the arguments.
use Rattle.std.proofs.Common.{◌≡◌, ℕ, zero, suc, Bool, true, false, not, ◌&&◌, ◌||◌, cond, ℤ, pos, negsuc, ◌-ℤ◌, ◌≤ℤ◌, List, [], ◌∷◌, ◌++◌, bytes_eq, refl, sym, ◌∙◌, ap, arith}
use Rattle.std.proofs.lemmas.Int.{ints}
use Rattle.std.proofs.lemmas.Slice.Eq.{bytes_eq-Decides}
use Rattle.std.specs.Prelude.{Option, Some, None}
use Rattle.std.specs.List.{list_any}
use Rattle.wp_base.specs.Blocks.{to_nat}
use Rattle.qed_terms.specs.declared.head.Sort.TheVariants as sort
use Rattle.qed_terms.specs.declared.head.Head.TheVariants as h
use Rattle.qed_terms.specs.declared.head.TermOp.TheVariants as op
use Rattle.qed_terms.specs.Meaning.{World, Values, Value, Whole, whole, value, meaning, meanings}
use Rattle.qed_terms.specs.Names.{is_name}
use Rattle.qed_terms.specs.Setting.{Logic, Setting, Apps, are_arguments, bound, argument_at, uses, descend, steps_of, after, apps_from, no_apps, world_of, kids_match, takes, is_plain, is_body, some_takes, is_regular_after, are_regular_after, is_regular}
use Rattle.qed_terms.specs.Tree.{Tree, node, Trees, stop, more}
use Rattle.qed_terms.specs.WellFormed.{int, fits, all_fit, kid_places, kid_count}
use Rattle.qed_linear.proofs.Facts.{and_left, and_right}
use Rattle.qed_linear.proofs.Rounding.{le_fact}
use Rattle.qed_numbers.specs.Numbers.{then_some, number_at}
use Rattle.qed_numbers.proofs.Tests.{then_some_is}
use Rattle.qed_calls.specs.Calls.{are_terms, with_arguments, is_at_most, kid_number, fits_call, base_of}
use Rattle.qed_calls.specs.Laws.{CallsKeepMeaning}
use Rattle.qed_calls.proofs.Bodies.{plain_alike, arguments, placed}

-- ---- names of functions

pub same_name : (x y : List ℕ) → bytes_eq x y ≡ true → x ≡ y
same_name x y e = (bytes_eq-Decides x y).0 e

pub name_itself : (x : List ℕ) → bytes_eq x x ≡ true
name_itself x = (bytes_eq-Decides x x).1 refl

-- a function of this name is among them
abbrev pub has_name : List ℕ → List Logic → Bool
has_name y fs = list_any (λ (g : Logic). bytes_eq g.name y) fs

pub has_more : (y : List ℕ) (fs gs : List Logic) → has_name y fs ≡ true → has_name y (fs ++ gs) ≡ true
has_more y [] gs k = absurd cc
has_more y (f ∷ fs) gs k = go (bytes_eq f.name y) k (has_more y fs gs)
  where
    go : (b : Bool) → b || has_name y fs ≡ true → (has_name y fs ≡ true → has_name y (fs ++ gs) ≡ true) → b || has_name y (fs ++ gs) ≡ true
    go true q r = refl
    go false q r = r q

pub has_last : (fs : List Logic) (f : Logic) → has_name (f.name) (fs ++ f ∷ []) ≡ true
has_last [] f = ap (λ b. b || false) (name_itself f.name)
has_last (g ∷ fs) f = go (bytes_eq g.name f.name) (has_last fs f)
  where
    go : (b : Bool) → has_name (f.name) (fs ++ f ∷ []) ≡ true → b || has_name (f.name) (fs ++ f ∷ []) ≡ true
    go true r = refl
    go false r = r

pub taken_named : (y : List ℕ) (us : Trees) (fs : List Logic) → some_takes fs y us ≡ true → has_name y fs ≡ true
taken_named y us [] k = absurd cc
taken_named y us (f ∷ fs) k = go (bytes_eq y f.name) refl k (taken_named y us fs)
  where
    go : (b : Bool) → bytes_eq y f.name ≡ b → (b && kids_match f.params us) || some_takes fs y us ≡ true → (some_takes fs y us ≡ true → has_name y fs ≡ true) → bytes_eq f.name y || has_name y fs ≡ true
    go true e q r = ap (λ x. bytes_eq f.name x || has_name y fs) (same_name y f.name e) ∙ ap (λ b. b || has_name y fs) (name_itself f.name)
    go false e q r = or_so (bytes_eq f.name y) (r q)
      where
        or_so : (c : Bool) → has_name y fs ≡ true → c || has_name y fs ≡ true
        or_so true s = refl
        or_so false s = s

-- ---- regular functions

-- the name of a regular function is new
pub new_name : (before : List Logic) (f : Logic) → is_regular_after before f ≡ true → has_name (f.name) before ≡ false
new_name before f k = go (has_name (f.name) before) (and_right (is_name f.name) (not (has_name (f.name) before)) (first _ _ (first _ _ (first _ _ (first _ _ (first _ _ k))))))
  where
    first : (p q : Bool) → p && q ≡ true → p ≡ true
    first = and_left

    go : (b : Bool) → not b ≡ true → b ≡ false
    go true q = absurd cc
    go false q = refl

pub base_plain : (before : List Logic) (f : Logic) → is_regular_after before f ≡ true → is_body f.params (some_takes before) f.base ≡ true
base_plain before f k = and_right _ (is_body f.params (some_takes before) f.base) (and_left _ _ k)

-- another function leaves the functions before it
module _ (bits : ℕ) where
  unchanged : (known : Apps) (f : Logic) (y : List ℕ) (vs : List Value) → bytes_eq y f.name ≡ false → after bits known f y vs ≡ known y vs
  unchanged known f y vs k = ap (λ b. cond (b && are_arguments f.params vs) (descend bits known f (steps_of f vs) vs) (known y vs)) k

  pub kept : (fs before : List Logic) (known : Apps) (y : List ℕ) → are_regular_after before fs ≡ true → has_name y before ≡ true → (vs : List Value) → apps_from bits known fs y vs ≡ known y vs
  kept [] before known y k l vs = refl
  kept (f ∷ fs) before known y k l vs =
      kept fs (before ++ f ∷ []) (after bits known f) y (and_right (is_regular_after before f) (are_regular_after (before ++ f ∷ []) fs) k) (has_more y before (f ∷ []) l) vs
      ∙ unchanged known f y vs (other (bytes_eq y f.name) refl)
    where
      other : (b : Bool) → bytes_eq y f.name ≡ b → b ≡ false
      other true e =
          let none : has_name y before ≡ false = ap (λ x. has_name x before) (same_name y f.name e) ∙ new_name before f (and_left (is_regular_after before f) (are_regular_after (before ++ f ∷ []) fs) k) in
          absurd cc
      other false e = refl

  -- ---- the number of a call

  number_is : (world : World) (env : Values) (t : Tree) (z : ℤ) → number_at t ≡ Some z → whole (meaning world env t) ≡ z
  number_is world env (node (h.Num y) ts) z k = cc
  number_is world env t z k = absurd cc

  number_there : (world : World) (env : Values) (ts : Trees) (n : ℕ) (z : ℤ) → kid_number ts n ≡ Some z → argument_at (meanings world env ts) n ≡ z
  number_there world env stop n z k = absurd cc
  number_there world env (more t ts) zero z k = number_is world env t z k
  number_there world env (more t ts) (suc n) z k = number_there world env ts n z k

  pub none_above : (z : ℤ) → z ≤ℤ pos 0 → to_nat z ≡ 0
  none_above (pos zero) k = refl
  none_above (pos (suc n)) k = absurd (omega (arith, ints, k))
  none_above (negsuc n) k = refl

  no_steps : (world : World) (env : Values) (ts : Trees) (f : Logic) → is_at_most f.cut (kid_number ts f.number) ≡ true → steps_of f (meanings world env ts) ≡ 0
  no_steps world env ts f k = go (kid_number ts f.number) refl k
    where
      go : (o : Option ℤ) → kid_number ts f.number ≡ o → is_at_most f.cut o ≡ true → steps_of f (meanings world env ts) ≡ 0
      go None e q = absurd cc
      go (Some z) e q =
          let l = le_fact z f.cut q in
          let n = number_there world env ts f.number z e in
          none_above (argument_at (meanings world env ts) f.number -ℤ f.cut) (omega (arith, ints, l, n))

  -- ---- a body is an integer

  no_name : (b c : Bool) → (b && false) && c ≡ true → ⊥
  no_name true c q = absurd cc
  no_name false c q = absurd cc

  body_whole : (world : World) (env : Values) (t : Tree) → fits int t ≡ true → meaning world env t ≡ Whole (value world env t)
  body_whole world env (node (h.Num z) ts) k = refl
  body_whole world env (node (h.Var x sort.Int) ts) k = refl
  body_whole world env (node (h.Var x sort.Memory) ts) k = absurd (no_name (is_name x) (all_fit (kid_places (h.Var x sort.Memory) (kid_count ts)) ts) k)
  body_whole world env (node (h.Var x sort.Table) ts) k = absurd (no_name (is_name x) (all_fit (kid_places (h.Var x sort.Table) (kid_count ts)) ts) k)
  body_whole world env (node (h.Term op.Store) ts) k = absurd cc
  body_whole world env (node (h.Term (op.Alloc layout)) ts) k = absurd cc
  body_whole world env (node (h.Term op.Grow) ts) k = absurd cc
  body_whole world env (node (h.Term o) ts) k = refl
  body_whole world env (node h.Ite ts) k = refl
  body_whole world env (node (h.App f) ts) k = refl
  body_whole world env (node (h.Forall x) ts) k = absurd (no_name (is_name x) (all_fit (kid_places (h.Forall x) (kid_count ts)) ts) k)
  body_whole world env (node (h.Exists x) ts) k = absurd (no_name (is_name x) (all_fit (kid_places (h.Exists x) (kid_count ts)) ts) k)
  body_whole world env (node head ts) k = absurd cc

  -- ---- the base case

  pub base_value : (known : Apps) (f : Logic) (vs : List Value) → descend bits known f zero vs ≡ value (record { long_bits = bits; apps = known }) (bound f.params vs) f.base
  unfolding descend
  base_value known f vs = refl

  -- the first function takes the call
  here_means : (f : Logic) (fs before : List Logic) (known : Apps) (x : List ℕ) (ts : Trees) (env : Values) → are_regular_after before (f ∷ fs) ≡ true
      → fits_call x ts f ≡ true → is_at_most f.cut (kid_number ts f.number) ≡ true
      → meaning (record { long_bits = bits; apps = apps_from bits known (f ∷ fs) }) env (with_arguments f.params ts f.base)
      ≡ Whole (apps_from bits known (f ∷ fs) x (meanings (record { long_bits = bits; apps = apps_from bits known (f ∷ fs) }) env ts))
  here_means f fs before known x ts env regular fit low =
      let full = apps_from bits known (f ∷ fs) in
      let world : World = record { long_bits = bits; apps = full } in
      let vs = meanings world env ts in
      let this = and_left (is_regular_after before f) (are_regular_after (before ++ f ∷ []) fs) regular in
      let later = and_right (is_regular_after before f) (are_regular_after (before ++ f ∷ []) fs) regular in
      let taken = and_left (takes x ts f) (are_terms ts) fit in
      let terms = and_right (takes x ts f) (are_terms ts) fit in
      let named = and_left (bytes_eq x f.name) (kids_match f.params ts) taken in
      let match = and_right (bytes_eq x f.name) (kids_match f.params ts) taken in
      let body = base_plain before f this in
      let integer = and_left (fits int f.base) (is_plain f.params (some_takes before) f.base) body in
      let plain = and_right (fits int f.base) (is_plain f.params (some_takes before) f.base) body in
      let small : World = record { long_bits = bits; apps = known } in
      let inner = bound f.params vs in
      let alike : (y : List ℕ) (us : Trees) → some_takes before y us ≡ true → are_terms us ≡ true → full y (meanings small inner us) ≡ known y (meanings small inner us) =
      λ y us q terms. kept (f ∷ fs) before known y regular (taken_named y us before q) (meanings small inner us) in
      let own : full x vs ≡ after bits known f x vs = kept fs (before ++ f ∷ []) (after bits known f) x later (ap (λ z. has_name z (before ++ f ∷ [])) (same_name x f.name named) ∙ has_last before f) vs in
      let used : uses f x vs ≡ true = λ i. named i && arguments world env f.params ts match terms i in
      let call : after bits known f x vs ≡ value (record { long_bits = bits; apps = known }) (bound f.params vs) f.base =
      ap (λ b. cond b (descend bits known f (steps_of f vs) vs) (known x vs)) used ∙ ap (λ n. descend bits known f n vs) (no_steps world env ts f low) ∙ base_value known f vs in
      placed world env f.params ts match terms (some_takes before) f.base plain ∙ body_whole world (bound f.params vs) f.base integer
      ∙ ap (λ v. Whole (whole v)) (plain_alike bits f.params (some_takes before) full known inner alike int f.base integer plain) ∙ ap Whole (sym (own ∙ call))

  base_means : (fs before : List Logic) (known : Apps) (x : List ℕ) (ts : Trees) (w : Tree) (env : Values) → are_regular_after before fs ≡ true → base_of fs x ts ≡ Some w
      → meaning (record { long_bits = bits; apps = apps_from bits known fs }) env w ≡ Whole (apps_from bits known fs x (meanings (record { long_bits = bits; apps = apps_from bits known fs }) env ts))
  base_means [] before known x ts w env k e = absurd cc
  base_means (f ∷ fs) before known x ts w env k e =
      go (fits_call x ts f) refl e (λ r. base_means fs (before ++ f ∷ []) (after bits known f) x ts w env (and_right (is_regular_after before f) (are_regular_after (before ++ f ∷ []) fs) k) r)
    where
      world : World
      world = record { long_bits = bits; apps = apps_from bits known (f ∷ fs) }

      go : (b : Bool) → fits_call x ts f ≡ b → cond b (then_some (is_at_most f.cut (kid_number ts f.number)) (with_arguments f.params ts f.base)) (base_of fs x ts) ≡ Some w
          → (base_of fs x ts ≡ Some w → meaning world env w ≡ Whole (apps_from bits known (f ∷ fs) x (meanings world env ts))) → meaning world env w ≡ Whole (apps_from bits known (f ∷ fs) x (meanings world env ts))
      go true q r later =
          let p = then_some_is (is_at_most f.cut (kid_number ts f.number)) (with_arguments f.params ts f.base) w r in
          ap (meaning world env) (sym p.1) ∙ here_means f fs before known x ts env k q p.0
      go false q r later = later r

pub regular_functions : (s : Setting) → is_regular s ≡ true → are_regular_after [] s.logic ≡ true
unfolding is_regular
regular_functions s k = and_right _ (are_regular_after [] s.logic) k

pub calls_keep : CallsKeepMeaning
unfolding world_of
calls_keep s (h.App x) ts w k e env = base_means s.long_bits s.logic [] no_apps x ts w env (regular_functions s k) e
calls_keep s head ts w k e env = absurd cc

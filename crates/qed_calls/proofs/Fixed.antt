-- A function of a regular setting has the value of its base case or of its step.
use Rattle.std.proofs.Common.{◌≡◌, ℕ, zero, suc, Bool, true, false, not, ◌&&◌, ◌||◌, cond, int_le, ◌≤ℤ◌, ℤ, pos, negsuc, ◌+ℤ◌, ◌-ℤ◌, List, [], ◌∷◌, ◌++◌, bytes_eq, refl, sym, ◌∙◌, ap, subst, arith}
use Rattle.std.proofs.lemmas.Int.{ints}
use Rattle.std.specs.Prelude.{Some, slice_get}
use Rattle.std.specs.List.{list_any}
use Rattle.wp_base.specs.Blocks.{to_nat}
use Rattle.qed_terms.specs.declared.head.Sort.{Sort}
use Rattle.qed_terms.specs.declared.head.Sort.TheVariants as sort
use Rattle.qed_terms.specs.declared.head.Head.TheVariants as h
use Rattle.qed_terms.specs.declared.head.TermOp.TheVariants as op
use Rattle.qed_terms.specs.Meaning.{World, Values, Value, Whole, Cells, Blocks, whole, value, meanings}
use Rattle.qed_terms.specs.Operators.{is_equal}
use Rattle.qed_terms.specs.Setting.{Param, Logic, Apps, has_sort, are_arguments, with_value, bound, argument_at, with_function, descend, steps_of, after, apps_from, no_apps, world_of, all_differ, same_param, is_int_param, kids_match, takes, is_one_less, kid_at, name_of, goes_down, is_plain, is_body, some_takes, is_regular_after, are_regular_after}
use Rattle.qed_terms.specs.Tree.{Tree, node, Trees, stop, more}
use Rattle.qed_terms.specs.WellFormed.{int, fits, same_sort}
use Rattle.qed_linear.proofs.Facts.{and_left, and_right}
use Rattle.qed_linear.proofs.Rounding.{le_fact, le_test}
use Rattle.qed_calls.specs.Calls.{are_terms}
use Rattle.qed_calls.specs.Laws.{CallsAreFixed}
use Rattle.qed_calls.proofs.Bodies.{plain_alike, arguments}
use Rattle.qed_calls.proofs.Keeps.{same_name, name_itself, has_name, has_last, taken_named, new_name, base_plain, kept, none_above, base_value, regular_functions}

-- ---- steps above the cut

up_to : (a c : ℤ) → to_nat (a -ℤ c) ≡ 0 → int_le a c ≡ true
up_to a c k = le_test a c (go (a -ℤ c) refl k)
  where
    go : (d : ℤ) → a -ℤ c ≡ d → to_nat d ≡ 0 → a ≤ℤ c
    go (pos zero) e q = omega (arith, ints, e)
    go (pos (suc n)) e q = absurd cc
    go (negsuc n) e q = omega (arith, ints, e)

above : (a c : ℤ) (m : ℕ) → to_nat (a -ℤ c) ≡ suc m → int_le a c ≡ false
above a c m k = go (int_le a c) refl
  where
    go : (b : Bool) → int_le a c ≡ b → b ≡ false
    go true e =
        let l = le_fact a c e in
        let none : to_nat (a -ℤ c) ≡ 0 = none_above 0 (a -ℤ c) (omega (arith, ints, l)) in
        absurd cc
    go false e = refl

one_down : (a c : ℤ) (m : ℕ) → to_nat (a -ℤ c) ≡ suc m → to_nat ((a -ℤ pos 1) -ℤ c) ≡ m
one_down a c m k = go (a -ℤ c) refl k
  where
    go : (d : ℤ) → a -ℤ c ≡ d → to_nat d ≡ suc m → to_nat ((a -ℤ pos 1) -ℤ c) ≡ m
    go (pos zero) e q = absurd cc
    go (pos (suc n)) e q =
        let less : (a -ℤ pos 1) -ℤ c ≡ pos n = omega (arith, ints, e) in
        let same : n ≡ m = cc in
        ap to_nat less ∙ same
    go (negsuc n) e q = absurd cc

-- ---- the number of a call within the step

zero_only : (z w : ℤ) → is_equal z w ≡ true → z ≡ w
zero_only z w k = go (z -ℤ w) refl k
  where
    go : (d : ℤ) → z -ℤ w ≡ d → is_equal z w ≡ true → z ≡ w
    go (pos zero) e q = omega (arith, ints, e)
    go (pos (suc n)) e q = absurd cc
    go (negsuc n) e q = absurd cc

less_value : (w : World) (env : Values) (n : List ℕ) (t : Tree) → is_one_less n t ≡ true → value w env t ≡ env.ints n -ℤ pos 1
less_value w env n (node (h.Term op.Sub) (more (node (h.Var x sort.Int) stop) (more (node (h.Num z) stop) stop))) k =
    let e = same_name x n (and_left (bytes_eq x n) (is_equal z (pos 1)) k) in
    let f = zero_only z (pos 1) (and_right (bytes_eq x n) (is_equal z (pos 1)) k) in
    λ i. env.ints (e i) -ℤ f i
less_value w env n (node (h.Term op.Add) (more (node (h.Var x sort.Int) stop) (more (node (h.Num z) stop) stop))) k =
    let e = same_name x n (and_left (bytes_eq x n) (is_equal z (negsuc 0)) k) in
    let f = zero_only z (negsuc 0) (and_right (bytes_eq x n) (is_equal z (negsuc 0)) k) in
    let g : env.ints n +ℤ (negsuc 0 +ℤ pos 0) ≡ env.ints n -ℤ pos 1 = omega (arith, ints) in
    (λ i. env.ints (e i) +ℤ (f i +ℤ pos 0)) ∙ g
less_value w env n t k = absurd cc

number_less : (w : World) (env : Values) (n : List ℕ) (us : Trees) (place : ℕ) → kid_at (is_one_less n) us place ≡ true → argument_at (meanings w env us) place ≡ env.ints n -ℤ pos 1
number_less w env n stop place k = absurd cc
number_less w env n (more u us) zero k = less_value w env n u k
number_less w env n (more u us) (suc place) k = number_less w env n us place k

-- ---- the number of a function by its parameter

other_way : (x y : List ℕ) → bytes_eq x y ≡ false → bytes_eq y x ≡ false
other_way x y k = go (bytes_eq y x) refl
  where
    go : (b : Bool) → bytes_eq y x ≡ b → b ≡ false
    go true e =
        let p : bytes_eq x y ≡ true = ap (λ z. bytes_eq x z) (same_name y x e) ∙ name_itself x in
        absurd cc
    go false e = refl

untaken : (b : Bool) → not b ≡ true → b ≡ false
untaken true k = absurd cc
untaken false k = refl

-- a later parameter that is an integer isn't this one
later_differs : (p : Param) (ps : List Param) (place : ℕ) → list_any (same_param p) ps ≡ false → is_int_param (slice_get ps place) ≡ true → p.sort ≡ sort.Int → bytes_eq (p.name) (name_of (slice_get ps place)) ≡ false
later_differs p [] place k l e = absurd cc
later_differs p (q ∷ ps) zero k l e = go (bytes_eq (p.name) (q.name)) (p.sort) (q.sort) k l e
  where
    go : (b : Bool) (s r : Sort) → (b && same_sort s r) || list_any (same_param p) ps ≡ false → same_sort r sort.Int ≡ true → s ≡ sort.Int → b ≡ false
    go true sort.Int sort.Int k l e = absurd cc
    go true sort.Int sort.Memory k l e = absurd cc
    go true sort.Int sort.Table k l e = absurd cc
    go true sort.Memory r k l e = absurd cc
    go true sort.Table r k l e = absurd cc
    go false s r k l e = refl
later_differs p (q ∷ ps) (suc place) k l e = later_differs p ps place (rest (same_param p q) k) l e
  where
    rest : (b : Bool) → b || list_any (same_param p) ps ≡ false → list_any (same_param p) ps ≡ false
    rest true k = absurd cc
    rest false k = k

bound_number : (ps : List Param) (vs : List Value) (place : ℕ) → are_arguments ps vs ≡ true → is_int_param (slice_get ps place) ≡ true → all_differ same_param ps ≡ true
    → (bound ps vs).ints (name_of (slice_get ps place)) ≡ argument_at vs place
bound_number [] vs place a k d = absurd cc
bound_number (p ∷ ps) [] place a k d = absurd cc
bound_number (p ∷ ps) (v ∷ vs) zero a k d = go (p.sort) v (and_left (has_sort p.sort v) (are_arguments ps vs) a) k
  where
    go : (s : Sort) (v : Value) → has_sort s v ≡ true → same_sort s sort.Int ≡ true → (with_value (bound ps vs) p v).ints (p.name) ≡ whole v
    go sort.Int (Whole z) q r = ap (λ b. cond b z ((bound ps vs).ints p.name)) (name_itself p.name)
    go sort.Memory v q r = absurd cc
    go sort.Table v q r = absurd cc
    go s v q r = absurd cc
bound_number (p ∷ ps) (v ∷ vs) (suc place) a k d =
    go (p.sort) v refl (and_left (has_sort p.sort v) (are_arguments ps vs) a)
    ∙ bound_number ps vs place (and_right (has_sort p.sort v) (are_arguments ps vs) a) k (and_right (not (list_any (same_param p) ps)) (all_differ same_param ps) d)
  where
    none : list_any (same_param p) ps ≡ false
    none = untaken (list_any (same_param p) ps) (and_left (not (list_any (same_param p) ps)) (all_differ same_param ps) d)

    go : (s : Sort) (v : Value) → p.sort ≡ s → has_sort s v ≡ true → (with_value (bound ps vs) p v).ints (name_of (slice_get ps place)) ≡ (bound ps vs).ints (name_of (slice_get ps place))
    go sort.Int (Whole z) e q =
        ap (λ b. cond b z ((bound ps vs).ints (name_of (slice_get ps place)))) (other_way (p.name) (name_of (slice_get ps place)) (later_differs p ps place none k e))
    go sort.Memory (Cells m) e q = refl
    go sort.Table (Blocks t) e q = refl
    go s v e q = absurd cc

-- ---- the function

module _ (bits : ℕ) where
  step_value : (known : Apps) (f : Logic) (n : ℕ) (vs : List Value)
      → descend bits known f (suc n) vs ≡ value (record { long_bits = bits; apps = with_function known f (descend bits known f n) }) (bound f.params vs) f.step
  unfolding descend
  step_value known f n vs = refl

  steps_plain : (before : List Logic) (f : Logic) → is_regular_after before f ≡ true → is_body f.params (λ y us. some_takes before y us || goes_down f y us) f.step ≡ true
  steps_plain before f k = and_right _ (is_body f.params (λ y us. some_takes before y us || goes_down f y us) f.step) k

  number_is_int : (before : List Logic) (f : Logic) → is_regular_after before f ≡ true → is_int_param (slice_get f.params f.number) ≡ true
  number_is_int before f k = and_right _ (is_int_param (slice_get f.params f.number)) (and_left _ _ (and_left _ _ k))

  params_differ : (before : List Logic) (f : Logic) → is_regular_after before f ≡ true → all_differ same_param f.params ≡ true
  params_differ before f k = and_right _ (all_differ same_param f.params) (and_left _ _ (and_left _ _ (and_left _ _ k)))

  module _ (f : Logic) (fs before : List Logic) (known : Apps) (regular : are_regular_after before (f ∷ fs) ≡ true) where
    abbrev full : Apps
    full = apps_from bits known (f ∷ fs)

    this : is_regular_after before f ≡ true
    this = and_left (is_regular_after before f) (are_regular_after (before ++ f ∷ []) fs) regular

    later : are_regular_after (before ++ f ∷ []) fs ≡ true
    later = and_right (is_regular_after before f) (are_regular_after (before ++ f ∷ []) fs) regular

    own : (y : List ℕ) (vs : List Value) → bytes_eq y f.name ≡ true → full y vs ≡ after bits known f y vs
    own y vs named = kept bits fs (before ++ f ∷ []) (after bits known f) y later (ap (λ z. has_name z (before ++ f ∷ [])) (same_name y f.name named) ∙ has_last before f) vs

    -- over arguments of its sorts it has the value so many steps above the cut
    descended : (y : List ℕ) (vs : List Value) → bytes_eq y f.name ≡ true → are_arguments f.params vs ≡ true → full y vs ≡ descend bits known f (steps_of f vs) vs
    descended y vs named args = own y vs named ∙ (λ i. cond (named i && args i) (descend bits known f (steps_of f vs) vs) (known y vs))

    earlier : (y : List ℕ) (us : Trees) → some_takes before y us ≡ true → (vs : List Value) → full y vs ≡ known y vs
    earlier y us q vs = kept bits (f ∷ fs) before known y regular (taken_named y us before q) vs

    -- ---- up to the cut

    module _ (vs : List Value) (args : are_arguments f.params vs ≡ true) where
      base_fixed : steps_of f vs ≡ 0 → full (f.name) vs ≡ value (record { long_bits = bits; apps = full }) (bound f.params vs) f.base
      base_fixed none =
          let body = base_plain before f this in
          let integer = and_left (fits int f.base) (is_plain f.params (some_takes before) f.base) body in
          let plain = and_right (fits int f.base) (is_plain f.params (some_takes before) f.base) body in
          let small : World = record { long_bits = bits; apps = known } in
          let inner = bound f.params vs in
          let alike : (y : List ℕ) (us : Trees) → some_takes before y us ≡ true → are_terms us ≡ true → full y (meanings small inner us) ≡ known y (meanings small inner us) =
          λ y us q terms. earlier y us q (meanings small inner us) in
          descended (f.name) vs (name_itself f.name) args ∙ ap (λ n. descend bits known f n vs) none ∙ base_value bits known f vs
          ∙ ap whole (sym (plain_alike bits f.params (some_takes before) full known inner alike int f.base integer plain))

      -- ---- above it

      module _ (m : ℕ) (steps : steps_of f vs ≡ suc m) where
        abbrev one_less : Apps
        one_less = with_function known f (descend bits known f m)

        abbrev inside : World
        inside = record { long_bits = bits; apps = one_less }

        -- an earlier function in the step
        other_alike : (y : List ℕ) (us : Trees) (ws : List Value) → some_takes before y us ≡ true → full y ws ≡ one_less y ws
        other_alike y us ws q = earlier y us q ws ∙ sym (unlike (bytes_eq y f.name) refl)
          where
            unlike : (b : Bool) → bytes_eq y f.name ≡ b → one_less y ws ≡ known y ws
            unlike true e =
                let none : has_name y before ≡ false = ap (λ x. has_name x before) (same_name y f.name e) ∙ new_name before f this in
                let some : has_name y before ≡ true = taken_named y us before q in
                absurd cc
            unlike false e = ap (λ b. cond (b && are_arguments f.params ws) (descend bits known f m ws) (known y ws)) e

        -- the function itself, one step down
        itself_alike : (y : List ℕ) (us : Trees) → goes_down f y us ≡ true → are_terms us ≡ true
            → full y (meanings inside (bound f.params vs) us) ≡ one_less y (meanings inside (bound f.params vs) us)
        itself_alike y us q terms =
            let inner = bound f.params vs in
            let ws = meanings inside inner us in
            let n = name_of (slice_get f.params f.number) in
            let taken = and_left (takes y us f) (kid_at (is_one_less n) us f.number) q in
            let lower = and_right (takes y us f) (kid_at (is_one_less n) us f.number) q in
            let named = and_left (bytes_eq y f.name) (kids_match f.params us) taken in
            let match = and_right (bytes_eq y f.name) (kids_match f.params us) taken in
            let fit = arguments inside inner f.params us match terms in
            let number : argument_at ws f.number ≡ argument_at vs f.number -ℤ pos 1 = number_less inside inner n us f.number lower
            ∙ ap (λ z. z -ℤ pos 1) (bound_number f.params vs f.number args (number_is_int before f this) (params_differ before f this)) in
            let down : steps_of f ws ≡ m = ap (λ z. to_nat (z -ℤ f.cut)) number ∙ one_down (argument_at vs f.number) f.cut m steps in
            descended y ws named fit ∙ ap (λ k. descend bits known f k ws) down ∙ sym (λ i. cond (named i && fit i) (descend bits known f m ws) (known y ws))

        step_alike : (y : List ℕ) (us : Trees) → some_takes before y us || goes_down f y us ≡ true → are_terms us ≡ true
            → full y (meanings inside (bound f.params vs) us) ≡ one_less y (meanings inside (bound f.params vs) us)
        step_alike y us q terms = go (some_takes before y us) refl q
          where
            go : (b : Bool) → some_takes before y us ≡ b → b || goes_down f y us ≡ true → full y (meanings inside (bound f.params vs) us) ≡ one_less y (meanings inside (bound f.params vs) us)
            go true e r = other_alike y us (meanings inside (bound f.params vs) us) e
            go false e r = itself_alike y us r terms

        step_fixed : full (f.name) vs ≡ value (record { long_bits = bits; apps = full }) (bound f.params vs) f.step
        step_fixed =
            let allowed : List ℕ → Trees → Bool = λ y us. some_takes before y us || goes_down f y us in
            let body = steps_plain before f this in
            let integer = and_left (fits int f.step) (is_plain f.params allowed f.step) body in
            let plain = and_right (fits int f.step) (is_plain f.params allowed f.step) body in
            descended (f.name) vs (name_itself f.name) args ∙ ap (λ n. descend bits known f n vs) steps ∙ step_value known f m vs
            ∙ ap whole (sym (plain_alike bits f.params allowed full one_less (bound f.params vs) step_alike int f.step integer plain))

      here_fixed : full (f.name) vs ≡ value (record { long_bits = bits; apps = full }) (bound f.params vs) (cond (int_le (argument_at vs f.number) f.cut) f.base f.step)
      here_fixed = go (steps_of f vs) refl
        where
          go : (n : ℕ) → steps_of f vs ≡ n → full (f.name) vs ≡ value (record { long_bits = bits; apps = full }) (bound f.params vs) (cond (int_le (argument_at vs f.number) f.cut) f.base f.step)
          go zero e = base_fixed e ∙ ap (λ b. value (record { long_bits = bits; apps = full }) (bound f.params vs) (cond b f.base f.step)) (sym (up_to (argument_at vs f.number) f.cut e))
          go (suc m) e = step_fixed m e ∙ ap (λ b. value (record { long_bits = bits; apps = full }) (bound f.params vs) (cond b f.base f.step)) (sym (above (argument_at vs f.number) f.cut m e))

  each_fixed : (fs before : List Logic) (known : Apps) (place : ℕ) (f : Logic) → are_regular_after before fs ≡ true → slice_get fs place ≡ Some f → (vs : List Value) → are_arguments f.params vs ≡ true
      → apps_from bits known fs (f.name) vs ≡ value (record { long_bits = bits; apps = apps_from bits known fs }) (bound f.params vs) (cond (int_le (argument_at vs f.number) f.cut) f.base f.step)
  each_fixed [] before known place f k e vs args = absurd cc
  each_fixed (g ∷ fs) before known zero f k e vs args =
      let same : g ≡ f = cc in
      let P : Logic → Type 0 = λ l. are_arguments l.params vs ≡ true
      → apps_from bits known (g ∷ fs) (l.name) vs ≡ value (record { long_bits = bits; apps = apps_from bits known (g ∷ fs) }) (bound l.params vs) (cond (int_le (argument_at vs l.number) l.cut) l.base l.step) in
      subst P same (here_fixed g fs before known k vs) args
  each_fixed (g ∷ fs) before known (suc place) f k e vs args =
      each_fixed fs (before ++ g ∷ []) (after bits known g) place f (and_right (is_regular_after before g) (are_regular_after (before ++ g ∷ []) fs) k) e vs args

pub calls_are_fixed : CallsAreFixed
unfolding world_of
calls_are_fixed s place f k e vs args = each_fixed s.long_bits s.logic [] no_apps place f (regular_functions s k) e vs args

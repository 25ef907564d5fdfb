-- Regions, and that no two of them have a cell in common.
use Rattle.std.proofs.Common.{◌≡◌, ℕ, ◌==◌, Bool, true, false, not, ◌&&◌, ◌||◌, List, [], ◌∷◌, ◌++◌, map, length, refl, sym, ap, ◌∙◌, subst, arith, ⊎_elim}
use Rattle.std.specs.Prelude.{ℤ, pos, ◌+ℤ◌, ◌*ℤ◌, ◌≤ℤ◌, ◌<ℤ◌, int_le, int_lt, Option, Some, None, if◌then◌else◌}
use Rattle.std.specs.List.{list_all}
use Rattle.std.proofs.lemmas.Bool.{and_parts, false≢true, eqb-true}
use Rattle.std.proofs.lemmas.Int.{ints}
use Rattle.wp_base.specs.declared.kinds.CellKind.{CellKind}
use Rattle.c_kinds.proofs.Converting.{le_test, test_le}
use Rattle.c_runs.specs.TruthStates as state
use Rattle.c_runs.specs.TruthStates.{Value, covers, are_apart, all_apart}
use Rattle.qed_terms.specs.Operators.{is_equal}
use Rattle.qed_terms.specs.Tree.{Tree as Term}
use Rattle.qed_terms.specs.Meaning.{Values, World as Logic, each_true}
use Rattle.acsl_encode.specs.Readings as reading
use Rattle.acsl_encode.specs.Readings.{Terms, integer, address, variable, elements, region, nothing, Common, Reading}
use Rattle.acsl_encode.specs.Encode as encode
use Rattle.acsl_encode.specs.Encode.{further, times, one_more, element_at, region_of, apart_by, apart, apart_all, pairs_apart, put, all_of}
use Rattle.acsl_encode.specs.Meaning.{Holds, number_in, is_so_in, is_inside, IsStretch, Means}
use Rattle.acsl_encode.proofs.Numbers.{sum_two}
use Rattle.acsl_encode.proofs.Operands.{AllMean, on_one}
use Rattle.acsl_encode.proofs.Operations.{further_is, times_is}
use Rattle.acsl_encode.proofs.Nodes.{AllAre, all_is, both_hold}
use Rattle.acsl_encode.proofs.Stretches.{equal_is, is_equal_to, same_test, both, or_else, lt_test, test_lt, is_not, range_stretch, object_stretch}

not_le : (a b : ℤ) → int_le a b ≡ false → b <ℤ a
not_le a b h = grind (arith, ints, h)

module _ (v w : Value) (ks ls : List CellKind) (b i j c k l : ℤ) (h : IsStretch ks b i j v) (e : IsStretch ls c k l w) where
  abbrev formula : Bool
  formula = not (is_equal b c) || (int_le j k || (int_le l i || (int_le j i || (int_le l k || false))))

  inside_both : (x : ℤ) → are_apart v w ≡ true → b ≡ c → i ≤ℤ x → x <ℤ j → k ≤ℤ x → x <ℤ l → ⊥
  inside_both x apart same ge lt ge' lt' =
      let out = h.avoids w apart x ge lt in
      let in_w : covers w b x ≡ true =
      e.covered b x ∙ both (is_equal c b) (int_le k x && int_lt x l) (is_equal_to c b (sym same))
      (both (int_le k x) (int_lt x l) (le_test k x ge') (lt_test x l lt')) in
      false≢true (sym out ∙ in_w)

  apart_true : are_apart v w ≡ true → formula ≡ true
  apart_true apart = by (is_equal b c) refl (int_le j k) refl (int_le l i) refl (int_le j i) refl (int_le l k) refl (int_le i k) refl
    where
      by : (t1 : Bool) → is_equal b c ≡ t1 → (t2 : Bool) → int_le j k ≡ t2 → (t3 : Bool) → int_le l i ≡ t3 → (t4 : Bool) → int_le j i ≡ t4 → (t5 : Bool)
          → int_le l k ≡ t5
          → (t6 : Bool) → int_le i k ≡ t6 → (not t1 || (t2 || (t3 || (t4 || (t5 || false))))) ≡ true
      by false e1 t2 e2 t3 e3 t4 e4 t5 e5 t6 e6 = refl
      by true e1 true e2 t3 e3 t4 e4 t5 e5 t6 e6 = refl
      by true e1 false e2 true e3 t4 e4 t5 e5 t6 e6 = refl
      by true e1 false e2 false e3 true e4 t5 e5 t6 e6 = refl
      by true e1 false e2 false e3 false e4 true e5 t6 e6 = refl
      by true e1 false e2 false e3 false e4 false e5 true e6 =
          let p = test_le i k e6 in let f = not_le j k e2 in let g = not_le l k e5 in
          absurd (inside_both k apart (equal_is b c e1) p f (omega (arith, ints)) g)
      by true e1 false e2 false e3 false e4 false e5 false e6 =
          let p = not_le i k e6 in let f = not_le j i e4 in let g = not_le l i e3 in
          absurd (inside_both i apart (equal_is b c e1) (omega (arith, ints)) f (omega (arith, ints, p)) g)

  true_apart : formula ≡ true → are_apart v w ≡ true
  true_apart so = h.apart w (λ x ge lt. e.covered b x ∙ outside x ge lt (is_inside c k l b x) refl)
    where
      outside : (x : ℤ) → i ≤ℤ x → x <ℤ j → (t : Bool) → is_inside c k l b x ≡ t → is_inside c k l b x ≡ false
      outside x ge lt false is = is
      outside x ge lt true is =
          let p = and_parts (is_equal c b) (int_le k x && int_lt x l) is in
          let f = and_parts (int_le k x) (int_lt x l) p.1 in
          let same = equal_is c b p.0 in let ge' = test_le k x f.0 in let lt' = test_lt x l f.1 in
          absurd (⊎_elim
          (λ n. false≢true (sym (is_not (is_equal b c) n) ∙ is_equal_to b c (sym same)))
          (λ r1. ⊎_elim (λ n. let m = test_le j k n in omega (arith, ints, m, lt, ge'))
          (λ r2. ⊎_elim (λ n. let m = test_le l i n in omega (arith, ints, m, ge, lt'))
          (λ r3. ⊎_elim (λ n. let m = test_le j i n in omega (arith, ints, m, ge, lt))
          (λ r4. ⊎_elim (λ n. let m = test_le l k n in omega (arith, ints, m, ge', lt')) (λ n. false≢true n) (or_else (int_le l k) false r4))
          (or_else (int_le j i) (int_le l k || false) r3))
          (or_else (int_le l i) (int_le j i || (int_le l k || false)) r2))
          (or_else (int_le j k) (int_le l i || (int_le j i || (int_le l k || false))) r1))
          (or_else (not (is_equal b c)) (int_le j k || (int_le l i || (int_le j i || (int_le l k || false)))) so))

  apart_same : are_apart v w ≡ formula
  apart_same = same_test (are_apart v w) formula apart_true true_apart

module _ (q : Logic) (r : Reading) (env : Values) where
  abbrev M : Terms → Value → Type 0
  M = Means q r.common env

  abbrev N : Term → ℤ
  N = number_in q env

  place_is : (o : Term) (size : ℕ) (t : Term) → N o +ℤ pos size *ℤ N t ≡ N (element_at o size t)
  place_is o size t = ap (λ z. N o +ℤ z) (times_is q r.common env size t) ∙ sym (sum_two (N o) (N (times size t)))

  pub region_means : (ks : List CellKind) (x : Terms) (v : Value) → M x v → M (region_of ks x) (state.region ks (state.span_of v))
  region_means ks (address b o) v h =
      subst (λ v. M (region ks b o (further (length ks) o)) (state.region ks (state.span_of v))) (sym h.0)
      (subst (λ z. IsStretch ks (N b) (N o) z (state.region ks (state.one_address (N b) (N o)))) (further_is q r.common env (length ks) o)
      (object_stretch ks (N b) (N o)))
  region_means ks (elements b o size low high) v h =
      subst (λ v. M (region_of ks (elements b o size low high)) (state.region ks (state.span_of v))) (sym h) (by (size == length ks) refl)
    where
      s : state.Span
      s = record { block = N b; offset = N o; size = pos size; low = N low; high = N high }

      by : (t : Bool) → (size == length ks) ≡ t
          → M (if t then region ks b (element_at o size low) (element_at o size (one_more high)) else nothing) (state.region ks s)
      by true e =
          let more : N high +ℤ pos 1 ≡ N (one_more high) = sym (sum_two (N high) (pos 1)) in
          subst (λ z. IsStretch ks (N b) z (N (element_at o size (one_more high))) (state.region ks s)) (place_is o size low)
          (subst (λ z. IsStretch ks (N b) (state.address_at s s.low) z (state.region ks s)) (ap (state.address_at s) more ∙ place_is o size (one_more high))
          (range_stretch ks s (ap pos (eqb-true size (length ks) e))))
      by false e = tt
  region_means ks (integer k t) v h = tt
  region_means ks (reading.truth f) v h = tt
  region_means ks (variable y) v h = tt
  region_means ks (region cells b i j) v h = tt
  region_means ks nothing v h = tt

  abbrev F : Term → Bool
  F = is_so_in q env

  apart_means : (x y : Terms) (v w : Value) → M x v → M y w → Holds (λ f. are_apart v w ≡ F f) (apart x y)
  apart_means (region ks b i j) (region ls c k l) v w h e = apart_same v w ks ls (N b) (N i) (N j) (N c) (N k) (N l) h e
  apart_means (region ks b i j) (integer k t) v w h e = tt
  apart_means (region ks b i j) (reading.truth f) v w h e = tt
  apart_means (region ks b i j) (address c o) v w h e = tt
  apart_means (region ks b i j) (variable y) v w h e = tt
  apart_means (region ks b i j) (elements c o n k l) v w h e = tt
  apart_means (region ks b i j) nothing v w h e = tt
  apart_means (integer k t) y v w h e = tt
  apart_means (reading.truth f) y v w h e = tt
  apart_means (address b o) y v w h e = tt
  apart_means (variable x) y v w h e = tt
  apart_means (elements b o n i j) y v w h e = tt
  apart_means nothing y v w h e = tt

  from_all : (x : Terms) (v : Value) (ys : List Terms) (ws : List Value) → M x v → AllMean q r.common env ys ws
      → Holds (AllAre q r env (list_all (are_apart v) ws)) (apart_all x ys)
  from_all x v [] [] h k = refl
  from_all x v [] (w ∷ ws) h k = absurd k
  from_all x v (y ∷ ys) [] h k = absurd k
  from_all x v (y ∷ ys) (w ∷ ws) h k =
      both_hold q r env (are_apart v w) (list_all (are_apart v) ws) (apart x y) (apart_all x ys) (apart_means x y v w h k.0) (from_all x v ys ws h k.1)

  each_both : (fs gs : List Term) → each_true (map F (fs ++ gs)) ≡ (each_true (map F fs) && each_true (map F gs))
  each_both [] gs = refl
  each_both (f ∷ fs) gs = ap (λ b. F f && b) (each_both fs gs) ∙ and_assoc (F f) (each_true (map F fs)) (each_true (map F gs))
    where
      and_assoc : (a b c : Bool) → (a && (b && c)) ≡ ((a && b) && c)
      and_assoc true b c = refl
      and_assoc false b c = refl

  put_hold : (a b : Bool) (o o' : Option (List Term)) → Holds (AllAre q r env a) o → Holds (AllAre q r env b) o' → Holds (AllAre q r env (a && b)) (put o o')
  put_hold a b (Some fs) (Some gs) h k = (λ i. h i && k i) ∙ sym (each_both fs gs)
  put_hold a b (Some fs) None h k = tt
  put_hold a b None o' h k = tt

  pairs_hold : (xs : List Terms) (vs : List Value) → AllMean q r.common env xs vs → Holds (AllAre q r env (all_apart vs)) (pairs_apart xs)
  pairs_hold [] [] h = refl
  pairs_hold [] (v ∷ vs) h = absurd h
  pairs_hold (x ∷ xs) [] h = absurd h
  pairs_hold (x ∷ xs) (v ∷ vs) h =
      put_hold (list_all (are_apart v) vs) (all_apart vs) (apart_all x xs) (pairs_apart xs) (from_all x v xs vs h.0 h.1) (pairs_hold xs vs h.1)

  pub separated_means : (xs : List Terms) (vs : List Value) → AllMean q r.common env xs vs
      → M (encode.with_one (λ fs. reading.truth (all_of fs)) (pairs_apart xs)) (state.truth (all_apart vs))
  separated_means xs vs h =
      on_one q r.common env (AllAre q r env (all_apart vs)) (λ fs. reading.truth (all_of fs)) (state.truth (all_apart vs)) (pairs_apart xs) (pairs_hold xs vs h)
      (λ fs e. ap state.truth (e ∙ sym (all_is q r env fs)))

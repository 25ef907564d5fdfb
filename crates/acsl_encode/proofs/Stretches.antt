-- Regions cell by cell, and as stretches of offsets.
use Rattle.std.proofs.Common.{◌≡◌, ◌⊎◌, ℕ, zero, suc, ◌+◌, Bool, true, false, not, ◌&&◌, ◌||◌, List, length, refl, sym, ap, ◌∙◌, subst, arith, ⊎_elim, inl, inr}
use Rattle.std.specs.Prelude.{ℤ, pos, negsuc, ◌+ℤ◌, ◌-ℤ◌, ◌*ℤ◌, ◌≤ℤ◌, ◌<ℤ◌, int_le, int_lt}
use Rattle.std.proofs.lemmas.Bool.{cases_Bool, and_parts, false≢true}
use Rattle.std.proofs.lemmas.Int.{ints}
use Rattle.std.proofs.Math.IntN.{suc_ℤ-*ℤ, *ℤ_comm, suc_ℤ}
use Rattle.wp_base.specs.declared.kinds.CellKind.{CellKind}
use Rattle.wp_base.specs.Blocks.{to_nat}
use Rattle.c_kinds.proofs.Converting.{le_test, test_le}
use Rattle.qed_terms.specs.Operators.{is_equal, is_zero}
use Rattle.qed_terms.specs.Meaning.{all_from, some_from}
use Rattle.c_runs.specs.TruthStates as state
use Rattle.c_runs.specs.TruthStates.{Value, Span, is_among, covers, are_outside, are_apart, address_at, count_between}
use Rattle.acsl_encode.specs.Meaning.{is_inside, Avoids, IsStretch}

-- ---- tests

pub equal_is : (a b : ℤ) → is_equal a b ≡ true → a ≡ b
equal_is a b h = by (a -ℤ b) refl h
  where
    by : (d : ℤ) → a -ℤ b ≡ d → is_zero d ≡ true → a ≡ b
    by (pos zero) e h = omega (arith, ints, e)
    by (pos (suc n)) e h = absurd (false≢true h)
    by (negsuc n) e h = absurd (false≢true h)

pub is_equal_to : (a b : ℤ) → a ≡ b → is_equal a b ≡ true
is_equal_to a b e = let none : a -ℤ b ≡ pos 0 = omega (arith, ints, e) in ap is_zero none

pub or_first : (a b : Bool) → a ≡ true → (a || b) ≡ true
or_first true b h = refl
or_first false b h = absurd (false≢true h)

pub or_second : (a b : Bool) → b ≡ true → (a || b) ≡ true
or_second true b h = refl
or_second false b h = h

pub both : (a b : Bool) → a ≡ true → b ≡ true → (a && b) ≡ true
both a b h k = λ i. h i && k i

pub or_else : (a b : Bool) → (a || b) ≡ true → (a ≡ true) ⊎ (b ≡ true)
or_else true b h = inl refl
or_else false b h = inr h

pub lt_test : (a b : ℤ) → a <ℤ b → int_lt a b ≡ true
lt_test a b h = grind (arith, ints, h)

pub test_lt : (a b : ℤ) → int_lt a b ≡ true → a <ℤ b
test_lt a b h = grind (arith, ints, h)

pub is_not : (b : Bool) → not b ≡ true → b ≡ false
is_not true h = absurd (false≢true h)
is_not false h = refl

pub same_test : (a b : Bool) → (a ≡ true → b ≡ true) → (b ≡ true → a ≡ true) → a ≡ b
same_test true b f g = sym (f refl)
same_test false true f g = g refl
same_test false false f g = refl

-- ---- so many cells from an offset on

among_is : (k : ℕ) (o x : ℤ) → is_among k o x ≡ true → (o ≤ℤ x) × (x <ℤ (o +ℤ pos k))
among_is zero o x h = absurd (false≢true h)
among_is (suc k) o x h = ⊎_elim
    (λ here. let e = equal_is o x here in (omega (arith, ints, e), omega (arith, ints, e)))
    (λ rest. let e = among_is k (o +ℤ pos 1) x rest in (omega (arith, ints, e.0), omega (arith, ints, e.1)))
    (or_else (is_equal o x) (is_among k (o +ℤ pos 1) x) h)

is_among_them : (k : ℕ) (o x : ℤ) → o ≤ℤ x → x <ℤ (o +ℤ pos k) → is_among k o x ≡ true
is_among_them zero o x le lt = absurd (omega (arith, ints, le, lt))
is_among_them (suc k) o x le lt = ⊎_elim
    (λ here. or_first (is_equal o x) (is_among k (o +ℤ pos 1) x) here)
    (λ not_here.
    let differ : o ≡ x → ⊥ = λ e. false≢true (sym not_here ∙ is_equal_to o x e) in
    let more : (o +ℤ pos 1) ≤ℤ x = grind (arith, ints, le, differ) in
    or_second (is_equal o x) (is_among k (o +ℤ pos 1) x) (is_among_them k (o +ℤ pos 1) x more (omega (arith, ints, lt))))
    (cases_Bool (is_equal o x))

module _ (w : Value) (b : ℤ) where
  outside_is : (k : ℕ) (o : ℤ) → are_outside w k b o ≡ true → Avoids w b o (o +ℤ pos k)
  outside_is zero o h x le lt = absurd (omega (arith, ints, le, lt))
  outside_is (suc k) o h x le lt =
      let p = and_parts (not (covers w b o)) (are_outside w k b (o +ℤ pos 1)) h in
      ⊎_elim
      (λ here. ap (covers w b) (sym (equal_is o x here)) ∙ is_not (covers w b o) p.0)
      (λ not_here.
      let differ : o ≡ x → ⊥ = λ e. false≢true (sym not_here ∙ is_equal_to o x e) in
      let more : (o +ℤ pos 1) ≤ℤ x = grind (arith, ints, le, differ) in
      outside_is k (o +ℤ pos 1) p.1 x more (omega (arith, ints, lt)))
      (cases_Bool (is_equal o x))

  is_outside : (k : ℕ) (o : ℤ) → Avoids w b o (o +ℤ pos k) → are_outside w k b o ≡ true
  is_outside zero o h = refl
  is_outside (suc k) o h =
      both (not (covers w b o)) (are_outside w k b (o +ℤ pos 1)) (ap not (h o (omega (arith, ints)) (omega (arith, ints))))
      (is_outside k (o +ℤ pos 1) (λ x le lt. h x (omega (arith, ints, le)) (omega (arith, ints, lt))))

-- ---- elements, one behind the other

module _ (n : ℕ) (at : ℤ → ℤ) (next : (z : ℤ) → at (z +ℤ pos 1) ≡ at z +ℤ pos n) where
  none_more : (z : ℤ) → at (z +ℤ pos 0) ≡ at z
  none_more z = let e : z +ℤ pos 0 ≡ z = omega (arith, ints) in ap at e

  one_less : (z : ℤ) (k : ℕ) → at (z +ℤ pos (suc k)) ≡ at ((z +ℤ pos 1) +ℤ pos k)
  one_less z k = let e : z +ℤ pos (suc k) ≡ (z +ℤ pos 1) +ℤ pos k = omega (arith, ints) in ap at e

  grows : (z : ℤ) (k : ℕ) → at z ≤ℤ at (z +ℤ pos k)
  grows z zero = let e = none_more z in omega (arith, ints, e)
  grows z (suc k) = let e = one_less z k in let f = grows (z +ℤ pos 1) k in let g = next z in omega (arith, ints, e, f, g)

  some_is : (cnt : ℕ) (z x : ℤ) → some_from z cnt (λ i. is_among n (at i) x) ≡ true → (at z ≤ℤ x) × (x <ℤ at (z +ℤ pos cnt))
  some_is zero z x h = absurd (false≢true h)
  some_is (suc k) z x h =
      let e = one_less z k in let f = grows (z +ℤ pos 1) k in let g = next z in
      ⊎_elim
      (λ here. let p = among_is n (at z) x here in (p.0, omega (arith, ints, p.1, e, f, g)))
      (λ rest. let p = some_is k (z +ℤ pos 1) x rest in (omega (arith, ints, p.0, g), omega (arith, ints, p.1, e)))
      (or_else (is_among n (at z) x) (some_from (z +ℤ pos 1) k (λ i. is_among n (at i) x)) h)

  is_some : (cnt : ℕ) (z x : ℤ) → at z ≤ℤ x → x <ℤ at (z +ℤ pos cnt) → some_from z cnt (λ i. is_among n (at i) x) ≡ true
  is_some zero z x le lt = let e = none_more z in absurd (omega (arith, ints, le, lt, e))
  is_some (suc k) z x le lt =
      let e = one_less z k in let g = next z in
      ⊎_elim
      (λ here. or_first (is_among n (at z) x) (some_from (z +ℤ pos 1) k (λ i. is_among n (at i) x))
      (is_among_them n (at z) x le (test_lt x (at z +ℤ pos n) here)))
      (λ not_here.
      let above : at (z +ℤ pos 1) ≤ℤ x = grind (arith, ints, not_here, g) in
      or_second (is_among n (at z) x) (some_from (z +ℤ pos 1) k (λ i. is_among n (at i) x)) (is_some k (z +ℤ pos 1) x above (omega (arith, ints, lt, e))))
      (cases_Bool (int_lt x (at z +ℤ pos n)))

  module _ (w : Value) (b : ℤ) where
    all_is : (cnt : ℕ) (z : ℤ) → all_from z cnt (λ i. are_outside w n b (at i)) ≡ true → Avoids w b (at z) (at (z +ℤ pos cnt))
    all_is zero z h x le lt = let e = none_more z in absurd (omega (arith, ints, le, lt, e))
    all_is (suc k) z h x le lt =
        let p = and_parts (are_outside w n b (at z)) (all_from (z +ℤ pos 1) k (λ i. are_outside w n b (at i))) h in
        let e = one_less z k in let g = next z in
        ⊎_elim
        (λ here. outside_is w b n (at z) p.0 x le (test_lt x (at z +ℤ pos n) here))
        (λ not_here.
        let above : at (z +ℤ pos 1) ≤ℤ x = grind (arith, ints, not_here, g) in all_is k (z +ℤ pos 1) p.1 x above (omega (arith, ints, lt, e)))
        (cases_Bool (int_lt x (at z +ℤ pos n)))

    is_all : (cnt : ℕ) (z : ℤ) → Avoids w b (at z) (at (z +ℤ pos cnt)) → all_from z cnt (λ i. are_outside w n b (at i)) ≡ true
    is_all zero z h = refl
    is_all (suc k) z h =
        let e = one_less z k in let f = grows (z +ℤ pos 1) k in let g = next z in
        both (are_outside w n b (at z)) (all_from (z +ℤ pos 1) k (λ i. are_outside w n b (at i)))
        (is_outside w b n (at z) (λ x le lt. h x le (omega (arith, ints, lt, e, f, g))))
        (is_all k (z +ℤ pos 1) (λ x le lt. h x (omega (arith, ints, le, g)) (omega (arith, ints, lt, e))))

  -- from the low end to behind the high one
  ends_at : (low high x : ℤ) → at low ≤ℤ x → (x <ℤ at (low +ℤ pos (count_between low high)) → x <ℤ at (high +ℤ pos 1)) ×
      (x <ℤ at (high +ℤ pos 1) → x <ℤ at (low +ℤ pos (count_between low high)))
  ends_at low high x le = by ((high -ℤ low) +ℤ pos 1) refl
    where
      by : (d : ℤ) → (high -ℤ low) +ℤ pos 1 ≡ d
          → (x <ℤ at (low +ℤ pos (to_nat d)) → x <ℤ at (high +ℤ pos 1)) × (x <ℤ at (high +ℤ pos 1) → x <ℤ at (low +ℤ pos (to_nat d)))
      by (pos k) e =
          let f : low +ℤ pos k ≡ high +ℤ pos 1 = omega (arith, ints, e) in let g = ap at f in
          ((λ h. omega (arith, ints, h, g)), (λ h. omega (arith, ints, h, g)))
      by (negsuc k) e =
          let f : (high +ℤ pos 1) +ℤ pos (suc k) ≡ low = omega (arith, ints, e) in
          let g = ap at f in let m = grows (high +ℤ pos 1) (suc k) in let none = none_more low in
          ((λ h. absurd (omega (arith, ints, h, le, none))), (λ h. absurd (omega (arith, ints, h, le, g, m))))

-- ---- regions

suc_is : (z : ℤ) → z +ℤ pos 1 ≡ suc_ℤ z
suc_is (pos n) = let e : n + 1 ≡ suc n = omega arith in ap pos e
suc_is (negsuc zero) = refl
suc_is (negsuc (suc n)) = let e : negsuc (suc n) +ℤ pos 1 ≡ negsuc n = omega (arith, ints) in e

address_next : (s : Span) (z : ℤ) → address_at s (z +ℤ pos 1) ≡ address_at s z +ℤ s.size
address_next s z =
    let e = suc_is z in
    let f = *ℤ_comm s.size (z +ℤ pos 1) ∙ ap (λ k. k *ℤ s.size) e ∙ suc_ℤ-*ℤ z s.size ∙ ap (λ k. k +ℤ s.size) (*ℤ_comm z s.size) in omega (arith, ints, f)

-- a range of elements that are as long as their cells
pub range_stretch : (ks : List CellKind) (s : Span) → s.size ≡ pos (length ks)
    → IsStretch ks s.block (address_at s s.low) (address_at s (s.high +ℤ pos 1)) (state.region ks s)
range_stretch ks s size = record {
  kinds = refl;
  covered = λ b x. same_test (covers (state.region ks s) b x) (is_inside s.block (at s.low) (at (s.high +ℤ pos 1)) b x) (to b x) (from b x);
  avoids = λ w h x le lt. all_is n at next w s.block cnt s.low h x le ((ends_at n at next s.low s.high x le).1 lt);
  apart = λ w h. is_all n at next w s.block cnt s.low (λ x le lt. h x le ((ends_at n at next s.low s.high x le).0 lt));
}
  where
    n : ℕ
    n = length ks

    at : ℤ → ℤ
    at = address_at s

    cnt : ℕ
    cnt = count_between s.low s.high

    next : (z : ℤ) → at (z +ℤ pos 1) ≡ at z +ℤ pos n
    next z = address_next s z ∙ ap (λ k. at z +ℤ k) size

    to : (b x : ℤ) → covers (state.region ks s) b x ≡ true → is_inside s.block (at s.low) (at (s.high +ℤ pos 1)) b x ≡ true
    to b x h =
        let p = and_parts (is_equal s.block b) (some_from s.low cnt (λ i. is_among n (at i) x)) h in
        let e = some_is n at next cnt s.low x p.1 in
        both (is_equal s.block b) _ p.0 (both (int_le (at s.low) x) (int_lt x (at (s.high +ℤ pos 1))) (le_test (at s.low) x e.0)
        (lt_test x (at (s.high +ℤ pos 1)) ((ends_at n at next s.low s.high x e.0).0 e.1)))

    from : (b x : ℤ) → is_inside s.block (at s.low) (at (s.high +ℤ pos 1)) b x ≡ true → covers (state.region ks s) b x ≡ true
    from b x h =
        let p = and_parts (is_equal s.block b) (int_le (at s.low) x && int_lt x (at (s.high +ℤ pos 1))) h in
        let e = and_parts (int_le (at s.low) x) (int_lt x (at (s.high +ℤ pos 1))) p.1 in
        let le = test_le (at s.low) x e.0 in
        both (is_equal s.block b) (some_from s.low cnt (λ i. is_among n (at i) x)) p.0
        (is_some n at next cnt s.low x le ((ends_at n at next s.low s.high x le).1 (test_lt x (at (s.high +ℤ pos 1)) e.1)))

-- one object
pub object_stretch : (ks : List CellKind) (b o : ℤ) → IsStretch ks b o (o +ℤ pos (length ks)) (state.region ks (state.one_address b o))
object_stretch ks b o = record {
  kinds = refl;
  covered = λ c x. same_test (covers v c x) (is_inside b o (o +ℤ pos n) c x) (to c x) (from c x);
  avoids = λ w h. outside_is w b n o (subst (λ z. are_outside w n b z ≡ true) here (and_parts (are_outside w n b (o +ℤ pos 0)) true h).0);
  apart = λ w h. both (are_outside w n b (o +ℤ pos 0)) true (subst (λ z. are_outside w n b z ≡ true) (sym here) (is_outside w b n o h)) refl;
}
  where
    n : ℕ
    n = length ks

    v : Value
    v = state.region ks (state.one_address b o)

    here : o +ℤ pos 0 ≡ o
    here = omega (arith, ints)

    to : (c x : ℤ) → covers v c x ≡ true → is_inside b o (o +ℤ pos n) c x ≡ true
    to c x h =
        let p = and_parts (is_equal b c) (is_among n (o +ℤ pos 0) x || false) h in
        let e = ⊎_elim (λ yes. among_is n (o +ℤ pos 0) x yes) (λ no. absurd (false≢true no)) (or_else (is_among n (o +ℤ pos 0) x) false p.1) in
        both (is_equal b c) _ p.0 (both (int_le o x) (int_lt x (o +ℤ pos n)) (le_test o x (omega (arith, ints, e.0)))
        (lt_test x (o +ℤ pos n) (omega (arith, ints, e.1))))

    from : (c x : ℤ) → is_inside b o (o +ℤ pos n) c x ≡ true → covers v c x ≡ true
    from c x h =
        let p = and_parts (is_equal b c) (int_le o x && int_lt x (o +ℤ pos n)) h in
        let e = and_parts (int_le o x) (int_lt x (o +ℤ pos n)) p.1 in
        let le = test_le o x e.0 in let lt = test_lt x (o +ℤ pos n) e.1 in
        both (is_equal b c) (is_among n (o +ℤ pos 0) x || false) p.0
        (or_first (is_among n (o +ℤ pos 0) x) false (is_among_them n (o +ℤ pos 0) x (omega (arith, ints, le)) (omega (arith, ints, lt))))

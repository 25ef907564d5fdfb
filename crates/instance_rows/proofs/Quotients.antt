-- The rows at quotients, remainders, shifts, common bits and choices.
use Rattle.std.proofs.Common.{◌≡◌, ℕ, zero, suc, ◌+◌, ◌-◌, ◌*◌, ◌/◌, ◌%◌, ◌^◌, ◌<◌, ◌≤◌, Bool, true, false, not, ◌&&◌, ◌||◌, cond, refl, sym, ◌∙◌, ap, subst, inl, inr, arith}
use Rattle.std.specs.Prelude.{ℤ, pos, negsuc, ◌+ℤ◌, ◌-ℤ◌, ◌*ℤ◌, ◌≤ℤ◌, ◌<ℤ◌, int_lt, int_le, unsigned_abs, neg_ℤ, [], ◌∷◌, Option, Some, None}
use Rattle.std.specs.Int.Bits.{bit_and, bit_xor}
use Rattle.std.proofs.lemmas.Int.{ints}
use Rattle.std.proofs.Math.IntN.{zero-*ℤ, *ℤ_comm, *ℤ-one, one}
use Rattle.std.proofs.lemmas.Nat.{pow_pos, and_le_l, and_block, xor_block, div-add-mod', mod_below}
use Rattle.wp_base.specs.Kinds.{floor_div}
use Rattle.wp_base.specs.Blocks.{to_nat}
use Rattle.qed_terms.specs.declared.head.Head.TheVariants as h
use Rattle.qed_terms.specs.declared.head.TermOp.TheVariants as op
use Rattle.qed_terms.specs.Meaning.{World, truth, value}
use Rattle.qed_terms.specs.Operators.{is_zero, is_equal, quotient, remainder, shifted_right, both_bits, without, HasSignOf, Divides, DivisionTruncates}
use Rattle.qed_terms.specs.Tree.{node, stop, more}
use Rattle.qed_numbers.specs.Numbers.{number_at}
use Rattle.branches.specs.Branch.{AreTrue}
use Rattle.instance_rows.specs.Rows.{quotient_cases, quotient_of, quotient_by, cases_of_quotient, shift_bounds, shift_by, bounds_of_operator, arm_of_ite}
use Rattle.instance_rows.specs.Laws.{RowIsValid}
use Rattle.instance_rows.proofs.Below.{Below}
use Rattle.instance_rows.proofs.Tests.{first, second, both, alone, le_fact, le_so, lt_so, lt_or_le, equal_so, number_means}

-- ---- a quotient by a number from 2 on

-- a number times another, and what a sum has behind, as trees have them
abbrev times : (k q : ℤ) → ℤ
times k q = k *ℤ (q *ℤ pos 1)

abbrev plus : (a b : ℤ) → ℤ
plus a b = a +ℤ (b +ℤ pos 0)

times_is : (k q : ℤ) → times k q ≡ q *ℤ k
unfolding one
times_is k q = ap (λ x. k *ℤ x) (*ℤ-one q) ∙ *ℤ_comm k q

minus_times : Below → (d m : ℕ) → (pos 0 -ℤ pos d) *ℤ pos m ≡ pos 0 -ℤ pos (d * m)
minus_times below d m =
    let back : (pos 0 -ℤ pos d) +ℤ pos d ≡ pos 0 = omega (arith, ints) in
    let sum = sym (below.sum_times (pos 0 -ℤ pos d) (pos d) (pos m)) ∙ ap (λ x. x *ℤ pos m) back ∙ zero-*ℤ (pos m) in
    let whole : pos d *ℤ pos m ≡ pos (d * m) = omega (arith, ints) in
    omega (arith, ints, sum, whole)

negsuc_times : Below → (d m : ℕ) → negsuc d *ℤ pos m ≡ pos 0 -ℤ pos (suc d * m)
negsuc_times below d m = let e : negsuc d ≡ pos 0 -ℤ pos (suc d) = omega (arith, ints) in ap (λ x. x *ℤ pos m) e ∙ minus_times below (suc d) m

-- a quotient q of a by k, rounded towards 0
record Rounded (a q k : ℤ) : Type 0 where
  from_zero : pos 0 ≤ℤ a → pos 0 ≤ℤ q
  up_below : pos 0 ≤ℤ a → q ≤ℤ a
  up_times : pos 0 ≤ℤ a → times k q ≤ℤ a
  up_above : pos 0 ≤ℤ a → a ≤ℤ plus (times k q) (k -ℤ pos 1)
  less : pos 0 <ℤ a → plus q (pos 1) ≤ℤ a
  to_zero : a ≤ℤ pos 0 → q ≤ℤ pos 0
  down_above : a ≤ℤ pos 0 → a ≤ℤ q
  down_times : a ≤ℤ pos 0 → a ≤ℤ times k q
  down_below : a ≤ℤ pos 0 → plus (times k q) (pos 1 -ℤ k) ≤ℤ a

up_case : (n d m i : ℕ) → d * (i + 2) + m ≡ n → m < i + 2 → Rounded (pos n) (pos d) (pos (i + 2))
up_case n d m i e l = record {
  from_zero = λ k. omega (arith, ints);
  up_below = λ k. omega (arith, ints, e);
  up_times = λ k. omega (arith, ints, e);
  up_above = λ k. omega (arith, ints, e, l);
  less = λ k. omega (arith, ints, e, k);
  to_zero = λ k. omega (arith, ints, e, k);
  down_above = λ k. omega (arith, ints, e, k);
  down_times = λ k. omega (arith, ints, e, k);
  down_below = λ k. omega (arith, ints, e, k);
}

down_case : Below → (n d m i : ℕ) (q : ℤ) → q ≡ pos 0 -ℤ pos d → d * (i + 2) + m ≡ suc n → m < i + 2 → Rounded (negsuc n) q (pos (i + 2))
down_case below n d m i q s e l = record {
  from_zero = λ k. absurd (omega (arith, ints, k));
  up_below = λ k. absurd (omega (arith, ints, k));
  up_times = λ k. absurd (omega (arith, ints, k));
  up_above = λ k. absurd (omega (arith, ints, k));
  less = λ k. absurd (omega (arith, ints, k));
  to_zero = λ k. omega (arith, ints, s);
  down_above = λ k. omega (arith, ints, s, e);
  down_times = λ k. let t : times (pos (i + 2)) q ≡ pos 0 -ℤ pos (d * (i + 2)) = times_is (pos (i + 2)) q ∙ ap (λ x. x *ℤ pos (i + 2)) s ∙ minus_times below d (i + 2) in omega (arith, ints, t, e);
  down_below = λ k. let t : times (pos (i + 2)) q ≡ pos 0 -ℤ pos (d * (i + 2)) = times_is (pos (i + 2)) q ∙ ap (λ x. x *ℤ pos (i + 2)) s ∙ minus_times below d (i + 2) in omega (arith, ints, t, e, l);
}

neg_size : (m : ℕ) → unsigned_abs (neg_ℤ (pos m)) ≡ m
neg_size zero = refl
neg_size (suc m) = refl

neg_is : (m : ℕ) → neg_ℤ (pos m) ≡ pos 0 -ℤ pos m
neg_is zero = refl
neg_is (suc m) = omega (arith, ints)

rounded : Below → (a : ℤ) (i : ℕ) → Rounded a (quotient a (pos (i + 2))) (pos (i + 2))
rounded below a i = go a (quotient a (pos (i + 2))) (remainder a (pos (i + 2))) d.whole d.smaller d.sign
  where
    nonzero : (n : ℕ) → is_zero (pos (n + 2)) ≡ false
    nonzero n = let e : n + 2 ≡ suc (suc n) = omega arith in ap (λ m. is_zero (pos m)) e

    d : Divides a (pos (i + 2))
    d = below.division a (pos (i + 2)) (nonzero i)

    go : (a q r : ℤ) → (q *ℤ pos (i + 2)) +ℤ r ≡ a → unsigned_abs r < i + 2 → HasSignOf a r → Rounded a q (pos (i + 2))
    go (pos n) (pos d) r e l (m, s) =
        let small : m < i + 2 = subst (λ z. unsigned_abs z < i + 2) s l in
        up_case n d m i (omega (arith, ints, e, s)) small
    go (pos n) (negsuc d) r e l (m, s) =
        let small : m < i + 2 = subst (λ z. unsigned_abs z < i + 2) s l in
        let parts : suc d * (i + 2) ≡ d * (i + 2) + (i + 2) = omega arith in
        let turned = negsuc_times below d (i + 2) in
        absurd (omega (arith, ints, e, s, small, parts, turned))
    go (negsuc n) (pos d) r e l (m, s) =
        let small : m < i + 2 = subst (λ k. k < i + 2) (neg_size m) (subst (λ z. unsigned_abs z < i + 2) s l) in
        let turned = s ∙ neg_is m in
        none d m small (omega (arith, ints, e, turned))
      where
        none : (d m : ℕ) → m < i + 2 → d * (i + 2) + suc n ≡ m → Rounded (negsuc n) (pos d) (pos (i + 2))
        none zero m small e = down_case below n zero m i (pos 0) refl (omega (arith, e)) small
        none (suc d) m small e = let parts : suc d * (i + 2) ≡ d * (i + 2) + (i + 2) = omega arith in absurd (omega (arith, parts, e, small))
    go (negsuc n) (negsuc d) r e l (m, s) =
        let small : m < i + 2 = subst (λ k. k < i + 2) (neg_size m) (subst (λ z. unsigned_abs z < i + 2) s l) in
        let turned = s ∙ neg_is m in
        let size = negsuc_times below d (i + 2) in
        down_case below n (suc d) m i (negsuc d) (omega (arith, ints)) (omega (arith, ints, e, turned, size)) small

-- numbers from 2 on
from_two : (k : ℤ) → pos 2 ≤ℤ k → (i : ℕ) × (k ≡ pos (i + 2))
from_two (pos zero) l = absurd (omega (arith, ints, l))
from_two (pos (suc zero)) l = absurd (omega (arith, ints, l))
from_two (pos (suc (suc i))) l = (i, ap pos (omega arith))
from_two (negsuc n) l = absurd (omega (arith, ints, l))

module _ (a q k : ℤ) (r : Rounded a q k) where
  first_case : (int_lt a (pos 0) || ((int_le (pos 0) q && (int_le q a && (int_le (times k q) a && (int_le a (plus (times k q) (k -ℤ pos 1)) && true)))) || false)) ≡ true
  first_case = elim (lt_or_le a (pos 0)) [
    | inl l ↦ first (int_lt a (pos 0)) _ (lt_so a (pos 0) l)
    | inr l ↦ second (int_lt a (pos 0)) _ (alone _ (
        both (int_le (pos 0) q) _ (le_so (pos 0) q (r.from_zero l)) (
        both (int_le q a) _ (le_so q a (r.up_below l)) (
        both (int_le (times k q) a) _ (le_so (times k q) a (r.up_times l)) (
        both (int_le a (plus (times k q) (k -ℤ pos 1))) true (le_so a (plus (times k q) (k -ℤ pos 1)) (r.up_above l)) refl)))))
  ]

  second_case : (int_le a (pos 0) || (int_le (plus q (pos 1)) a || false)) ≡ true
  second_case = elim (lt_or_le (pos 0) a) [
    | inl l ↦ second (int_le a (pos 0)) _ (alone _ (le_so (plus q (pos 1)) a (r.less l)))
    | inr l ↦ first (int_le a (pos 0)) _ (le_so a (pos 0) l)
  ]

  third_case : (int_le (pos 0) a || ((int_le q (pos 0) && (int_le a q && (int_le a (times k q) && (int_le (plus (times k q) (pos 1 -ℤ k)) a && true)))) || false)) ≡ true
  third_case = elim (lt_or_le (pos 0) a) [
    | inl l ↦ first (int_le (pos 0) a) _ (le_so (pos 0) a (omega (arith, ints, l)))
    | inr l ↦ second (int_le (pos 0) a) _ (alone _ (
        both (int_le q (pos 0)) _ (le_so q (pos 0) (r.to_zero l)) (
        both (int_le a q) _ (le_so a q (r.down_above l)) (
        both (int_le a (times k q)) _ (le_so a (times k q) (r.down_times l)) (
        both (int_le (plus (times k q) (pos 1 -ℤ k)) a) true (le_so (plus (times k q) (pos 1 -ℤ k)) a (r.down_below l)) refl)))))
  ]

pub quotients_valid : Below → (w : World) → RowIsValid w cases_of_quotient
quotients_valid below w (h.Term op.Div) (more t (more u stop)) env = by (number_at u) refl
  where
    a : ℤ
    a = value w env t

    at : (k : ℤ) → value w env u ≡ k → pos 2 ≤ℤ k → AreTrue w env (quotient_cases k (quotient_of t u) t)
    at k e l =
        let i = from_two k l in
        let r : Rounded a (quotient a (value w env u)) k = subst (λ z. Rounded a (quotient a z) k) (sym e) (subst (λ z. Rounded a (quotient a z) z) (sym i.1) (rounded below a i.0)) in
        let q = quotient a (value w env u) in
        (first_case a q k r, (second_case a q k r, (third_case a q k r, tt)))

    by : (n : Option ℤ) → number_at u ≡ n → AreTrue w env (quotient_by n t u)
    by None e = tt
    by (Some k) e = go (int_le (pos 2) k) refl
      where
        go : (x : Bool) → int_le (pos 2) k ≡ x → AreTrue w env (cond x (quotient_cases k (quotient_of t u) t) [])
        go true f = at k (number_means w env u k e) (le_fact (pos 2) k f)
        go false f = tt
quotients_valid below w head ts env = tt

-- ---- a remainder

remainder_is : DivisionTruncates → (a b : ℤ) → (is_equal b (pos 0) || (is_equal (remainder a b) (a -ℤ (times b (quotient a b))) || false)) ≡ true
remainder_is divides a b = go (is_zero b) refl
  where
    no_zero : (z : ℤ) → is_zero z ≡ true → z ≡ pos 0
    no_zero (pos zero) k = refl
    no_zero (pos (suc n)) k = absurd cc
    no_zero (negsuc n) k = absurd cc

    go : (x : Bool) → is_zero b ≡ x → (is_equal b (pos 0) || (is_equal (remainder a b) (a -ℤ (times b (quotient a b))) || false)) ≡ true
    go true e = first (is_equal b (pos 0)) _ (equal_so b (pos 0) (no_zero b e))
    go false e =
        let d = divides a b e in
        let whole = d.whole in
        let turned = times_is b (quotient a b) in
        second (is_equal b (pos 0)) _ (alone _ (equal_so (remainder a b) (a -ℤ (times b (quotient a b))) (omega (arith, ints, whole, turned))))

-- ---- a shift to the right

shift_is : Below → (a : ℤ) (k : ℕ) → 0 < k → (int_le (times (pos k) (floor_div a k)) a && (int_le a (plus (times (pos k) (floor_div a k)) (pos k -ℤ pos 1)) && true)) ≡ true
shift_is below a k l =
    let parts = below.floor_split a k l in
    let rest = below.floor_rest a k l in
    let turned = times_is (pos k) (floor_div a k) in
    both (int_le (times (pos k) (floor_div a k)) a) _ (le_so (times (pos k) (floor_div a k)) a (omega (arith, ints, parts, turned)))
    (both (int_le a (plus (times (pos k) (floor_div a k)) (pos k -ℤ pos 1))) true (le_so a (plus (times (pos k) (floor_div a k)) (pos k -ℤ pos 1)) (omega (arith, ints, parts, turned, rest))) refl)

-- ---- common bits

low_bit : (r s : ℕ) → r < 2 → s < 2 → bit_xor r (bit_and r s) ≤ r
low_bit zero s l k = omega arith
low_bit (suc zero) zero l k = omega arith
low_bit (suc zero) (suc zero) l k = omega arith
low_bit (suc zero) (suc (suc s)) l k = absurd (omega (arith, k))
low_bit (suc (suc r)) s l k = absurd (omega (arith, l))

-- the bits of a that aren't in b are no more than a
without_below : (n a b : ℕ) → a ≤ n → without a b ≤ a
without_below zero a b l =
    let none : bit_and a b ≡ 0 = omega (arith, and_le_l a b, l) in
    let zero_a : a ≡ 0 = omega (arith, l) in
    let is : without a b ≡ 0 = (λ i. bit_xor (zero_a i) (none i)) in
    omega (arith, is)
without_below (suc n) a b l =
    let x = a / 2 in
    let r = a % 2 in
    let y = b / 2 in
    let s = b % 2 in
    let a_parts : x * 2 ^ 1 + r ≡ a = div-add-mod' a 2 in
    let b_parts : y * 2 ^ 1 + s ≡ b = div-add-mod' b 2 in
    let small_r : r < 2 = mod_below a 2 (omega arith) in
    let small_s : s < 2 = mod_below b 2 (omega arith) in
    let c = bit_and r s in
    let small_c : c < 2 = omega (arith, and_le_l r s, small_r) in
    let both_is : bit_and a b ≡ bit_and x y * 2 ^ 1 + c = (λ i. bit_and (sym a_parts i) (sym b_parts i)) ∙ and_block 1 x y r s small_r small_s in
    let is : without a b ≡ bit_xor x (bit_and x y) * 2 ^ 1 + bit_xor r c = (λ i. bit_xor (sym a_parts i) (both_is i)) ∙ xor_block 1 x (bit_and x y) r c small_r small_c in
    let smaller : x ≤ n = omega (arith, a_parts, l) in
    let rest = without_below n x y smaller in
    let low = low_bit r s small_r small_s in
    omega (arith, is, rest, low, a_parts)

between_so : (a x : ℤ) → pos 0 ≤ℤ x → x ≤ℤ a → (int_lt a (pos 0) || ((int_le (pos 0) x && (int_le x a && true)) || false)) ≡ true
between_so a x l u = second (int_lt a (pos 0)) _ (alone _ (both (int_le (pos 0) x) _ (le_so (pos 0) x l) (both (int_le x a) true (le_so x a u) refl)))

common_is : (a b : ℤ) → (int_lt a (pos 0) || ((int_le (pos 0) (both_bits a b) && (int_le (both_bits a b) a && true)) || false)) ≡ true
common_is (pos n) (pos m) = let l = and_le_l n m in between_so (pos n) (pos (bit_and n m)) (omega (arith, ints)) (omega (arith, ints, l))
common_is (pos n) (negsuc m) = let l = without_below n n m (omega arith) in between_so (pos n) (pos (without n m)) (omega (arith, ints)) (omega (arith, ints, l))
common_is (negsuc n) b = first (int_lt (negsuc n) (pos 0)) ((int_le (pos 0) (both_bits (negsuc n) b) && (int_le (both_bits (negsuc n) b) (negsuc n) && true)) || false) (lt_so (negsuc n) (pos 0) (omega (arith, ints)))

pub operators_valid : Below → (w : World) → RowIsValid w bounds_of_operator
operators_valid below w (h.Term op.Mod) (more t (more u stop)) env = (remainder_is below.division (value w env t) (value w env u), tt)
operators_valid below w (h.Term op.ShiftRight) (more t (more u stop)) env = by (number_at u) refl
  where
    a : ℤ
    a = value w env t

    at : (n : ℤ) → value w env u ≡ n → truth w env (shift_bounds (pos (2 ^ to_nat n)) (node (h.Term op.ShiftRight) (more t (more u stop))) t) ≡ true
    at n e =
        subst (λ z. (int_le (times (pos (2 ^ to_nat n)) (shifted_right a z)) a && (int_le a (plus (times (pos (2 ^ to_nat n)) (shifted_right a z)) (pos (2 ^ to_nat n) -ℤ pos 1)) && true)) ≡ true) (sym e)
        (shift_is below a (2 ^ to_nat n) (pow_pos (to_nat n)))

    by : (n : Option ℤ) → number_at u ≡ n → AreTrue w env (shift_by n t u)
    by None e = tt
    by (Some n) e = go (int_le (pos 1) n && int_le n (pos 126))
      where
        go : (x : Bool) → AreTrue w env (cond x (shift_bounds (pos (2 ^ to_nat n)) (node (h.Term op.ShiftRight) (more t (more u stop))) t ∷ []) [])
        go true = (at n (number_means w env u n e), tt)
        go false = tt
operators_valid below w (h.Term op.BitAnd) (more t (more u stop)) env = (common_is (value w env t) (value w env u), tt)
operators_valid below w head ts env = tt

-- ---- a choice

arm_so : (b : Bool) (t u : ℤ) → ((b && (is_equal (cond b t u) t && true)) || ((not b && (is_equal (cond b t u) u && true)) || false)) ≡ true
arm_so true t u = first (is_equal t t && true) _ (both (is_equal t t) true (equal_so t t refl) refl)
arm_so false t u = alone (is_equal u u && true) (both (is_equal u u) true (equal_so u u refl) refl)

pub choices_valid : (w : World) → RowIsValid w arm_of_ite
choices_valid w h.Ite (more f (more t (more u stop))) env = (arm_so (truth w env f) (value w env t) (value w env u), tt)
choices_valid w head ts env = tt

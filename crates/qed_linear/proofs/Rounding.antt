-- Integers divided exactly and rounded up, and comparisons with 0 under a factor.
use Rattle.std.proofs.Common.{◌≡◌, ℕ, zero, suc, ◌+◌, ◌*◌, ◌-◌, ◌/◌, ◌%◌, ◌≤◌, ◌<◌, ◌==◌, Bool, true, false, int_le, int_lt, ◌≤ℤ◌, ◌<ℤ◌, ℤ, pos, negsuc, ◌+ℤ◌, ◌-ℤ◌, ◌*ℤ◌, neg_ℤ, unsigned_abs, int_div, refl, sym, ◌∙◌, ap, arith, T, mod-lt, mul-suc, eqb-true, ltb-false}
use Rattle.std.proofs.lemmas.Int.{ints, unsigned_abs-mul}
use Rattle.std.proofs.lemmas.Float.{T_from_true}
use Rattle.std.proofs.Math.IntN.{*ℤ-zero}
use Rattle.std.proofs.Math.Nat.{div-mul_cancel, div-add-mod', div-lt_iff_lt-mul, le-div_iff_mul-le, suc-mul, add-mul, div-zero, mul_comm}
use Rattle.std.specs.Int.{◌∣◌}
use Rattle.std.specs.Int.Signed.{le_z_yes, lt_z_yes}
use Rattle.qed_terms.specs.Operators.{is_zero}
use Rattle.qed_linear.specs.Linear.{rounded_up, divides}
use Rattle.qed_linear.proofs.Facts.{zero_is, no_zero}

times_neg : (d q : ℕ) → pos d *ℤ neg_ℤ (pos q) ≡ neg_ℤ (pos (d * q))
times_neg d zero = let e : d * 0 ≡ 0 = omega arith in *ℤ-zero (pos d) ∙ sym (ap (λ n. neg_ℤ (pos n)) e)
times_neg d (suc q) = refl

pub exact_back : (z : ℤ) (d : ℕ) → d ∣ unsigned_abs z → pos d *ℤ int_div z (pos d) ≡ z
exact_back (pos n) d k = ap pos (mul_comm d (n / d) ∙ div-mul_cancel d k)
exact_back (negsuc n) d k = times_neg d (suc n / d) ∙ ap (λ m. neg_ℤ (pos m)) (mul_comm d (suc n / d) ∙ div-mul_cancel d k)

-- rounding up reaches the number, and is less than the divisor above it
pub up_is : (d : ℕ) (c : ℤ) → 0 < d → (c ≤ℤ (pos d *ℤ rounded_up d c)) × ((pos d *ℤ rounded_up d c) <ℤ (c +ℤ pos d))
unfolding rounded_up
up_is d (pos n) k =
    let q = (n + (d - 1)) / d in
    let e = div-add-mod' (n + (d - 1)) d in
    let m = mod-lt (n + (d - 1)) k in
    let f = mul_comm d q in
    (omega (arith, ints, e, m, f), omega (arith, ints, e, m, f))
up_is d (negsuc n) k =
    let q = suc n / d in
    let e = div-add-mod' (suc n) d in
    let m = mod-lt (suc n) k in
    let f = mul_comm d q in
    let t = times_neg d q in
    (omega (arith, ints, e, m, f, t), omega (arith, ints, e, m, f, t))

pub scale_down : (d : ℕ) (x : ℤ) → x ≤ℤ pos 0 → (pos d *ℤ x) ≤ℤ pos 0
scale_down d (pos zero) k = let e = *ℤ-zero (pos d) in omega (arith, ints, e)
scale_down d (pos (suc n)) k = absurd (omega (arith, ints, k))
scale_down d (negsuc n) k = let e = times_neg d (suc n) in omega (arith, ints, e)

pub scale_below : (d : ℕ) (x : ℤ) → (pos d *ℤ x) <ℤ pos d → x ≤ℤ pos 0
scale_below d (pos zero) k = omega (arith, ints)
scale_below d (pos (suc n)) k = absurd (omega (arith, ints, k, mul-suc d n))
scale_below d (negsuc n) k = omega (arith, ints)

pub scale_zero : (d : ℕ) (x : ℤ) → 0 < d → is_zero (pos d *ℤ x) ≡ is_zero x
scale_zero d x k = go (is_zero x) refl
  where
    some : (n : ℕ) → 0 < n → is_zero (pos n) ≡ false
    some zero k = absurd (omega arith)
    some (suc n) k = refl

    go : (b : Bool) → is_zero x ≡ b → is_zero (pos d *ℤ x) ≡ b
    go true e = ap (λ z. is_zero (pos d *ℤ z)) (zero_is x e) ∙ ap is_zero (*ℤ-zero (pos d))
    go false e = no_zero (pos d) x (some d k) e

pub abs_below : (z : ℤ) → unsigned_abs (pos 0 -ℤ z) ≡ unsigned_abs z
abs_below z =
    let e : negsuc 0 *ℤ z ≡ pos 0 -ℤ z = omega (arith, ints) in
    sym (ap unsigned_abs e) ∙ abs_times
  where
    abs_times : unsigned_abs (negsuc 0 *ℤ z) ≡ unsigned_abs z
    abs_times = omega (arith, unsigned_abs-mul (negsuc 0) z)

-- ---- tests that imply each other are equal

pub same_tests : (a b : Bool) → (a ≡ true → b ≡ true) → (b ≡ true → a ≡ true) → a ≡ b
same_tests true b f g = sym (f refl)
same_tests false true f g = g refl
same_tests false false f g = refl

pub le_fact : (a b : ℤ) → int_le a b ≡ true → a ≤ℤ b
le_fact a b k = le_z_yes (T_from_true (int_le a b) k)

from_T : (b : Bool) → T b → b ≡ true
from_T true t = refl
from_T false t = absurd t

pub le_test : (a b : ℤ) → a ≤ℤ b → int_le a b ≡ true
le_test a b k = from_T (int_le a b) k.le

pub lt_fact : (a b : ℤ) → int_lt a b ≡ true → a <ℤ b
lt_fact a b k = lt_z_yes (T_from_true (int_lt a b) k)

pub lt_test : (a b : ℤ) → a <ℤ b → int_lt a b ≡ true
lt_test a b k = from_T (int_lt a b) k.lt

pub same_le : (a b c d : ℤ) → (a ≤ℤ b → c ≤ℤ d) → (c ≤ℤ d → a ≤ℤ b) → int_le a b ≡ int_le c d
same_le a b c d f g = same_tests (int_le a b) (int_le c d) (λ k. le_test c d (f (le_fact a b k))) (λ k. le_test a b (g (le_fact c d k)))

pub zero_negated : (a : ℤ) → is_zero (negsuc 0 *ℤ a) ≡ is_zero a
zero_negated a = go (is_zero a) refl
  where
    go : (b : Bool) → is_zero a ≡ b → is_zero (negsuc 0 *ℤ a) ≡ b
    go true k = ap (λ z. is_zero (negsuc 0 *ℤ z)) (zero_is a k)
    go false k = no_zero (negsuc 0) a refl k

-- ---- rounding up by a quotient and a remainder

quotient_is : (x d k : ℕ) → 0 < d → k * d ≤ x → x < suc k * d → x / d ≡ k
quotient_is x d k p low high =
    let a = (le-div_iff_mul-le p).1 low in
    let b = (div-lt_iff_lt-mul p).1 high in
    omega (arith, a, b)

pub not_above : (z : ℤ) → int_lt (pos 0) z ≡ false → z ≤ℤ pos 0
not_above (pos zero) k = omega (arith, ints)
not_above (pos (suc n)) k = absurd (omega (arith, ltb-false 0 (suc n) k))
not_above (negsuc n) k = omega (arith, ints)

-- a number that is at most 0
pub up_low : (d : ℕ) (z : ℤ) → z ≤ℤ pos 0 → rounded_up d z ≡ int_div z (pos d)
unfolding rounded_up
up_low d (pos zero) k = ap pos (go d)
  where
    go : (m : ℕ) → (0 + (m - 1)) / m ≡ 0 / m
    go zero = refl
    go (suc m) =
        let p : 0 < suc m = omega arith in
        quotient_is (0 + (suc m - 1)) (suc m) 0 p (omega arith) (omega arith) ∙ sym (quotient_is 0 (suc m) 0 p (omega arith) (omega arith))
up_low d (pos (suc n)) k = absurd (omega (arith, ints, k))
up_low d (negsuc n) k = refl

pub up_none : (z : ℤ) → rounded_up 0 z ≡ int_div z (pos 0)
unfolding rounded_up
up_none (pos n) = ap pos (div-zero (n + (0 - 1)) ∙ sym (div-zero n))
up_none (negsuc n) = refl

pub up_exact : (d : ℕ) (z : ℤ) → 0 < d → divides d z ≡ true → rounded_up d z ≡ int_div z (pos d)
unfolding rounded_up
up_exact d (pos n) p k =
    let e = div-add-mod' n d in
    let r = eqb-true (n % d) 0 k in
    ap pos (quotient_is (n + (d - 1)) d (n / d) p (omega (arith, e, r)) (omega (arith, e, r, suc-mul (n / d) d)))
up_exact d (negsuc n) p k = refl

pub up_more : (d : ℕ) (z : ℤ) → 0 < d → pos 0 <ℤ z → divides d z ≡ false → rounded_up d z ≡ int_div z (pos d) +ℤ pos 1
unfolding rounded_up
up_more d (pos n) p q k =
    let e = div-add-mod' n d in
    let m = mod-lt n p in
    let r = above (n % d) k in
    ap pos (quotient_is (n + (d - 1)) d (n / d + 1) p (omega (arith, e, m, r, add-mul (n / d) 1 d)) (omega (arith, e, m, r, suc-mul (n / d + 1) d, add-mul (n / d) 1 d)))
  where
    above : (b : ℕ) → (b == 0) ≡ false → 0 < b
    above zero e = absurd cc
    above (suc b) e = omega arith
up_more d (negsuc n) p q k = absurd (omega (arith, ints, q))

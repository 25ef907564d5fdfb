-- The common divisor of the coefficients, and division by it.
use Rattle.std.proofs.Common.{◌≡◌, ℕ, zero, suc, ◌+◌, ◌-◌, ◌*◌, ◌/◌, ◌%◌, ◌≤◌, ◌<◌, ◌^◌, ◌==◌, Bool, true, false, ◌&&◌, cond, ℤ, pos, negsuc, ◌*ℤ◌, neg_ℤ, unsigned_abs, int_div, List, [], ◌∷◌, refl, sym, ◌∙◌, ap, subst, arith, eqb-true, eq-eqb, ltb-true, lt-ltb, mod-lt}
use Rattle.std.specs.Int.{IsGcd, ◌∣◌}
use Rattle.std.proofs.lemmas.Int.{unsigned_abs-mul}
use Rattle.std.proofs.lemmas.Nat.Gcd.{same_from_IsGcd, IsGcd-from_zero, IsGcd-from_mod, dvd-zero, dvd_trans, le_of_dvd}
use Rattle.std.proofs.Math.Nat.{div-mul_cancel, mul-dvd-mul_right, div-le_self, div-lt_iff_lt-mul, le-mul_of_pos_right, suc-mul, eq-zero_of_zero-dvd}
use Rattle.qed_terms.specs.Tree.{Tree, head_of}
use Rattle.qed_terms.specs.Operators.{is_zero}
use Rattle.qed_linear.specs.Linear.{fits, Part, Lin, part, lin, is_number, is_integer, parts_fit, scale_parts, gcd_within, gcd, common_divisor, divide_parts, rounded_up, divides, tighten, divide_exact}
use Rattle.qed_linear.proofs.Facts.{and_left, and_right, some_size, sized}
use Rattle.qed_linear.proofs.Canonical.{AllAfter, PartsOver, FormOver}

-- ---- the greatest common divisor

pub above_zero : (b : ℕ) → (b == 0) ≡ false → 0 < b
above_zero zero e = absurd cc
above_zero (suc b) e = omega arith

within_is : (n a b : ℕ) → b < n → IsGcd a b (gcd_within n a b)
within_is zero a b k = absurd (omega arith)
within_is (suc n) a b k = go (b == 0) refl (within_is n b (a % b))
  where
    go : (z : Bool) → (b == 0) ≡ z → (a % b < n → IsGcd b (a % b) (gcd_within n b (a % b))) → IsGcd a b (cond z a (gcd_within n b (a % b)))
    go true e r = IsGcd-from_zero a b (eqb-true b 0 e)
    go false e r =
        let p = above_zero b e in
        let q : a % b < b = mod-lt a p in
        IsGcd-from_mod a b (gcd_within n b (a % b)) (r (omega arith))

pub gcd_is : (a b : ℕ) → IsGcd a b (gcd a b)
unfolding gcd
gcd_is a b = within_is (b + 1) a b (omega arith)

-- one step of Euclid, and the last
pub gcd_step : (a b : ℕ) → gcd a b ≡ gcd b (a % b)
gcd_step a b = same_from_IsGcd a b (gcd a b) (gcd b (a % b)) (gcd_is a b) (IsGcd-from_mod a b (gcd b (a % b)) (gcd_is b (a % b)))

pub gcd_zero : (a : ℕ) → gcd a 0 ≡ a
gcd_zero a = same_from_IsGcd a 0 (gcd a 0) a (gcd_is a 0) (IsGcd-from_zero a 0 refl)

-- ---- of all coefficients

abbrev pub AllDivided : ℕ → List Part → Type 0
AllDivided d [] = Unit {0}
AllDivided d (p ∷ ps) = (d ∣ unsigned_abs (p.times)) × AllDivided d ps

all_divided_by : (d e : ℕ) (ps : List Part) → d ∣ e → AllDivided e ps → AllDivided d ps
all_divided_by d e [] k a = tt
all_divided_by d e (p ∷ ps) k a = (dvd_trans d k a.0, all_divided_by d e ps k a.1)

pub divisor_divides : (ps : List Part) → AllDivided (common_divisor ps) ps
divisor_divides [] = tt
divisor_divides (p ∷ ps) =
    let g = gcd_is (unsigned_abs (p.times)) (common_divisor ps) in
    (g.0, all_divided_by (common_divisor (p ∷ ps)) (common_divisor ps) ps g.1 (divisor_divides ps))

divisor_greatest : (d : ℕ) (ps : List Part) → AllDivided d ps → d ∣ common_divisor ps
divisor_greatest d [] a = dvd-zero d
divisor_greatest d (p ∷ ps) a = (gcd_is (unsigned_abs (p.times)) (common_divisor ps)).2 d a.0 (divisor_greatest d ps a.1)

positive : (n : ℕ) → (n ≡ 0 → ⊥) → 0 < n
positive zero k = absurd (k refl)
positive (suc n) k = omega arith

-- where a coefficient isn't 0
pub divisor_positive : (p : Part) (ps : List Part) → is_zero (p.times) ≡ false → 0 < common_divisor (p ∷ ps)
divisor_positive p ps z =
    positive (common_divisor (p ∷ ps)) (λ e.
    let d = (divisor_divides (p ∷ ps)).0 in
    let k = eq-zero_of_zero-dvd (subst (λ n. n ∣ unsigned_abs (p.times)) e d) in
    omega (arith, k, some_size (p.times) z))

-- ---- exact division

abs_neg : (n : ℕ) → unsigned_abs (neg_ℤ (pos n)) ≡ n
abs_neg zero = refl
abs_neg (suc n) = refl

abs_div : (z : ℤ) (d : ℕ) → unsigned_abs (int_div z (pos d)) ≡ unsigned_abs z / d
abs_div (pos n) d = refl
abs_div (negsuc n) d = abs_neg (suc n / d)

abs_exact : (z : ℤ) (d : ℕ) → d ∣ unsigned_abs z → unsigned_abs (int_div z (pos d)) * d ≡ unsigned_abs z
abs_exact z d k = ap (λ n. n * d) (abs_div z d) ∙ div-mul_cancel d k

div_some : (z : ℤ) (d : ℕ) → is_zero z ≡ false → d ∣ unsigned_abs z → is_zero (int_div z (pos d)) ≡ false
div_some z d k l =
    let e = abs_exact z d l in
    let s = some_size z k in
    sized (int_div z (pos d)) (at_least (unsigned_abs (int_div z (pos d))) (omega (arith, e, s)))
  where
    at_least : (n : ℕ) → 1 ≤ n * d → 1 ≤ n
    at_least zero p = absurd (omega arith)
    at_least (suc n) p = omega arith

divide_parts_after : (a : Tree) (d : ℕ) (ps : List Part) → AllAfter a ps → AllAfter a (divide_parts d ps)
divide_parts_after a d [] l = tt
divide_parts_after a d (p ∷ ps) l = (l.0, divide_parts_after a d ps l.1)

divide_parts_canonical : (A : Tree → Type 0) (d : ℕ) (ps : List Part) → AllDivided d ps → PartsOver A ps → PartsOver A (divide_parts d ps)
divide_parts_canonical A d [] a g = tt
divide_parts_canonical A d (p ∷ ps) a g = (g.0, div_some (p.times) d g.1 a.0, divide_parts_after (p.atom) d ps g.2, divide_parts_canonical A d ps a.1 g.3)

-- ---- the quotients fit

fits_below : (n : ℕ) → n < 2 ^ 127 → fits (pos n) ≡ true
unfolding fits
fits_below n k = lt-ltb n (2 ^ 127) k

below_fits : (n : ℕ) → fits (pos n) ≡ true → n < 2 ^ 127
unfolding fits
below_fits n k = ltb-true n (2 ^ 127) k

fits_above : (n : ℕ) → n < 2 ^ 127 → fits (negsuc n) ≡ true
unfolding fits
fits_above n k = lt-ltb n (2 ^ 127) k

above_fits : (n : ℕ) → fits (negsuc n) ≡ true → n < 2 ^ 127
unfolding fits
above_fits n k = ltb-true n (2 ^ 127) k

fits_neg : (n : ℕ) → n ≤ 2 ^ 127 → fits (neg_ℤ (pos n)) ≡ true
fits_neg zero k = fits_below zero (omega arith)
fits_neg (suc n) k = fits_above n (omega arith)

div_fits : (z : ℤ) (d : ℕ) → fits z ≡ true → fits (int_div z (pos d)) ≡ true
div_fits (pos n) d k = fits_below (n / d) (omega (arith, div-le_self n d, below_fits n k))
div_fits (negsuc n) d k = fits_neg (suc n / d) (omega (arith, div-le_self (suc n) d, above_fits n k))

up_below : (n d : ℕ) → 0 < d → (n + (d - 1)) / d ≤ n
up_below n d k =
    let m : n ≤ n * d = le-mul_of_pos_right n k in
    let e : n + (d - 1) < suc n * d = omega (arith, suc-mul n d) in
    let r = (div-lt_iff_lt-mul k).1 e in
    omega (arith, r)

pub up_fits : (z : ℤ) (d : ℕ) → 0 < d → fits z ≡ true → fits (rounded_up d z) ≡ true
unfolding rounded_up
up_fits (pos n) d p k = fits_below ((n + (d - 1)) / d) (omega (arith, up_below n d p, below_fits n k))
up_fits (negsuc n) d p k = div_fits (negsuc n) d k

divide_parts_fit : (d : ℕ) (ps : List Part) → parts_fit ps ≡ true → parts_fit (divide_parts d ps) ≡ true
divide_parts_fit d [] k = refl
divide_parts_fit d (p ∷ ps) k =
    let q = and_left (fits (p.times) && is_integer (head_of (p.atom))) (parts_fit ps) k in
    let a = div_fits (p.times) d (and_left (fits (p.times)) (is_integer (head_of (p.atom))) q) in
    let b = and_right (fits (p.times)) (is_integer (head_of (p.atom))) q in
    let c = divide_parts_fit d ps (and_right (fits (p.times) && is_integer (head_of (p.atom))) (parts_fit ps) k) in
    λ i. (a i && b i) && c i

-- ---- after division the divisor is 1

times_divided : (d e : ℕ) (ps : List Part) → AllDivided d ps → AllDivided e (divide_parts d ps) → AllDivided (e * d) ps
times_divided d e [] a b = tt
times_divided d e (p ∷ ps) a b =
    (subst (λ n. e * d ∣ n) (abs_exact (p.times) d a.0) (mul-dvd-mul_right e b.0 d), times_divided d e ps a.1 b.1)

one_left : (d e : ℕ) → 0 < d → 0 < e → e * d ≤ d → e ≡ 1
one_left d zero k l m = absurd (omega arith)
one_left d (suc zero) k l m = refl
one_left d (suc (suc e)) k l m = absurd (omega (arith, more))
  where
    more : d + d ≤ suc (suc e) * d
    more = omega arith

pub divided_one : (p : Part) (ps : List Part) → is_zero (p.times) ≡ false → common_divisor (divide_parts (common_divisor (p ∷ ps)) (p ∷ ps)) ≡ 1
divided_one p ps z =
    let d = common_divisor (p ∷ ps) in
    let a = divisor_divides (p ∷ ps) in
    let qs = divide_parts d (p ∷ ps) in
    let k = divisor_positive p ps z in
    let m = divisor_greatest (common_divisor qs * d) (p ∷ ps) (times_divided d (common_divisor qs) (p ∷ ps) a (divisor_divides qs)) in
    one_left d (common_divisor qs) k (divisor_positive (part (p.atom) (int_div (p.times) (pos d))) (divide_parts d ps) (div_some (p.times) d z a.0)) (le_of_dvd k m)

-- ---- division by 1 changes nothing

div_one : (z : ℤ) → int_div z (pos 1) ≡ z
div_one (pos n) = let e : n / 1 ≡ n = omega arith in ap pos e
div_one (negsuc n) = let e : suc n / 1 ≡ suc n = omega arith in ap (λ m. neg_ℤ (pos m)) e

divided_by_one : (ps : List Part) → divide_parts 1 ps ≡ ps
divided_by_one [] = refl
divided_by_one (p ∷ ps) = let a = div_one (p.times) in let b = divided_by_one ps in λ i. part (p.atom) (a i) ∷ b i

up_one : (z : ℤ) → rounded_up 1 z ≡ z
unfolding rounded_up
up_one (pos n) = let e : (n + (1 - 1)) / 1 ≡ n = omega arith in ap pos e
up_one (negsuc n) = div_one (negsuc n)

pub tighten_one : (f : Lin) → common_divisor (f.parts) ≡ 1 → tighten f ≡ f
tighten_one f e =
    let a = ap (λ d. divide_parts d (f.parts)) e ∙ divided_by_one (f.parts) in
    let b = ap (λ d. rounded_up d (f.constant)) e ∙ up_one (f.constant) in
    λ i. lin (a i) (b i)

pub divide_exact_one : (f : Lin) → common_divisor (f.parts) ≡ 1 → divide_exact f ≡ f
divide_exact_one f e =
    let a = ap (λ d. divide_parts d (f.parts)) e ∙ divided_by_one (f.parts) in
    let b = ap (λ d. int_div (f.constant) (pos d)) e ∙ div_one (f.constant) in
    λ i. lin (a i) (b i)

pub divides_one : (d : ℕ) (z : ℤ) → d ≡ 1 → divides d z ≡ true
divides_one d z e = ap (λ n. unsigned_abs z % n == 0) e ∙ eq-eqb (unsigned_abs z % 1) 0 (omega arith)

-- ---- a form divided

pub tighten_canonical : (A : Tree → Type 0) (f : Lin) → FormOver A f → is_number f ≡ false → FormOver A (tighten f) × (is_number (tighten f) ≡ false) × (common_divisor ((tighten f).parts) ≡ 1)
tighten_canonical A f g k = go (f.parts) g.0 g.1 k
  where
    go : (ps : List Part) → PartsOver A ps → parts_fit ps ≡ true → is_number (lin ps (f.constant)) ≡ false
        → FormOver A (tighten (lin ps (f.constant))) × (is_number (tighten (lin ps (f.constant))) ≡ false) × (common_divisor (divide_parts (common_divisor ps) ps) ≡ 1)
    go [] a h e = absurd cc
    go (p ∷ ps) a h e = (
      (divide_parts_canonical A (common_divisor (p ∷ ps)) (p ∷ ps) (divisor_divides (p ∷ ps)) a, divide_parts_fit (common_divisor (p ∷ ps)) (p ∷ ps) h, up_fits (f.constant) (common_divisor (p ∷ ps)) (divisor_positive p ps a.1) g.2),
      refl,
      divided_one p ps a.1,
    )

pub divide_exact_canonical : (A : Tree → Type 0) (f : Lin) → FormOver A f → is_number f ≡ false → FormOver A (divide_exact f) × (is_number (divide_exact f) ≡ false) × (common_divisor ((divide_exact f).parts) ≡ 1)
divide_exact_canonical A f g k = go (f.parts) g.0 g.1 k
  where
    go : (ps : List Part) → PartsOver A ps → parts_fit ps ≡ true → is_number (lin ps (f.constant)) ≡ false
        → FormOver A (divide_exact (lin ps (f.constant))) × (is_number (divide_exact (lin ps (f.constant))) ≡ false) × (common_divisor (divide_parts (common_divisor ps) ps) ≡ 1)
    go [] a h e = absurd cc
    go (p ∷ ps) a h e = (
      (divide_parts_canonical A (common_divisor (p ∷ ps)) (p ∷ ps) (divisor_divides (p ∷ ps)) a, divide_parts_fit (common_divisor (p ∷ ps)) (p ∷ ps) h, div_fits (f.constant) (common_divisor (p ∷ ps)) g.2),
      refl,
      divided_one p ps a.1,
    )

-- where division changes nothing, the divisor is 1
pub one_from_same : (A : Tree → Type 0) (f : Lin) → PartsOver A (f.parts) → is_number f ≡ false → tighten f ≡ f → common_divisor (f.parts) ≡ 1
one_from_same A f g k e = go (f.parts) g k (ap (λ z. z.parts) e)
  where
    go : (ps : List Part) → PartsOver A ps → is_number (lin ps (f.constant)) ≡ false → divide_parts (common_divisor ps) ps ≡ ps → common_divisor ps ≡ 1
    go [] a e k = absurd cc
    go (p ∷ ps) a e k = ap common_divisor (sym k) ∙ divided_one p ps a.1

-- ---- the divisor of the coefficients turned

abs_negated : (z : ℤ) → unsigned_abs (negsuc 0 *ℤ z) ≡ unsigned_abs z
abs_negated z = omega (arith, unsigned_abs-mul (negsuc 0) z)

pub divisor_negated : (ps : List Part) → common_divisor (scale_parts (negsuc 0) ps) ≡ common_divisor ps
divisor_negated [] = refl
divisor_negated (p ∷ ps) = let a = abs_negated (p.times) in let b = divisor_negated ps in λ i. gcd (a i) (b i)

-- Numbers of a kind are small: those of all kinds lie from -2^63 to 2^64 - 1, and those of signed kinds below 2^63.
use Rattle.std.proofs.Common.{◌≡◌, ℕ, zero, suc, ◌-◌, ◌*◌, ◌/◌, ◌%◌, ◌^◌, ◌<◌, ◌≤◌, lit<, subst, T, ℤ, pos, negsuc, ◌+ℤ◌, ◌-ℤ◌, ◌*ℤ◌, ◌≤ℤ◌, Bool, true, false, not, ◌&&◌, ◌||◌, FitsSigned, refl, sym, ap, ◌∙◌, arith}
use Rattle.std.specs.Prelude.{◌<ℤ◌, int_le, int_lt, nat_le, int_div, int_rem, unsigned_abs, neg_ℤ, if◌then◌else◌}
use Rattle.std.proofs.Math.Nat.{mul-le-mul, div-le_self, pow-le-pow_right}
use Rattle.std.specs.List.{list_all}
use Rattle.std.specs.Ordering.{int_eq}
use Rattle.std.proofs.lemmas.Int.{ints, fits_signed_mul, fits_signed_from_abs, to_z-of_z}
use mir.Val.{to_z, of_z}
use Rattle.std.proofs.lemmas.Bool.{and_parts, not-true}
use mir.Syntax.{w128}
use lib.Signed.{lt_z_yes, shr_z, mag_rem, mag_shr}
use Rattle.wp_base.specs.declared.kinds.Kind.{Kind}
use Rattle.wp_base.specs.Kinds.{is_signed, kind_bits, floor_div, floor_mod}
use Rattle.c_kinds.specs.declared.models.Machdep.{Machdep}
use Rattle.c_kinds.specs.declared.models.Machdep.TheVariants as model
use Rattle.c_kinds.specs.Models.{long_bits, low, high, holds}
use Rattle.c_kinds.specs.Numbers.{both_held, has_quotient, count_of, bits, bits_of, can_shift}
use Rattle.c_kinds.proofs.Ranking.{every_kind, for_each, where_signed}
use Rattle.c_kinds.proofs.Converting.{test_le, rest_below, power_some}

abbrev pub least : ℤ
least = negsuc 9223372036854775807

abbrev pub most : ℤ
most = pos 18446744073709551615

abbrev pub most_signed : ℤ
most_signed = pos 9223372036854775807

-- a test that computes
abbrev is_narrow : Machdep → Kind → Bool
is_narrow m k = int_le least (low m k) && (int_le (high m k) most && ((int_le (pos 0) (high m k) && int_le (low m k) (pos 0)) && (not (is_signed k) || int_le (high m k) most_signed)))

all_narrow : (m : Machdep) → list_all (is_narrow m) every_kind ≡ true
unfolding every_kind
all_narrow model.X86_32 = refl
all_narrow model.X86_64 = refl

-- the ends of a kind
pub record IsNarrow (m : Machdep) (k : Kind) : Type 0 where
  pub above : least ≤ℤ low m k
  pub below : high m k ≤ℤ most
  pub natural : pos 0 ≤ℤ high m k
  pub no_more : low m k ≤ℤ pos 0
  pub signed : is_signed k ≡ true → high m k ≤ℤ most_signed

pub narrow : (m : Machdep) (k : Kind) → IsNarrow m k
narrow m k =
    let all = and_parts (int_le least (low m k)) _ (for_each (is_narrow m) (all_narrow m) k) in
    let rest = and_parts (int_le (high m k) most) _ all.1 in
    let last = and_parts (int_le (pos 0) (high m k) && int_le (low m k) (pos 0)) _ rest.1 in
    let zero = and_parts (int_le (pos 0) (high m k)) _ last.0 in
    record {
      above = test_le least (low m k) all.0;
      below = test_le (high m k) most rest.0;
      natural = test_le (pos 0) (high m k) zero.0;
      no_more = test_le (low m k) (pos 0) zero.1;
      signed = λ is. test_le (high m k) most_signed (where_signed (is_signed k) (int_le (high m k) most_signed) last.1 is);
    }

-- a number of a kind
pub record IsSmall (z : ℤ) : Type 0 where
  pub above : least ≤ℤ z
  pub below : z ≤ℤ most

pub small : (m : Machdep) (k : Kind) (z : ℤ) → holds m k z ≡ true → IsSmall z
small m k z h =
    let ends = narrow m k in
    let parts = and_parts (int_le (low m k) z) _ h in
    let above = test_le (low m k) z parts.0 in
    let below = test_le z (high m k) parts.1 in
    record { above = omega (arith, ints, ends.above, above); below = omega (arith, ints, ends.below, below) }

pub small_signed : (m : Machdep) (k : Kind) (z : ℤ) → is_signed k ≡ true → holds m k z ≡ true → z ≤ℤ most_signed
small_signed m k z is h =
    let ends = narrow m k in
    let below = test_le z (high m k) (and_parts (int_le (low m k) z) _ h).1 in
    let most = ends.signed is in
    omega (arith, ints, most, below)

pub not_negative : (m : Machdep) (k : Kind) (z : ℤ) → is_signed k ≡ false → holds m k z ≡ true → pos 0 ≤ℤ z
not_negative m k z is h =
    let least : low m k ≡ pos 0 = ap (λ b. if b then pos 0 -ℤ pos (2 ^ (kind_bits (long_bits m) k - 1)) else pos 0) is in
    subst (λ l. l ≤ℤ z) least (test_le (low m k) z (and_parts (int_le (low m k) z) _ h).0)

-- how large a number of a kind is, whatever its sign
pub size_small : (m : Machdep) (k : Kind) (z : ℤ) → holds m k z ≡ true → unsigned_abs z ≤ 18446744073709551615
size_small m k z h = let s = small m k z h in size_of z s.above s.below
  where
    size_of : (z : ℤ) → least ≤ℤ z → z ≤ℤ most → unsigned_abs z ≤ 18446744073709551615
    size_of (pos n) above below = omega (arith, ints, below)
    size_of (negsuc n) above below = omega (arith, ints, above)

pub size_signed : (m : Machdep) (k : Kind) (z : ℤ) → is_signed k ≡ true → holds m k z ≡ true → unsigned_abs z ≤ 9223372036854775808
size_signed m k z is h = let s = small m k z h in let below = small_signed m k z is h in size_of z s.above below
  where
    size_of : (z : ℤ) → least ≤ℤ z → z ≤ℤ most_signed → unsigned_abs z ≤ 9223372036854775808
    size_of (pos n) above below = omega (arith, ints, below)
    size_of (negsuc n) above below = omega (arith, ints, above)

pub count_small : (m : Machdep) (k : Kind) → count_of m k ≤ 2 ^ 64
count_small m k = let ends = narrow m k in by_end (high m k) ends.natural ends.below
  where
    by_end : (z : ℤ) → pos 0 ≤ℤ z → z ≤ℤ most → suc (unsigned_abs z) ≤ 2 ^ 64
    by_end (pos n) above below = omega (arith, ints, below)
    by_end (negsuc n) above below = absurd above.le

-- ---- results fit 128 bits

pub sum_fits : (m : Machdep) (k : Kind) (y z : ℤ) → both_held m k y z ≡ true → FitsSigned w128 (y +ℤ z)
sum_fits m k y z h =
    let parts = and_parts (holds m k y) (holds m k z) h in
    let first = small m k y parts.0 in
    let second = small m k z parts.1 in
    omega (arith, ints, first.above, first.below, second.above, second.below)

pub difference_fits : (m : Machdep) (k : Kind) (y z : ℤ) → both_held m k y z ≡ true → FitsSigned w128 (y -ℤ z)
difference_fits m k y z h =
    let parts = and_parts (holds m k y) (holds m k z) h in
    let first = small m k y parts.0 in
    let second = small m k z parts.1 in
    omega (arith, ints, first.above, first.below, second.above, second.below)

pub negated_fits : (m : Machdep) (k : Kind) (z : ℤ) → holds m k z ≡ true → FitsSigned w128 (pos 0 -ℤ z)
negated_fits m k z h = let s = small m k z h in omega (arith, ints, s.above, s.below)

pub signed_product_fits : (m : Machdep) (k : Kind) (y z : ℤ) → is_signed k ≡ true → both_held m k y z ≡ true → FitsSigned w128 (y *ℤ z)
signed_product_fits m k y z is h =
    let parts = and_parts (holds m k y) (holds m k z) h in
    fits_signed_mul w128 y z 9223372036854775808 9223372036854775808 (size_signed m k y is parts.0) (size_signed m k z is parts.1) (lit< tt)

pub unsigned_product_fits : (m : Machdep) (k : Kind) (y z : ℤ) → both_held m k y z ≡ true → unsigned_abs y * unsigned_abs z < 2 ^ 128
unsigned_product_fits m k y z h =
    let parts = and_parts (holds m k y) (holds m k z) h in
    let first = size_small m k y parts.0 in
    let second = size_small m k z parts.1 in
    let product = mul-le-mul first second in
    omega (arith, product)

-- the product of two numbers that aren't negative, reduced
pub product_rest : (m : Machdep) (k : Kind) (y z : ℤ) → is_signed k ≡ false → both_held m k y z ≡ true → unsigned_abs y * unsigned_abs z % count_of m k ≡ floor_mod (y *ℤ z) (count_of m k)
product_rest m k y z is h =
    let parts = and_parts (holds m k y) (holds m k z) h in
    natural y z (not_negative m k y is parts.0) (not_negative m k z is parts.1)
  where
    natural : (y z : ℤ) → pos 0 ≤ℤ y → pos 0 ≤ℤ z → unsigned_abs y * unsigned_abs z % count_of m k ≡ floor_mod (y *ℤ z) (count_of m k)
    natural (pos a) (pos b) first second = refl
    natural (negsuc a) z first second = absurd first.le
    natural (pos a) (negsuc b) first second = absurd second.le

pub quotient_fits : (m : Machdep) (k : Kind) (y z : ℤ) → holds m k y ≡ true → FitsSigned w128 (int_div y z)
quotient_fits m k y z h =
    let first = size_small m k y h in
    let smaller = quotient_below y z in
    fits_signed_from_abs w128 (int_div y z) (omega (arith, first, smaller))
  where
    size_neg : (n : ℕ) → unsigned_abs (neg_ℤ (pos n)) ≡ n
    size_neg zero = refl
    size_neg (suc n) = refl

    quotient_below : (y z : ℤ) → unsigned_abs (int_div y z) ≤ unsigned_abs y
    quotient_below (pos a) (pos b) = div-le_self a b
    quotient_below (pos a) (negsuc b) = let e = size_neg (a / suc b) in let le = div-le_self a (suc b) in omega (arith, e, le)
    quotient_below (negsuc a) (pos b) = let e = size_neg (suc a / b) in let le = div-le_self (suc a) b in omega (arith, e, le)
    quotient_below (negsuc a) (negsuc b) = div-le_self (suc a) (suc b)

-- ---- shifts and bits

all_bits : (m : Machdep) → list_all (λ k. nat_le (bits m k) 64) every_kind ≡ true
unfolding every_kind
all_bits model.X86_32 = refl
all_bits model.X86_64 = refl

most_bits : (m : Machdep) (k : Kind) → bits m k ≤ 64
most_bits m k = test (bits m k) (for_each (λ k. nat_le (bits m k) 64) (all_bits m) k)
  where
    test : (n : ℕ) → nat_le n 64 ≡ true → n ≤ 64
    test n h = grind (arith, h)

-- an amount to shift by, as the code counts
pub record IsAmount (m : Machdep) (k : Kind) (y n : ℤ) : Type 0 where
  pub above : pos 0 ≤ℤ n
  pub below : unsigned_abs n < 64
  pub held : holds m k y ≡ true

lt_test : (a b : ℤ) → int_lt a b ≡ true → a <ℤ b
lt_test a b e = lt_z_yes (subst T (sym e) tt)

pub amount_small : (m : Machdep) (k : Kind) (y n : ℤ) → can_shift m k y n ≡ true → IsAmount m k y n
amount_small m k y n h =
    let parts = and_parts (holds m k y && int_le (pos 0) n) (int_lt n (pos (bits m k))) h in
    let front = and_parts (holds m k y) (int_le (pos 0) n) parts.0 in
    let above = test_le (pos 0) n front.1 in
    record { above = above; below = by_sign n above (lt_test n (pos (bits m k)) parts.1); held = front.0 }
  where
    by_sign : (n : ℤ) → pos 0 ≤ℤ n → n <ℤ pos (bits m k) → unsigned_abs n < 64
    by_sign (pos a) above below = let most = most_bits m k in omega (arith, ints, below, most)
    by_sign (negsuc a) above below = absurd above.le

pub shifted_fits : (m : Machdep) (k : Kind) (y n : ℤ) → can_shift m k y n ≡ true → unsigned_abs y * 2 ^ unsigned_abs n < 2 ^ 127
shifted_fits m k y n h =
    let amount = amount_small m k y n h in
    let first = size_small m k y amount.held in
    let power : 2 ^ unsigned_abs n ≤ 2 ^ 63 = pow-le-pow_right {n = 2} (omega arith) {i = unsigned_abs n} {j = 63} (omega (arith, amount.below)) in
    let product = mul-le-mul first power in
    omega (arith, product)

pub shifted_is : (y : ℤ) (n : ℕ) → pos 0 ≤ℤ y → pos (unsigned_abs y * 2 ^ n) ≡ y *ℤ pos (2 ^ n)
shifted_is (pos a) n h = refl
shifted_is (negsuc a) n h = absurd h.le

pub halved_is : (y : ℤ) (n : ℕ) → shr_z y n ≡ floor_div y n
halved_is (pos a) n = refl
halved_is (negsuc a) n = refl

pub bits_small : (m : Machdep) (k : Kind) → 2 ^ bits m k ≤ 2 ^ 64
bits_small m k = pow-le-pow_right (omega arith) (most_bits m k)

pub bits_below : (m : Machdep) (k : Kind) (z : ℤ) → bits_of m k z < 2 ^ bits m k
bits_below m k z = rest_below z (2 ^ bits m k) (power_some (bits m k))

-- ---- results as the code has them

abbrev seen : ℤ → ℤ
seen z = to_z w128 (of_z w128 z)

pub seen_two : (f : ℤ → ℤ → ℤ) (y z : ℤ) → FitsSigned w128 y → FitsSigned w128 z → FitsSigned w128 (f y z) → seen (f (seen y) (seen z)) ≡ f y z
seen_two f y z first second fits = ap (λ y. seen (f y (seen z))) (to_z-of_z w128 y first) ∙ ap (λ z. seen (f y z)) (to_z-of_z w128 z second) ∙ to_z-of_z w128 (f y z) fits

-- ---- division

nonzero : (z : ℤ) → FitsSigned w128 z → int_eq z (pos 0) ≡ false → 0 < of_z w128 z
nonzero (pos zero) fits h = absurd cc
nonzero (pos (suc n)) fits h = omega arith
nonzero (negsuc n) fits h = let below = fits.sfits in omega (arith, below)

pub record CanDivide (y z : ℤ) : Type 0 where
  pub nonzero : 0 < of_z w128 z
  pub fits : FitsSigned w128 (int_div y z)

pub can_divide : (m : Machdep) (k : Kind) (y z : ℤ) → FitsSigned w128 z → has_quotient m k y z ≡ true → CanDivide y z
can_divide m k y z fits h =
    let parts = and_parts (both_held m k y z && not (int_eq z (pos 0))) _ h in
    let front = and_parts (both_held m k y z) (not (int_eq z (pos 0))) parts.0 in
    record {
      nonzero = nonzero z fits (not-true (int_eq z (pos 0)) front.1);
      fits = quotient_fits m k y z (and_parts (holds m k y) (holds m k z) front.0).0;
    }

pub seen_parts : (f : ℤ → ℤ → ℤ) (y z : ℤ) → FitsSigned w128 y → FitsSigned w128 z → FitsSigned w128 (f y z) → FitsSigned w128 (f (seen y) (seen z))
seen_parts f y z first second fits = subst (λ y. FitsSigned w128 (f y (seen z))) (sym (to_z-of_z w128 y first)) (subst (λ z. FitsSigned w128 (f y z)) (sym (to_z-of_z w128 z second)) fits)

pub remainder_fits : (y z : ℤ) → FitsSigned w128 y → FitsSigned w128 (int_rem y z)
remainder_fits y z fits = let smaller = mag_rem y z in let first = fits.sfits in record { sfits = omega (arith, smaller, first) }

pub seen_halved : (y : ℤ) (n : ℕ) → FitsSigned w128 y → seen (shr_z (seen y) n) ≡ floor_div y n
seen_halved y n fits =
    let smaller = mag_shr y n in
    let first = fits.sfits in
    let fits' : FitsSigned w128 (shr_z y n) = record { sfits = omega (arith, smaller, first) } in
    ap (λ y. seen (shr_z y n)) (to_z-of_z w128 y fits) ∙ to_z-of_z w128 (shr_z y n) fits' ∙ halved_is y n

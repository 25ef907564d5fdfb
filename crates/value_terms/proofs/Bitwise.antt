-- The bit operators of a kind, which are on its bits alone, beside those on two's complement integers without end.
use Rattle.std.proofs.Common.{◌≡◌, ℕ, suc, ◌-◌, ◌^◌, ◌<◌, ◌≤◌, Bool, true, false, ℤ, pos, negsuc, ◌+ℤ◌, ◌-ℤ◌, ◌≤ℤ◌, bit_and, bit_or, bit_xor, refl, sym, ap, ◌∙◌, subst, arith}
use Rattle.std.specs.Prelude.{if◌then◌else◌, int_le, ◌&&◌, unsigned_abs, Some, None}
use Rattle.std.proofs.lemmas.Int.{ints}
use Rattle.std.proofs.lemmas.Bool.{and_parts}
use Rattle.std.proofs.Math.Nat.{mod-eq_of_lt, pow-le-pow_right}
use Rattle.wp_base.specs.declared.kinds.Kind.{Kind}
use Rattle.wp_base.specs.declared.kinds.Kind.TheVariants as kind
use Rattle.wp_base.specs.Kinds.{floor_mod, is_signed, whole_high, wrapped}
use Rattle.c_kinds.specs.declared.models.Machdep.{Machdep}
use Rattle.c_kinds.specs.Models.{low, high, holds, convert}
use Rattle.c_kinds.specs.Numbers.{bits, bits_of, with_bits, reduced, count_of}
use Rattle.c_kinds.specs.Numbers as n
use Rattle.c_kinds.proofs.Converting.{convert_is, test_le, le_test, both_true, power_some}
use Rattle.c_kinds.proofs.Results.{high_is, unsigned_high}
use Rattle.c_kinds.proofs.TwosComplement.{operators_act_on_bits}
use Rattle.qed_terms.specs.Operators.{both_bits, either_bit, one_bit, turned_bits}
use Rattle.c_runs.specs.Operators.{with_both_bits, complement, within}
use Rattle.value_terms.proofs.TurnedBits.{size, is_below_zero, low_bits, mod_is, both_low, either_low, one_low, both_size, either_size, one_size}

-- ---- kinds

-- the bits beside the sign
pub record Width (m : Machdep) (k : Kind) : Type 0 where
  pub half : ℕ
  pub within : half ≤ bits m k
  pub sized : (z : ℤ) → holds m k z ≡ true → size z < 2 ^ half
  pub natural : is_signed k ≡ false → (z : ℤ) → holds m k z ≡ true → is_below_zero z ≡ false
  pub back : (z : ℤ) → size z < 2 ^ half → (is_signed k ≡ false → is_below_zero z ≡ false) → holds m k z ≡ true

held_between : (lo hi z : ℤ) → lo ≤ℤ z → z ≤ℤ hi → (int_le lo z && int_le z hi) ≡ true
held_between lo hi z p q = both_true (le_test lo z p) (le_test z hi q)

signed_width : (m : Machdep) (k : Kind) → is_signed k ≡ true → low m k ≡ pos 0 -ℤ pos (2 ^ (bits m k - 1)) → high m k ≡ pos (2 ^ (bits m k - 1) - 1) → Width m k
signed_width m k s lows highs = record {
  half = bits m k - 1;
  within = omega arith;
  sized = λ z h. sized_by z (subst (λ l. l ≤ℤ z) lows (test_le (low m k) z (and_parts (int_le (low m k) z) _ h).0))
      (subst (λ l. z ≤ℤ l) highs (test_le z (high m k) (and_parts (int_le (low m k) z) _ h).1));
  natural = λ e. absurd cc;
  back = λ z p e. back_by z p;
}
  where
    some : 0 < 2 ^ (bits m k - 1)
    some = power_some (bits m k - 1)

    sized_by : (z : ℤ) → (pos 0 -ℤ pos (2 ^ (bits m k - 1))) ≤ℤ z → z ≤ℤ pos (2 ^ (bits m k - 1) - 1) → size z < 2 ^ (bits m k - 1)
    sized_by (pos a) p q = omega (arith, ints, q, some)
    sized_by (negsuc a) p q = omega (arith, ints, p)

    back_by : (z : ℤ) → size z < 2 ^ (bits m k - 1) → holds m k z ≡ true
    back_by (pos a) p = held_between (low m k) (high m k) (pos a) (rw lows (omega (arith, ints))) (rw highs (omega (arith, ints, p)))
    back_by (negsuc a) p = held_between (low m k) (high m k) (negsuc a) (rw lows (omega (arith, ints, p))) (rw highs (omega (arith, ints)))

unsigned_width : (m : Machdep) (k : Kind) → is_signed k ≡ false → low m k ≡ pos 0 → high m k ≡ pos (2 ^ bits m k - 1) → Width m k
unsigned_width m k s lows highs = record {
  half = bits m k;
  within = omega arith;
  sized = λ z h. sized_by z (subst (λ l. l ≤ℤ z) lows (test_le (low m k) z (and_parts (int_le (low m k) z) _ h).0))
      (subst (λ l. z ≤ℤ l) highs (test_le z (high m k) (and_parts (int_le (low m k) z) _ h).1));
  natural = λ e z h. natural_by z (subst (λ l. l ≤ℤ z) lows (test_le (low m k) z (and_parts (int_le (low m k) z) _ h).0));
  back = λ z p e. back_by z p (e s);
}
  where
    some : 0 < 2 ^ bits m k
    some = power_some (bits m k)

    sized_by : (z : ℤ) → pos 0 ≤ℤ z → z ≤ℤ pos (2 ^ bits m k - 1) → size z < 2 ^ bits m k
    sized_by (pos a) p q = omega (arith, ints, q, some)
    sized_by (negsuc a) p q = absurd p.le

    natural_by : (z : ℤ) → pos 0 ≤ℤ z → is_below_zero z ≡ false
    natural_by (pos a) p = refl
    natural_by (negsuc a) p = absurd p.le

    back_by : (z : ℤ) → size z < 2 ^ bits m k → is_below_zero z ≡ false → holds m k z ≡ true
    back_by (pos a) p e = held_between (low m k) (high m k) (pos a) (rw lows (omega (arith, ints))) (rw highs (omega (arith, ints, p)))
    back_by (negsuc a) p e = absurd cc

pub width : (m : Machdep) (k : Kind) → (k ≡ kind.Bool → ⊥) → Width m k
width m k other = by_sign (is_signed k) refl
  where
    by_sign : (s : Bool) → is_signed k ≡ s → Width m k
    by_sign true e =
        signed_width m k e (ap (λ s. if s then pos 0 -ℤ pos (2 ^ (bits m k - 1)) else pos 0) e) (high_is m k other ∙ ap (whole_high (bits m k)) e)
    by_sign false e =
        unsigned_width m k e (ap (λ s. if s then pos 0 -ℤ pos (2 ^ (bits m k - 1)) else pos 0) e) (high_is m k other ∙ ap (whole_high (bits m k)) e)

-- ---- the laws

-- An operator on the bits of a kind is one on all bits, where both go alike: the result is of the kind, and it is the machine's.
pub record IsBitwise (m : Machdep) (k : Kind) (f : ℕ → ℕ → ℕ) (a b r : ℤ) : Type 0 where
  pub held : holds m k r ≡ true
  pub same : with_both_bits m k f a b ≡ r

bitwise : (m : Machdep) (k : Kind) → (k ≡ kind.Bool → ⊥) → (f : ℕ → ℕ → ℕ) (a b r : ℤ) → holds m k a ≡ true → holds m k b ≡ true
    → ((h : ℕ) → size a < 2 ^ h → size b < 2 ^ h → size r < 2 ^ h)
    → ((n : ℕ) → size a < 2 ^ n → size b < 2 ^ n → low_bits n r ≡ f (low_bits n a) (low_bits n b))
    → (is_below_zero a ≡ false → is_below_zero b ≡ false → is_below_zero r ≡ false)
    → IsBitwise m k f a b r
bitwise m k other f a b r p q sized low sign =
    let w = width m k other in
    let n = bits m k in
    let more : 2 ^ w.half ≤ 2 ^ n = pow-le-pow_right {n = 2} (omega arith) w.within in
    let sa = w.sized a p in
    let sb = w.sized b q in
    let sr = sized w.half sa sb in
    let na : size a < 2 ^ n = omega (arith, sa, more) in
    let nb : size b < 2 ^ n = omega (arith, sb, more) in
    let nr : size r < 2 ^ n = omega (arith, sr, more) in
    let is : holds m k r ≡ true = w.back r sr (λ e. sign (w.natural e a p) (w.natural e b q)) in
    let parts : f (bits_of m k a) (bits_of m k b) ≡ bits_of m k r =
    (λ i. f (mod_is n a na i) (mod_is n b nb i)) ∙ sym (low n na nb) ∙ sym (mod_is n r nr) in
    record { held = is; same = ap (with_bits m k) parts ∙ (operators_act_on_bits m k r r other).own_bits is }

both_sign : (a b : ℤ) → is_below_zero a ≡ false → is_below_zero b ≡ false → is_below_zero (both_bits a b) ≡ false
both_sign (pos a) (pos b) p q = refl
both_sign (pos a) (negsuc b) p q = absurd cc
both_sign (negsuc a) b p q = absurd cc

either_sign : (a b : ℤ) → is_below_zero a ≡ false → is_below_zero b ≡ false → is_below_zero (either_bit a b) ≡ false
either_sign (pos a) (pos b) p q = refl
either_sign (pos a) (negsuc b) p q = absurd cc
either_sign (negsuc a) b p q = absurd cc

one_sign : (a b : ℤ) → is_below_zero a ≡ false → is_below_zero b ≡ false → is_below_zero (one_bit a b) ≡ false
one_sign (pos a) (pos b) p q = refl
one_sign (pos a) (negsuc b) p q = absurd cc
one_sign (negsuc a) b p q = absurd cc

module _ (m : Machdep) (k : Kind) (other : k ≡ kind.Bool → ⊥) (a b : ℤ) (p : holds m k a ≡ true) (q : holds m k b ≡ true) where
  pub ands : IsBitwise m k bit_and a b (both_bits a b)
  ands = bitwise m k other bit_and a b _ p q (λ h. both_size h a b) (λ n. both_low n a b) (both_sign a b)

  pub ors : IsBitwise m k bit_or a b (either_bit a b)
  ors = bitwise m k other bit_or a b _ p q (λ h. either_size h a b) (λ n. either_low n a b) (either_sign a b)

  pub xors : IsBitwise m k bit_xor a b (one_bit a b)
  xors = bitwise m k other bit_xor a b _ p q (λ h. one_size h a b) (λ n. one_low n a b) (one_sign a b)

-- ---- what an unsigned kind makes of a number, and complements

pub reduced_is : (m : Machdep) (k : Kind) (z : ℤ) → is_signed k ≡ false → (k ≡ kind.Bool → ⊥) → reduced m k z ≡ convert m k z
reduced_is m k z s other =
    let e = ap unsigned_abs (unsigned_high m k s other) in
    let some = power_some (bits m k) in
    let all : count_of m k ≡ 2 ^ bits m k = omega (arith, e, some) in
    ap (λ c. pos (floor_mod z c)) all ∙ ap (λ s. wrapped (bits m k) s z) (sym s) ∙ sym (convert_is m k z other)

complement_by : (m : Machdep) (k : Kind) (s : Bool) (a r : ℤ) → is_signed k ≡ s → (k ≡ kind.Bool → ⊥) → holds m k a ≡ true
    → (a +ℤ r) ≡ (if s then negsuc 0 else high m k) → r ≡ (if s then turned_bits a else reduced m k (turned_bits a))
complement_by m k true (pos x) r s other h e = omega (arith, ints, e)
complement_by m k true (negsuc x) r s other h e = omega (arith, ints, e)
complement_by m k false (pos x) r s other h e =
    let w = width m k other in
    let most = unsigned_high m k s other in
    let e' : (pos x +ℤ r) ≡ pos (2 ^ bits m k - 1) = e ∙ most in
    let more : 2 ^ w.half ≤ 2 ^ bits m k = pow-le-pow_right {n = 2} (omega arith) w.within in
    let small : x < 2 ^ bits m k = let p = w.sized (pos x) h in omega (arith, p, more) in
    let rest : floor_mod (negsuc x) (2 ^ bits m k) ≡ 2 ^ bits m k - suc x = ap (λ r. 2 ^ bits m k - suc r) (mod-eq_of_lt small) in
    let made : convert m k (negsuc x) ≡ pos (2 ^ bits m k - suc x) =
    convert_is m k (negsuc x) other ∙ ap (λ s. wrapped (bits m k) s (negsuc x)) s ∙ ap pos rest in
    let mine : r ≡ pos (2 ^ bits m k - suc x) = omega (arith, ints, e', small) in
    mine ∙ sym made ∙ sym (reduced_is m k (negsuc x) s other)
complement_by m k false (negsuc x) r s other h e = let n = (width m k other).natural s (negsuc x) h in absurd cc

pub complement_is : (m : Machdep) (k : Kind) (a : ℤ) → (k ≡ kind.Bool → ⊥) → holds m k a ≡ true → complement m k a ≡ within m k (turned_bits a)
unfolding n.complement
complement_is m k a other h =
    complement_by m k (is_signed k) a (complement m k a) refl other h
    ((operators_act_on_bits m k a a other).complements (complement m k a) (ap (λ t. if t then Some (complement m k a) else None) h))

-- Results of operators are of the kind, and stand for exact numbers.
use Rattle.std.proofs.Common.{◌≡◌, ℕ, zero, suc, ◌-◌, ◌/◌, ◌%◌, ◌^◌, ◌<◌, ◌≤◌, ℤ, pos, negsuc, ◌+ℤ◌, ◌-ℤ◌, ◌*ℤ◌, ◌≤ℤ◌, Bool, true, false, not, ◌&&◌, Option, Some, None, refl, sym, ap, ◌∙◌, subst, arith}
use Rattle.std.specs.Prelude.{if◌then◌else◌, int_le, int_lt, int_div, int_rem, unsigned_abs, neg_ℤ}
use Rattle.std.specs.Ordering.{int_eq}
use Rattle.std.proofs.lemmas.Int.{ints, quot-rem, rem_below}
use Rattle.std.proofs.lemmas.Bool.{and_parts}
use Rattle.std.proofs.Math.Nat.{mod-le, div-le_self, mod-eq_of_lt, add-mul, suc-mul}
use Rattle.wp_base.specs.declared.kinds.Kind.{Kind}
use Rattle.wp_base.specs.declared.kinds.Kind.TheVariants as kind
use Rattle.wp_base.specs.Kinds.{floor_div, floor_mod, is_signed, whole_high}
use Rattle.c_kinds.specs.declared.models.Machdep.{Machdep}
use Rattle.c_kinds.specs.Models.{low, high, holds}
use Rattle.c_kinds.specs.Numbers as n
use Rattle.c_kinds.specs.Laws.{IsCongruent}
use Rattle.c_kinds.specs.NumberLaws.{IsOfKind, ResultsAreOfKind, StandsFor, ResultsAreExact, QuotientsDivide, RoundsDown, ShiftsRoundDown}
use Rattle.c_kinds.proofs.Converting.{conversions_keep, test_le, le_test, both_true, split, rest_below, power_some}
use Rattle.c_kinds.proofs.Sizes.{narrow, not_negative}

-- ---- of the kind

ends_held : (m : Machdep) (k : Kind) (z : ℤ) → low m k ≤ℤ z → z ≤ℤ high m k → holds m k z ≡ true
ends_held m k z above below = both_true (le_test (low m k) z above) (le_test z (high m k) below)

-- a number between 0 and one of the kind
nearer_held : (m : Machdep) (k : Kind) (y z : ℤ) → holds m k y ≡ true → pos 0 ≤ℤ z → z ≤ℤ y → holds m k z ≡ true
nearer_held m k y z h above below =
    let ends = narrow m k in
    let most = test_le y (high m k) (and_parts (int_le (low m k) y) _ h).1 in
    let least = ends.no_more in
    ends_held m k z (omega (arith, ints, least, above)) (omega (arith, ints, most, below))

nearer_held_below : (m : Machdep) (k : Kind) (y z : ℤ) → holds m k y ≡ true → y ≤ℤ z → z ≤ℤ pos 0 → holds m k z ≡ true
nearer_held_below m k y z h above below =
    let ends = narrow m k in
    let least = test_le (low m k) y (and_parts (int_le (low m k) y) _ h).0 in
    let most = ends.natural in
    ends_held m k z (omega (arith, ints, least, above)) (omega (arith, ints, most, below))

reduced_held : (m : Machdep) (k : Kind) (z : ℤ) → is_signed k ≡ false → holds m k (n.reduced m k z) ≡ true
reduced_held m k z is =
    let ends = narrow m k in
    let least = ends.no_more in
    let below = rest_below z (n.count_of m k) (omega arith) in
    ends_held m k (n.reduced m k z) (omega (arith, ints, least)) (by_end (high m k) ends.natural below)
  where
    by_end : (e : ℤ) → pos 0 ≤ℤ e → floor_mod z (n.count_of m k) < suc (unsigned_abs e) → n.reduced m k z ≤ℤ e
    by_end (pos a) some below = omega (arith, ints, below)
    by_end (negsuc a) some below = absurd some.le

if_of_kind : (m : Machdep) (k : Kind) (b : Bool) (z : ℤ) → (b ≡ true → holds m k z ≡ true) → IsOfKind m k (if b then Some z else None)
if_of_kind m k true z h = h refl
if_of_kind m k false z h = tt

unless_of_kind : (m : Machdep) (k : Kind) (b : Bool) (v : Option ℤ) → IsOfKind m k v → IsOfKind m k (if b then v else None)
unless_of_kind m k true v h = h
unless_of_kind m k false v h = tt

result_of_kind : (m : Machdep) (k : Kind) (z : ℤ) → IsOfKind m k (n.result_of m k z)
unfolding n.result_of n.held
result_of_kind m k z = by_sign (is_signed k) refl
  where
    by_sign : (s : Bool) → is_signed k ≡ s → IsOfKind m k (if s then (if holds m k z then Some z else None) else Some (n.reduced m k z))
    by_sign true is = if_of_kind m k (holds m k z) z (λ h. h)
    by_sign false is = reduced_held m k z is

remainder_held : (m : Machdep) (k : Kind) (y z : ℤ) → holds m k y ≡ true → holds m k (int_rem y z) ≡ true
remainder_held m k (pos a) z h = nearer_held m k (pos a) _ h (omega (arith, ints)) (let le = mod-le a (unsigned_abs z) in omega (arith, ints, le))
remainder_held m k (negsuc a) z h = let le = mod-le (suc a) (unsigned_abs z) in of_rest (suc a % unsigned_abs z) le
  where
    of_rest : (r : ℕ) → r ≤ suc a → holds m k (neg_ℤ (pos r)) ≡ true
    of_rest zero le = nearer_held_below m k (negsuc a) (pos 0) h (omega (arith, ints)) (omega (arith, ints))
    of_rest (suc r) le = nearer_held_below m k (negsuc a) (negsuc r) h (omega (arith, ints, le)) (omega (arith, ints))

halved_held : (m : Machdep) (k : Kind) (y : ℤ) (d : ℕ) → holds m k y ≡ true → holds m k (floor_div y d) ≡ true
halved_held m k (pos a) d h = nearer_held m k (pos a) (pos (a / d)) h (omega (arith, ints)) (let le = div-le_self a d in omega (arith, ints, le))
halved_held m k (negsuc a) d h = nearer_held_below m k (negsuc a) (negsuc (a / d)) h (let le = div-le_self a d in omega (arith, ints, le)) (omega (arith, ints))

pub results_are_of_kind : ResultsAreOfKind
unfolding n.sum n.difference n.product n.quotient n.remainder n.negated n.left_shift n.right_shift n.and_bits n.xor_bits n.or_bits n.complement
results_are_of_kind m k y z = record {
  sums = unless_of_kind m k (n.both_held m k y z) _ (result_of_kind m k (y +ℤ z));
  differences = unless_of_kind m k (n.both_held m k y z) _ (result_of_kind m k (y -ℤ z));
  products = unless_of_kind m k (n.both_held m k y z) _ (result_of_kind m k (y *ℤ z));
  quotients = if_of_kind m k (n.has_quotient m k y z) (int_div y z) (λ h. (and_parts (n.both_held m k y z && not (int_eq z (pos 0))) (holds m k (int_div y z)) h).1);
  remainders = if_of_kind m k (n.has_quotient m k y z) (int_rem y z)
      (λ h. remainder_held m k y z (and_parts (holds m k y) (holds m k z) (and_parts (n.both_held m k y z) (not (int_eq z (pos 0))) (and_parts (n.both_held m k y z && not (int_eq z (pos 0))) (holds m k (int_div y z)) h).0).0).0);
  opposites = unless_of_kind m k (holds m k y) _ (result_of_kind m k (pos 0 -ℤ y));
  shifts_left = unless_of_kind m k (n.can_shift m k y z && int_le (pos 0) y) _ (result_of_kind m k (y *ℤ pos (2 ^ unsigned_abs z)));
  shifts_right = if_of_kind m k (n.can_shift m k y z) (floor_div y (2 ^ unsigned_abs z))
      (λ h. halved_held m k y (2 ^ unsigned_abs z) (and_parts (holds m k y) (int_le (pos 0) z) (and_parts (holds m k y && int_le (pos 0) z) (int_lt z (pos (n.bits m k))) h).0).0);
  ands = if_of_kind m k (n.both_held m k y z) _ (λ h. (conversions_keep m k _).held);
  xors = if_of_kind m k (n.both_held m k y z) _ (λ h. (conversions_keep m k _).held);
  ors = if_of_kind m k (n.both_held m k y z) _ (λ h. (conversions_keep m k _).held);
  complements = if_of_kind m k (holds m k y) _ (λ h. (conversions_keep m k _).held);
}

-- ---- exact

-- under all kinds but `_Bool` the numbers of an unsigned kind are those of its bits
pub high_is : (m : Machdep) (k : Kind) → (k ≡ kind.Bool → ⊥) → high m k ≡ whole_high (n.bits m k) (is_signed k)
high_is m kind.Bool other = absurd (other refl)
high_is m kind.Char other = refl
high_is m kind.SChar other = refl
high_is m kind.UChar other = refl
high_is m kind.Short other = refl
high_is m kind.UShort other = refl
high_is m kind.Int other = refl
high_is m kind.UInt other = refl
high_is m kind.Long other = refl
high_is m kind.ULong other = refl
high_is m kind.LLong other = refl
high_is m kind.ULLong other = refl

pub unsigned_high : (m : Machdep) (k : Kind) → is_signed k ≡ false → (k ≡ kind.Bool → ⊥) → high m k ≡ pos (2 ^ n.bits m k - 1)
unsigned_high m k is other = high_is m k other ∙ ap (whole_high (n.bits m k)) is

count_is : (m : Machdep) (k : Kind) → is_signed k ≡ false → (k ≡ kind.Bool → ⊥) → n.count_of m k ≡ 2 ^ n.bits m k
count_is m k is other = let e = ap unsigned_abs (unsigned_high m k is other) in let some = power_some (n.bits m k) in omega (arith, e, some)

reduced_congruent : (m : Machdep) (k : Kind) (z : ℤ) → is_signed k ≡ false → (k ≡ kind.Bool → ⊥) → IsCongruent (n.bits m k) (n.reduced m k z) z
reduced_congruent m k z is other =
    subst (λ c. IsCongruent (n.bits m k) (pos (floor_mod z c)) z) (sym (count_is m k is other)) (record { turns = floor_div z (2 ^ n.bits m k); differ = split z (2 ^ n.bits m k) (power_some (n.bits m k)) })

reduced_same : (m : Machdep) (k : Kind) (z : ℤ) → is_signed k ≡ false → holds m k z ≡ true → n.reduced m k z ≡ z
reduced_same m k z is h = natural z (not_negative m k z is h) (test_le z (high m k) (and_parts (int_le (low m k) z) _ h).1)
  where
    by_end : (a : ℕ) (e : ℤ) → pos a ≤ℤ e → a < suc (unsigned_abs e)
    by_end a (pos b) le = omega (arith, ints, le)
    by_end a (negsuc b) le = absurd le.le

    natural : (z : ℤ) → pos 0 ≤ℤ z → z ≤ℤ high m k → n.reduced m k z ≡ z
    natural (pos a) above below = ap pos (mod-eq_of_lt (by_end a (high m k) below))
    natural (negsuc a) above below = absurd above.le

same_congruent : (bits : ℕ) (y z : ℤ) → y ≡ z → IsCongruent bits y z
same_congruent bits y z e = record { turns = pos 0; differ = sym e ∙ omega (arith, ints) }

some_same : (y z : ℤ) → Some y ≡ Some z → z ≡ y
some_same y z e = cc

stands_for : (m : Machdep) (k : Kind) (ready : Bool) (z : ℤ) → StandsFor m k ready z (if ready then n.result_of m k z else None)
unfolding n.result_of n.held
stands_for m k false z = record { exact_where_held = λ r h. absurd cc; no_other = λ s r e. absurd cc; always = λ s r. absurd cc; congruent = λ o r e. absurd cc }
stands_for m k true z = by_sign (is_signed k) (holds m k z) refl refl
  where
    by_sign : (s h : Bool) → is_signed k ≡ s → holds m k z ≡ h → StandsFor m k true z (if s then (if h then Some z else None) else Some (n.reduced m k z))
    by_sign true true is held = record { exact_where_held = λ r h. refl; no_other = λ s r e. some_same z r e; always = λ s r. absurd cc; congruent = λ o r e. same_congruent (n.bits m k) r z (some_same z r e) }
    by_sign true false is held = record { exact_where_held = λ r h. absurd cc; no_other = λ s r e. absurd cc; always = λ s r. absurd cc; congruent = λ o r e. absurd cc }
    by_sign false h is held = record {
      exact_where_held = λ r h. ap Some (reduced_same m k z is h);
      no_other = λ s r e. absurd cc;
      always = λ s r. search arith;
      congruent = λ o r e. subst (λ r. IsCongruent (n.bits m k) r z) (sym (some_same (n.reduced m k z) r e)) (reduced_congruent m k z is o);
    }

pub results_are_exact : ResultsAreExact
unfolding n.sum n.difference n.product n.negated n.left_shift
results_are_exact m k y z = record {
  sums = stands_for m k (n.both_held m k y z) (y +ℤ z);
  differences = stands_for m k (n.both_held m k y z) (y -ℤ z);
  products = stands_for m k (n.both_held m k y z) (y *ℤ z);
  opposites = stands_for m k (holds m k y) (pos 0 -ℤ y);
  shifts = stands_for m k (n.can_shift m k y z && int_le (pos 0) y) (y *ℤ pos (2 ^ unsigned_abs z));
}

-- ---- quotients, and shifts to the right

-- what a choice is, where it is some
pub chosen_is : {X : Type 0} (b : Bool) (x y : X) → (if b then Some x else None) ≡ Some y → (b ≡ true) × (y ≡ x)
chosen_is true x y e = (refl, cc)
chosen_is false x y e = absurd cc

divisor_some : (z : ℤ) → not (int_eq z (pos 0)) ≡ true → 0 < unsigned_abs z
divisor_some (pos zero) h = absurd cc
divisor_some (pos (suc a)) h = omega arith
divisor_some (negsuc a) h = omega arith

pub quotients_divide : QuotientsDivide
unfolding n.quotient n.remainder
quotients_divide m k y z q r quotient remainder =
    let q-is = chosen_is (n.has_quotient m k y z) (int_div y z) q quotient in
    let r-is = chosen_is (n.has_quotient m k y z) (int_rem y z) r remainder in
    let some = divisor_some z (and_parts (n.both_held m k y z) (not (int_eq z (pos 0))) (and_parts (n.both_held m k y z && not (int_eq z (pos 0))) (holds m k (int_div y z)) q-is.0).0).1 in
    record {
      whole = (λ i. (q-is.1 i *ℤ z) +ℤ r-is.1 i) ∙ quot-rem y z;
      less = subst (λ r. unsigned_abs r < unsigned_abs z) (sym r-is.1) (rem_below y z some);
    }

next_times : (r : ℤ) (p : ℕ) → ((r +ℤ pos 1) *ℤ pos p) ≡ ((r *ℤ pos p) +ℤ pos p)
next_times (pos a) p = let e = add-mul a 1 p in omega (arith, ints, e)
next_times (negsuc zero) p = omega (arith, ints)
next_times (negsuc (suc a)) p =
    let next : (negsuc (suc a) +ℤ pos 1) ≡ negsuc a = omega (arith, ints) in
    let e = suc-mul (suc a) p in
    ap (λ z. z *ℤ pos p) next ∙ omega (arith, ints, e)

rounds_down : (y : ℤ) (count : ℕ) → RoundsDown y count (floor_div y (2 ^ count))
rounds_down y count =
    let parts = split y (2 ^ count) (power_some count) in
    let below = rest_below y (2 ^ count) (power_some count) in
    let next = next_times (floor_div y (2 ^ count)) (2 ^ count) in
    record { no_more = omega (arith, ints, parts); greatest = omega (arith, ints, parts, below, next) }

pub shifts_round_down : ShiftsRoundDown
unfolding n.right_shift
shifts_round_down m k y z r e = subst (RoundsDown y (unsigned_abs z)) (sym (chosen_is (n.can_shift m k y z) (floor_div y (2 ^ unsigned_abs z)) r e).1) (rounds_down y (unsigned_abs z))

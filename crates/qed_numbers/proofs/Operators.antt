-- Operators at 0 and 1, and conversions made twice.
use Rattle.std.proofs.Common.{◌≡◌, ℕ, zero, suc, ◌-◌, ◌/◌, ◌%◌, ◌^◌, Bool, true, false, ℤ, pos, negsuc, ◌+ℤ◌, ◌-ℤ◌, ◌*ℤ◌, neg_ℤ, bit_xor, refl, ◌∙◌, ap, arith}
use Rattle.std.specs.Int.Bits.{and_zero_l, and_zero_r, or_zero_l, or_zero_r, xor_zero_l, xor_zero_r}
use Rattle.std.proofs.Math.Nat.{zero-div, zero-mod, mod-eq_of_lt}
use Rattle.std.proofs.lemmas.Nat.{pow_pos}
use Rattle.std.proofs.lemmas.Int.{ints}
use Rattle.std.proofs.Math.IntN.{*ℤ_comm}
use Rattle.wp_base.specs.declared.kinds.Kind.{Kind}
use Rattle.wp_base.specs.declared.kinds.Kind.TheVariants as kind
use Rattle.wp_base.specs.Kinds.{floor_mod, wrapped, truth_number, convert}
use Rattle.wp_base.specs.Blocks.{to_nat}
use Rattle.c_kinds.proofs.Converting.{rest_below}
use Rattle.qed_terms.specs.Operators.{quotient, remainder, shifted_left, shifted_right, both_bits, either_bit, one_bit, without}
use Rattle.qed_linear.proofs.Ring.{times_one}
use Rattle.qed_numbers.specs.Numbers.{is_of_one_width}

-- ---- division

over_one : (n : ℕ) → n / 1 ≡ n
over_one n = omega arith

rest_of_one : (n : ℕ) → n % 1 ≡ 0
rest_of_one n = omega arith

pub quotient_by_one : (a : ℤ) → quotient a (pos 1) ≡ a
quotient_by_one (pos n) = ap pos (over_one n)
quotient_by_one (negsuc n) = ap (λ m. neg_ℤ (pos m)) (over_one (suc n))

pub remainder_by_one : (a : ℤ) → remainder a (pos 1) ≡ pos 0
remainder_by_one (pos n) = ap pos (rest_of_one n)
remainder_by_one (negsuc n) = ap (λ m. neg_ℤ (pos m)) (rest_of_one (suc n))

pub quotient_of_zero : (b : ℤ) → quotient (pos 0) b ≡ pos 0
quotient_of_zero (pos zero) = refl
quotient_of_zero (pos (suc n)) = ap pos (zero-div (suc n))
quotient_of_zero (negsuc n) = ap (λ m. neg_ℤ (pos m)) (zero-div (suc n))

pub remainder_of_zero : (b : ℤ) → remainder (pos 0) b ≡ pos 0
remainder_of_zero (pos zero) = refl
remainder_of_zero (pos (suc n)) = ap pos (zero-mod (suc n))
remainder_of_zero (negsuc n) = ap pos (zero-mod (suc n))

-- ---- shifts

pub right_by_zero : (a : ℤ) → shifted_right a (pos 0) ≡ a
right_by_zero (pos n) = ap pos (over_one n)
right_by_zero (negsuc n) = ap negsuc (over_one n)

pub left_is_product : (a n : ℤ) → pos (2 ^ to_nat n) *ℤ (a *ℤ pos 1) ≡ shifted_left a n
left_is_product a n = ap (λ z. pos (2 ^ to_nat n) *ℤ z) (times_one a) ∙ *ℤ_comm (pos (2 ^ to_nat n)) a

-- ---- bits

none_without : (b : ℕ) → without 0 b ≡ 0
none_without b = ap (λ x. bit_xor 0 x) (and_zero_l b) ∙ xor_zero_l 0

without_none : (a : ℕ) → without a 0 ≡ a
without_none a = ap (λ x. bit_xor a x) (and_zero_r a) ∙ xor_zero_r a

pub both_with_zero : (a : ℤ) → both_bits a (pos 0) ≡ pos 0
both_with_zero (pos n) = ap pos (and_zero_r n)
both_with_zero (negsuc n) = ap pos (none_without n)

pub zero_with_both : (a : ℤ) → both_bits (pos 0) a ≡ pos 0
zero_with_both (pos n) = ap pos (and_zero_l n)
zero_with_both (negsuc n) = ap pos (none_without n)

pub either_with_zero : (a : ℤ) → either_bit a (pos 0) ≡ a
either_with_zero (pos n) = ap pos (or_zero_r n)
either_with_zero (negsuc n) = ap negsuc (without_none n)

pub zero_with_either : (a : ℤ) → either_bit (pos 0) a ≡ a
zero_with_either (pos n) = ap pos (or_zero_l n)
zero_with_either (negsuc n) = ap negsuc (without_none n)

pub one_with_zero : (a : ℤ) → one_bit a (pos 0) ≡ a
one_with_zero (pos n) = ap pos (xor_zero_r n)
one_with_zero (negsuc n) = ap negsuc (xor_zero_r n)

pub zero_with_one : (a : ℤ) → one_bit (pos 0) a ≡ a
zero_with_one (pos n) = ap pos (xor_zero_l n)
zero_with_one (negsuc n) = ap negsuc (xor_zero_l n)

-- ---- conversions

pub same_width : (long_bits : ℕ) (k : Kind) (z : ℤ) → is_of_one_width k ≡ true → convert 64 k z ≡ convert long_bits k z
same_width long_bits kind.Long z e = absurd cc
same_width long_bits kind.ULong z e = absurd cc
same_width long_bits k z e = refl

truth_again : (z : ℤ) → truth_number (truth_number z) ≡ truth_number z
truth_again (pos zero) = refl
truth_again (pos (suc n)) = refl
truth_again (negsuc n) = refl

wrapped_again : (bits : ℕ) (signed : Bool) (z : ℤ) → wrapped bits signed (wrapped bits signed z) ≡ wrapped bits signed z
wrapped_again bits false z = ap pos (mod-eq_of_lt (rest_below z (2 ^ bits) (pow_pos bits)))
wrapped_again bits true z =
    let half = pos (2 ^ (bits - 1)) in
    let r = floor_mod (z +ℤ half) (2 ^ bits) in
    let back : (pos r -ℤ half) +ℤ half ≡ pos r = omega (arith, ints) in
    ap (λ y. pos (floor_mod y (2 ^ bits)) -ℤ half) back ∙ ap (λ n. pos n -ℤ half) (mod-eq_of_lt (rest_below (z +ℤ half) (2 ^ bits) (pow_pos bits)))

pub converted_again : (long_bits : ℕ) (k : Kind) (z : ℤ) → convert long_bits k (convert long_bits k z) ≡ convert long_bits k z
converted_again long_bits kind.Bool z = truth_again z
converted_again long_bits kind.Char z = wrapped_again 8 true z
converted_again long_bits kind.SChar z = wrapped_again 8 true z
converted_again long_bits kind.UChar z = wrapped_again 8 false z
converted_again long_bits kind.Short z = wrapped_again 16 true z
converted_again long_bits kind.UShort z = wrapped_again 16 false z
converted_again long_bits kind.Int z = wrapped_again 32 true z
converted_again long_bits kind.UInt z = wrapped_again 32 false z
converted_again long_bits kind.Long z = wrapped_again long_bits true z
converted_again long_bits kind.ULong z = wrapped_again long_bits false z
converted_again long_bits kind.LLong z = wrapped_again 64 true z
converted_again long_bits kind.ULLong z = wrapped_again 64 false z

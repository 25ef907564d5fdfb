-- The operators on integers of any size. Division is that of C (C11 6.5.5p6), the bit operators are on two's complement integers
-- without end (C11 6.5.3.3, 6.5.7, 6.5.10 to 6.5.12).
use Rattle.std.specs.Prelude.{◌≡◌, ◌<◌, unsigned_abs, neg_ℤ, ℕ, zero, suc, ◌^◌, Bool, true, false, if◌then◌else◌, ℤ, pos, negsuc, ◌+ℤ◌, ◌-ℤ◌, ◌*ℤ◌, int_div, int_rem, List, [], ◌∷◌}
use Rattle.std.specs.Int.Bits.{bit_and, bit_or, bit_xor}
use Rattle.wp_base.specs.Kinds.{floor_div}
use Rattle.wp_base.specs.Blocks.{to_nat}

abbrev pub is_zero : ℤ → Bool
is_zero (pos zero) = true
is_zero (pos (suc n)) = false
is_zero (negsuc n) = false

abbrev pub is_equal : ℤ → ℤ → Bool
is_equal a b = is_zero (a -ℤ b)

abbrev pub total : List ℤ → ℤ
total [] = pos 0
total (z ∷ zs) = z +ℤ total zs

abbrev pub product : List ℤ → ℤ
product [] = pos 1
product (z ∷ zs) = z *ℤ product zs

-- the quotient is rounded towards 0, the remainder has the sign of a; by 0 both are 0
abbrev pub quotient : (a b : ℤ) → ℤ
quotient a b = if is_zero b then pos 0 else int_div a b

abbrev pub remainder : (a b : ℤ) → ℤ
remainder a b = if is_zero b then pos 0 else int_rem a b

-- a number from 0 up for one from 0 up, a number from 0 down for a negative one
abbrev pub HasSignOf : (a r : ℤ) → Type 0
HasSignOf (pos n) r = (m : ℕ) × (r ≡ pos m)
HasSignOf (negsuc n) r = (m : ℕ) × (r ≡ neg_ℤ (pos m))

-- Of a division by another number than 0: quotient times divisor and the remainder make the dividend, the remainder is smaller than the
-- divisor, and has the sign of the dividend (C11 6.5.5p6).
pub record Divides (a b : ℤ) : Type 0 where
  pub whole : quotient a b *ℤ b +ℤ remainder a b ≡ a
  pub smaller : unsigned_abs (remainder a b) < unsigned_abs b
  pub sign : HasSignOf a (remainder a b)

abbrev pub DivisionTruncates : Type 0
DivisionTruncates = (a b : ℤ) → is_zero b ≡ false → Divides a b

-- a times 2^n, and a divided by 2^n and rounded down; a negative n counts as 0
abbrev pub shifted_left : (a n : ℤ) → ℤ
shifted_left a n = a *ℤ pos (2 ^ to_nat n)

abbrev pub shifted_right : (a n : ℤ) → ℤ
shifted_right a n = floor_div a (2 ^ to_nat n)

-- the bits that stand in a and not in b
abbrev pub without : ℕ → ℕ → ℕ
without a b = bit_xor a (bit_and a b)

-- `negsuc a` is -a - 1, whose bits are those of a turned over
abbrev pub both_bits : ℤ → ℤ → ℤ
both_bits (pos a) (pos b) = pos (bit_and a b)
both_bits (pos a) (negsuc b) = pos (without a b)
both_bits (negsuc a) (pos b) = pos (without b a)
both_bits (negsuc a) (negsuc b) = negsuc (bit_or a b)

abbrev pub either_bit : ℤ → ℤ → ℤ
either_bit (pos a) (pos b) = pos (bit_or a b)
either_bit (pos a) (negsuc b) = negsuc (without b a)
either_bit (negsuc a) (pos b) = negsuc (without a b)
either_bit (negsuc a) (negsuc b) = negsuc (bit_and a b)

abbrev pub one_bit : ℤ → ℤ → ℤ
one_bit (pos a) (pos b) = pos (bit_xor a b)
one_bit (pos a) (negsuc b) = negsuc (bit_xor a b)
one_bit (negsuc a) (pos b) = negsuc (bit_xor a b)
one_bit (negsuc a) (negsuc b) = pos (bit_xor a b)

abbrev pub turned_bits : ℤ → ℤ
turned_bits (pos a) = negsuc a
turned_bits (negsuc a) = pos a

-- The operators on numbers, kind by kind (C11 6.5.3.3, 6.5.5 to 6.5.9, 6.5.10 to 6.5.12). The operands of all but the shifts are numbers of one kind, to
-- which they were converted before; what is asked of them is asked here, so that nothing has to be known of them. No value has what C11 leaves
-- undefined: an overflow of a signed kind, a zero divisor, a shift by a negative amount or by as many bits as the kind has, a negative number to the left.
use Rattle.std.specs.Prelude.{ℕ, suc, ◌-◌, ◌^◌, Bool, not, ◌&&◌, if◌then◌else◌, Option, Some, None, ℤ, pos, ◌+ℤ◌, ◌-ℤ◌, ◌*ℤ◌, int_le, int_lt, int_div, int_rem, unsigned_abs, bit_and, bit_or, bit_xor}
use Rattle.std.specs.Ordering.{int_eq}
use Rattle.wp_base.specs.declared.kinds.Kind.{Kind}
use Rattle.wp_base.specs.Kinds.{is_signed, kind_bits, floor_div, floor_mod}
use Rattle.c_kinds.specs.declared.models.Machdep.{Machdep}
use Rattle.c_kinds.specs.Models.{long_bits, high, holds, convert}

-- both are numbers of the kind
abbrev pub both_held : Machdep → Kind → ℤ → ℤ → Bool
both_held m k y z = holds m k y && holds m k z

-- ---- what a result comes to

-- the number where the kind holds it; else it has no value (C11 6.5p5)
unfoldable pub held : Machdep → Kind → ℤ → Option ℤ
held m k z = if holds m k z then Some z else None

-- how many numbers an unsigned kind has: one more than the greatest
abbrev pub count_of : Machdep → Kind → ℕ
count_of m k = suc (unsigned_abs (high m k))

-- what is left of a number modulo that (C11 6.2.5p9)
abbrev pub reduced : Machdep → Kind → ℤ → ℤ
reduced m k z = pos (floor_mod z (count_of m k))

-- the value of an operation whose exact result is this: signed kinds must hold it, and under unsigned ones it is reduced
unfoldable pub result_of : Machdep → Kind → ℤ → Option ℤ
result_of m k z = if is_signed k then held m k z else Some (reduced m k z)

-- ---- sums and products (C11 6.5.3.3, 6.5.5, 6.5.6)

unfoldable pub sum : Machdep → Kind → ℤ → ℤ → Option ℤ
sum m k y z = if both_held m k y z then result_of m k (y +ℤ z) else None

unfoldable pub difference : Machdep → Kind → ℤ → ℤ → Option ℤ
difference m k y z = if both_held m k y z then result_of m k (y -ℤ z) else None

unfoldable pub product : Machdep → Kind → ℤ → ℤ → Option ℤ
product m k y z = if both_held m k y z then result_of m k (y *ℤ z) else None

unfoldable pub negated : Machdep → Kind → ℤ → Option ℤ
negated m k z = if holds m k z then result_of m k (pos 0 -ℤ z) else None

-- `/` truncates towards zero, and neither it nor `%` has a value where the divisor is 0 or the kind doesn't hold the quotient (C11 6.5.5p5, p6)
abbrev pub has_quotient : Machdep → Kind → ℤ → ℤ → Bool
has_quotient m k y z = both_held m k y z && not (int_eq z (pos 0)) && holds m k (int_div y z)

unfoldable pub quotient : Machdep → Kind → ℤ → ℤ → Option ℤ
quotient m k y z = if has_quotient m k y z then Some (int_div y z) else None

unfoldable pub remainder : Machdep → Kind → ℤ → ℤ → Option ℤ
remainder m k y z = if has_quotient m k y z then Some (int_rem y z) else None

-- ---- shifts (C11 6.5.7), of a number of the promoted kind of the left operand by any number

abbrev pub bits : Machdep → Kind → ℕ
bits m k = kind_bits (long_bits m) k

abbrev pub can_shift : Machdep → Kind → ℤ → ℤ → Bool
can_shift m k y n = holds m k y && int_le (pos 0) n && int_lt n (pos (bits m k))

unfoldable pub left_shift : Machdep → Kind → ℤ → ℤ → Option ℤ
left_shift m k y n = if can_shift m k y n && int_le (pos 0) y then result_of m k (y *ℤ pos (2 ^ unsigned_abs n)) else None

-- a negative number too is divided and rounded down (this project's choice)
unfoldable pub right_shift : Machdep → Kind → ℤ → ℤ → Option ℤ
right_shift m k y n = if can_shift m k y n then Some (floor_div y (2 ^ unsigned_abs n)) else None

-- ---- bits (C11 6.5.3.3p4, 6.5.10 to 6.5.12), which are those of two's complement (C11 6.2.6.2)

-- the bits of a number, as a number without sign
abbrev pub bits_of : Machdep → Kind → ℤ → ℕ
bits_of m k z = floor_mod z (2 ^ bits m k)

-- the number of the kind with these bits
abbrev pub with_bits : Machdep → Kind → ℕ → ℤ
with_bits m k n = convert m k (pos n)

unfoldable pub and_bits : Machdep → Kind → ℤ → ℤ → Option ℤ
and_bits m k y z = if both_held m k y z then Some (with_bits m k (bit_and (bits_of m k y) (bits_of m k z))) else None

unfoldable pub xor_bits : Machdep → Kind → ℤ → ℤ → Option ℤ
xor_bits m k y z = if both_held m k y z then Some (with_bits m k (bit_xor (bits_of m k y) (bits_of m k z))) else None

unfoldable pub or_bits : Machdep → Kind → ℤ → ℤ → Option ℤ
or_bits m k y z = if both_held m k y z then Some (with_bits m k (bit_or (bits_of m k y) (bits_of m k z))) else None

-- each bit is the other one
unfoldable pub complement : Machdep → Kind → ℤ → Option ℤ
complement m k z = if holds m k z then Some (with_bits m k (2 ^ bits m k - 1 - bits_of m k z)) else None

-- ---- tests, each of which gives 1 or 0 of kind `int` (C11 6.5.3.3p5, 6.5.8, 6.5.9)

abbrev pub truth : Bool → ℤ
truth b = if b then pos 1 else pos 0

abbrev pub less : ℤ → ℤ → ℤ
less y z = truth (int_lt y z)

abbrev pub at_most : ℤ → ℤ → ℤ
at_most y z = truth (int_le y z)

abbrev pub equal : ℤ → ℤ → ℤ
equal y z = truth (int_eq y z)

abbrev pub not_equal : ℤ → ℤ → ℤ
not_equal y z = truth (not (int_eq y z))

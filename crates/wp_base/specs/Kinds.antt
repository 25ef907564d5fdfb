-- The integer kinds: how wide they are, what they hold, and conversion to them. The data models differ in the width of `long`.
use Rattle.std.specs.Prelude.{ℕ, zero, suc, ◌-◌, ◌/◌, ◌%◌, ◌^◌, Bool, true, false, if◌then◌else◌, ℤ, pos, negsuc, ◌+ℤ◌, ◌-ℤ◌}
use Rattle.wp_base.specs.declared.kinds.Kind.{Kind}
use Rattle.wp_base.specs.declared.kinds.Kind.TheVariants as kind
use Rattle.wp_base.specs.declared.kinds.CellKind.{CellKind}
use Rattle.wp_base.specs.declared.kinds.CellKind.TheVariants as cell

-- the place of a kind in their order
abbrev pub kind_place : Kind → ℕ
kind_place kind.Bool = 0
kind_place kind.Char = 1
kind_place kind.SChar = 2
kind_place kind.UChar = 3
kind_place kind.Short = 4
kind_place kind.UShort = 5
kind_place kind.Int = 6
kind_place kind.UInt = 7
kind_place kind.Long = 8
kind_place kind.ULong = 9
kind_place kind.LLong = 10
kind_place kind.ULLong = 11

-- pointers come last
abbrev pub cell_place : CellKind → ℕ
cell_place (cell.Of k) = kind_place k
cell_place cell.Ptr = 12

-- how many bits a kind has (C11 5.2.4.2.1, 6.2.6.2)
abbrev pub kind_bits : (long_bits : ℕ) → Kind → ℕ
kind_bits long_bits kind.Bool = 8
kind_bits long_bits kind.Char = 8
kind_bits long_bits kind.SChar = 8
kind_bits long_bits kind.UChar = 8
kind_bits long_bits kind.Short = 16
kind_bits long_bits kind.UShort = 16
kind_bits long_bits kind.Int = 32
kind_bits long_bits kind.UInt = 32
kind_bits long_bits kind.Long = long_bits
kind_bits long_bits kind.ULong = long_bits
kind_bits long_bits kind.LLong = 64
kind_bits long_bits kind.ULLong = 64

-- plain `char` is signed
abbrev pub is_signed : Kind → Bool
is_signed kind.Char = true
is_signed kind.SChar = true
is_signed kind.Short = true
is_signed kind.Int = true
is_signed kind.Long = true
is_signed kind.LLong = true
is_signed _ = false

-- the least number of a kind: signed kinds are two's complement (C11 6.2.6.2)
abbrev pub kind_low : (long_bits : ℕ) → Kind → ℤ
kind_low long_bits k = if is_signed k then pos 0 -ℤ pos (2 ^ (kind_bits long_bits k - 1)) else pos 0

abbrev pub whole_high : (bits : ℕ) → (signed : Bool) → ℤ
whole_high bits true = pos (2 ^ (bits - 1) - 1)
whole_high bits false = pos (2 ^ bits - 1)

-- the greatest number of a kind; `_Bool` holds 0 and 1
abbrev pub kind_high : (long_bits : ℕ) → Kind → ℤ
kind_high long_bits kind.Bool = pos 1
kind_high long_bits k = whole_high (kind_bits long_bits k) (is_signed k)

-- z divided by m, rounded down, and what is left
abbrev pub floor_div : ℤ → (m : ℕ) → ℤ
floor_div (pos n) m = pos (n / m)
floor_div (negsuc n) m = negsuc (n / m)

abbrev pub floor_mod : ℤ → (m : ℕ) → ℕ
floor_mod (pos n) m = n % m
floor_mod (negsuc n) m = m - suc (n % m)

-- the number of so many bits that is the same modulo 2^bits
abbrev pub wrapped : (bits : ℕ) → (signed : Bool) → ℤ → ℤ
wrapped bits false z = pos (floor_mod z (2 ^ bits))
wrapped bits true z = pos (floor_mod (z +ℤ pos (2 ^ (bits - 1))) (2 ^ bits)) -ℤ pos (2 ^ (bits - 1))

abbrev pub truth_number : ℤ → ℤ
truth_number (pos zero) = pos 0
truth_number z = pos 1

-- conversion to a kind: to `_Bool` 0 for 0, else 1 (C11 6.3.1.2), to any other modulo 2^bits (C11 6.3.1.3)
abbrev pub convert : (long_bits : ℕ) → Kind → ℤ → ℤ
convert long_bits kind.Bool z = truth_number z
convert long_bits k z = wrapped (kind_bits long_bits k) (is_signed k) z

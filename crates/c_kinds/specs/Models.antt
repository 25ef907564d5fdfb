-- The two data models, and what the kinds hold in them (C11 5.2.4.2.1, 6.2.5, 6.2.6.2).
use Rattle.std.specs.Prelude.{ℕ, Bool, ◌&&◌, ℤ, int_le}
use Rattle.wp_base.specs.declared.kinds.Kind.{Kind}
use Rattle.wp_base.specs.declared.kinds.Kind.TheVariants as kind
use Rattle.wp_base.specs.Kinds as base
use Rattle.c_kinds.specs.declared.models.Machdep.{Machdep}
use Rattle.c_kinds.specs.declared.models.Machdep.TheVariants as model
use Rattle.c_kinds.specs.declared.models.Range.{Range}

-- how many bits `long` has; all other kinds are of one width in both models
abbrev pub long_bits : Machdep → ℕ
long_bits model.X86_32 = 32
long_bits model.X86_64 = 64

-- the kind of `sizeof`, and that of the difference of two pointers (C11 7.19)
abbrev pub size_kind : Machdep → Kind
size_kind model.X86_32 = kind.UInt
size_kind model.X86_64 = kind.ULong

abbrev pub difference_kind : Machdep → Kind
difference_kind model.X86_32 = kind.Int
difference_kind model.X86_64 = kind.Long

abbrev pub low : Machdep → Kind → ℤ
low m k = base.kind_low (long_bits m) k

abbrev pub high : Machdep → Kind → ℤ
high m k = base.kind_high (long_bits m) k

abbrev pub range_of : Machdep → Kind → Range
range_of m k = record { low = low m k; high = high m k }

-- the number is one of the kind
abbrev pub holds : Machdep → Kind → ℤ → Bool
holds m k z = int_le (low m k) z && int_le z (high m k)

-- the kind that a number is converted to holds the result; `_Bool` gives 0 or 1, and any other kind the number that is the same
-- modulo 2^bits (C11 6.3.1.2, 6.3.1.3; for signed kinds this project's choice)
abbrev pub convert : Machdep → Kind → ℤ → ℤ
convert m k z = base.convert (long_bits m) k z

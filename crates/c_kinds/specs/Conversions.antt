-- Promotion and the usual arithmetic conversions (C11 6.3.1.1, 6.3.1.8).
use Rattle.std.specs.Prelude.{ℕ, nat_le, nat_lt, Bool, true, false, ◌&&◌, if◌then◌else◌, int_le}
use Rattle.wp_base.specs.declared.kinds.Kind.{Kind}
use Rattle.wp_base.specs.declared.kinds.Kind.TheVariants as kind
use Rattle.wp_base.specs.Kinds.{is_signed}
use Rattle.c_kinds.specs.declared.models.Machdep.{Machdep}
use Rattle.c_kinds.specs.Models.{low, high}

-- the rank of a kind (6.3.1.1p1)
abbrev pub rank : Kind → ℕ
rank kind.Bool = 0
rank kind.Char = 1
rank kind.SChar = 1
rank kind.UChar = 1
rank kind.Short = 2
rank kind.UShort = 2
rank kind.Int = 3
rank kind.UInt = 3
rank kind.Long = 4
rank kind.ULong = 4
rank kind.LLong = 5
rank kind.ULLong = 5

-- A kind of a rank below that of `int` becomes `int`, which holds all its numbers in both models (6.3.1.1p2).
abbrev pub promote : Kind → Kind
promote k = if nat_lt (rank k) (rank kind.Int) then kind.Int else k

-- the unsigned kind that corresponds to a signed one (6.2.5p6)
abbrev pub unsigned_of : Kind → Kind
unsigned_of kind.Int = kind.UInt
unsigned_of kind.Long = kind.ULong
unsigned_of kind.LLong = kind.ULLong
unsigned_of k = k

-- each number of the second kind is one of the first
abbrev pub holds_all : Machdep → Kind → Kind → Bool
holds_all m k l = int_le (low m k) (low m l) && int_le (high m l) (high m k)

-- the one of greater rank
abbrev pub of_rank : Kind → Kind → Kind
of_rank k l = if nat_lt (rank k) (rank l) then l else k

-- The unsigned kind where its rank isn't below that of the signed one; else the signed kind where it holds all of the other's numbers; else the
-- unsigned kind that corresponds to the signed one.
abbrev pub of_both : Machdep → (signed unsigned : Kind) → Kind
of_both m s u = if nat_le (rank s) (rank u) then u else if holds_all m s u then s else unsigned_of s

abbrev pub by_signs : Machdep → Kind → Kind → (first second : Bool) → Kind
by_signs m k l true true = of_rank k l
by_signs m k l false false = of_rank k l
by_signs m k l true false = of_both m k l
by_signs m k l false true = of_both m l k

abbrev pub of_promoted : Machdep → Kind → Kind → Kind
of_promoted m k l = by_signs m k l (is_signed k) (is_signed l)

-- the common kind of two operands: both are promoted, and then the first rule that fits (6.3.1.8p1)
abbrev pub common : Machdep → Kind → Kind → Kind
common m k l = of_promoted m (promote k) (promote l)

-- What is so of the operators on numbers, in other words than those of their definitions.
use Rattle.std.specs.Prelude.{◌≡◌, ℕ, ◌+◌, ◌%◌, ◌^◌, ◌<◌, min, max, Bool, true, false, ◌&&◌, if◌then◌else◌, Option, Some, None, IsSome, ℤ, pos, negsuc, ◌+ℤ◌, ◌-ℤ◌, ◌*ℤ◌, ◌≤ℤ◌, ◌<ℤ◌, int_le, unsigned_abs}
use Rattle.std.specs.Int.{bit_at}
use Rattle.wp_base.specs.declared.kinds.Kind.{Kind}
use Rattle.wp_base.specs.declared.kinds.Kind.TheVariants as kind
use Rattle.wp_base.specs.Kinds.{is_signed}
use Rattle.c_kinds.specs.declared.models.Machdep.{Machdep}
use Rattle.c_kinds.specs.Models.{high, holds}
use Rattle.c_kinds.specs.Numbers as n
use Rattle.c_kinds.specs.Laws.{IsCongruent}

-- ---- every result is of the kind

abbrev pub IsOfKind : Machdep → Kind → Option ℤ → Type 0
IsOfKind m k None = Unit {0}
IsOfKind m k (Some z) = holds m k z ≡ true

pub record AreOfKind (m : Machdep) (k : Kind) (y z : ℤ) : Type 0 where
  pub sums : IsOfKind m k (n.sum m k y z)
  pub differences : IsOfKind m k (n.difference m k y z)
  pub products : IsOfKind m k (n.product m k y z)
  pub quotients : IsOfKind m k (n.quotient m k y z)
  pub remainders : IsOfKind m k (n.remainder m k y z)
  pub opposites : IsOfKind m k (n.negated m k y)
  pub shifts_left : IsOfKind m k (n.left_shift m k y z)
  pub shifts_right : IsOfKind m k (n.right_shift m k y z)
  pub ands : IsOfKind m k (n.and_bits m k y z)
  pub xors : IsOfKind m k (n.xor_bits m k y z)
  pub ors : IsOfKind m k (n.or_bits m k y z)
  pub complements : IsOfKind m k (n.complement m k y)

abbrev pub ResultsAreOfKind : Type 0
ResultsAreOfKind = (m : Machdep) (k : Kind) (y z : ℤ) → AreOfKind m k y z

-- ---- sums, differences, products, opposites and shifts to the left stand for exact numbers

-- The exact number itself wherever the kind holds it. A signed kind has no other result (C11 6.5p5); an unsigned one always has a result, which is the
-- same modulo 2^bits (C11 6.2.5p9). No operand is of kind `_Bool`, as it is promoted.
pub record StandsFor (m : Machdep) (k : Kind) (ready : Bool) (exact : ℤ) (given : Option ℤ) : Type 0 where
  pub exact_where_held : ready ≡ true → holds m k exact ≡ true → given ≡ Some exact
  pub no_other : is_signed k ≡ true → (r : ℤ) → given ≡ Some r → r ≡ exact
  pub always : is_signed k ≡ false → ready ≡ true → IsSome given
  pub congruent : (k ≡ kind.Bool → ⊥) → (r : ℤ) → given ≡ Some r → IsCongruent (n.bits m k) r exact

pub record AreExact (m : Machdep) (k : Kind) (y z : ℤ) : Type 0 where
  pub sums : StandsFor m k (n.both_held m k y z) (y +ℤ z) (n.sum m k y z)
  pub differences : StandsFor m k (n.both_held m k y z) (y -ℤ z) (n.difference m k y z)
  pub products : StandsFor m k (n.both_held m k y z) (y *ℤ z) (n.product m k y z)
  pub opposites : StandsFor m k (holds m k y) (pos 0 -ℤ y) (n.negated m k y)
  pub shifts : StandsFor m k (n.can_shift m k y z && int_le (pos 0) y) (y *ℤ pos (2 ^ unsigned_abs z)) (n.left_shift m k y z)

abbrev pub ResultsAreExact : Type 0
ResultsAreExact = (m : Machdep) (k : Kind) (y z : ℤ) → AreExact m k y z

-- ---- quotients and shifts to the right

-- The quotient times the divisor, and what remains, is the dividend; what remains is nearer to 0 than the divisor (C11 6.5.5p6).
pub record Divides (y z q r : ℤ) : Type 0 where
  pub whole : ((q *ℤ z) +ℤ r) ≡ y
  pub less : unsigned_abs r < unsigned_abs z

abbrev pub QuotientsDivide : Type 0
QuotientsDivide = (m : Machdep) (k : Kind) (y z q r : ℤ) → n.quotient m k y z ≡ Some q → n.remainder m k y z ≡ Some r → Divides y z q r

-- the greatest number of which so many times two is no more
pub record RoundsDown (y : ℤ) (count : ℕ) (r : ℤ) : Type 0 where
  pub no_more : (r *ℤ pos (2 ^ count)) ≤ℤ y
  pub greatest : y <ℤ ((r +ℤ pos 1) *ℤ pos (2 ^ count))

abbrev pub ShiftsRoundDown : Type 0
ShiftsRoundDown = (m : Machdep) (k : Kind) (y z r : ℤ) → n.right_shift m k y z ≡ Some r → RoundsDown y (unsigned_abs z) r

-- ---- bits

-- the bit of weight 2^i
abbrev pub bit : Machdep → Kind → ℤ → (i : ℕ) → ℕ
bit m k z i = bit_at (n.bits_of m k z) i

-- A number is the one of its kind with its bits; `&`, `^` and `|` act on each bit by itself (C11 6.5.10p4, 6.5.11p4, 6.5.12p4); the complement of a number
-- is the greatest number less this one under an unsigned kind (C11 6.5.3.3p4), and -1 less this one in two's complement.
pub record ActsOnBits (m : Machdep) (k : Kind) (y z : ℤ) : Type 0 where
  pub own_bits : holds m k z ≡ true → n.with_bits m k (n.bits_of m k z) ≡ z
  pub ands : (r : ℤ) → n.and_bits m k y z ≡ Some r → (i : ℕ) → bit m k r i ≡ min (bit m k y i) (bit m k z i)
  pub xors : (r : ℤ) → n.xor_bits m k y z ≡ Some r → (i : ℕ) → bit m k r i ≡ (bit m k y i + bit m k z i) % 2
  pub ors : (r : ℤ) → n.or_bits m k y z ≡ Some r → (i : ℕ) → bit m k r i ≡ max (bit m k y i) (bit m k z i)
  pub complements : (r : ℤ) → n.complement m k z ≡ Some r → (z +ℤ r) ≡ (if is_signed k then negsuc 0 else high m k)

abbrev pub OperatorsActOnBits : Type 0
OperatorsActOnBits = (m : Machdep) (k : Kind) (y z : ℤ) → (k ≡ kind.Bool → ⊥) → ActsOnBits m k y z

-- What operators give (C11 6.5.3.3, 6.5.5 to 6.5.14), or the undefined behaviour that they meet.
use Rattle.std.specs.Prelude.{ℕ, suc, ◌-◌, ◌^◌, Bool, true, false, not, ◌&&◌, if◌then◌else◌, ℤ, pos, negsuc, ◌+ℤ◌, ◌-ℤ◌, ◌*ℤ◌, int_le, int_lt, int_div, int_rem, neg_ℤ, unsigned_abs, List, [], ◌∷◌, Option, Some, None}
use Rattle.wp_base.specs.declared.kinds.Kind.{Kind}
use Rattle.wp_base.specs.declared.kinds.Kind.TheVariants as kind
use Rattle.wp_base.specs.Kinds.{is_signed, floor_div}
use Rattle.wp_base.specs.Blocks.{Table, is_live, len, to_nat}
use Rattle.c_kinds.specs.declared.models.Machdep.{Machdep}
use Rattle.c_kinds.specs.Models.{low, high, holds, convert}
use Rattle.c_kinds.specs.Numbers.{reduced, bits, bits_of, with_bits}
use Rattle.std.specs.Int.Bits.{bit_and, bit_or, bit_xor}
use Rattle.typed_prog.specs.declared.operators.Arithmetic.{Arithmetic}
use Rattle.typed_prog.specs.declared.operators.Arithmetic.TheVariants as ar
use Rattle.typed_prog.specs.declared.operators.Comparison.{Comparison}
use Rattle.typed_prog.specs.declared.operators.Comparison.TheVariants as cmp
use Rattle.c_runs.specs.TruthTold.{is_zero, is_equal, quotient}
use Rattle.c_runs.specs.TruthStates.{Value, number, pointer, block_of, offset_of, number_of}
use Rattle.c_runs.specs.Truth.{compare, compare_pointers, moved, moved_by}
use Rattle.c_runs.specs.States.{is_nonzero}

-- undefined behaviour, by its kind (C11 J.2)
pub data Undefined : Type 0 where
  -- a variable is read before it was set
  init : Undefined
  overflow : Undefined
  divzero : Undefined
  shift : Undefined
  -- what a pointer leads to is no cell of the kind, or may not be written
  access : Undefined
  -- an index lies outside of its array
  index : Undefined
  -- a pointer is made that leads neither into its object nor right behind it
  pointing : Undefined
  -- pointers into two objects are subtracted or put in order
  comparing : Undefined
  -- a function with a result ends without one
  noreturn : Undefined

-- a value, or the undefined behaviour that is met first, and its line
pub data Val : Type 0 where
  is : (v : Value) → Val
  wrong : (u : Undefined) (line : ℕ) → Val

abbrev pub then_val : Val → (Value → Val) → Val
then_val (is v) go = go v
then_val (wrong u l) go = wrong u l

-- a check and what follows it
abbrev pub where_true : Bool → Undefined → (line : ℕ) → Val → Val
where_true true u l v = v
where_true false u l v = wrong u l

abbrev pub truth_number : Bool → Value
truth_number true = number (pos 1)
truth_number false = number (pos 0)

-- ---- integers

-- what a kind makes of the exact result: an unsigned one takes it modulo its count of numbers (C11 6.2.5p9)
abbrev pub within : Machdep → Kind → ℤ → ℤ
within m k z = if is_signed k then z else reduced m k z

-- a signed kind has to hold the exact result (C11 6.5p5)
abbrev pub fits : Machdep → Kind → ℤ → Bool
fits m k z = if is_signed k then holds m k z else true

abbrev pub shifted_by : ℤ → ℕ
shifted_by b = 2 ^ to_nat b

-- at least 0 and less than the kind has bits (C11 6.5.7p3)
abbrev pub may_shift : Machdep → Kind → ℤ → Bool
may_shift m k b = int_le (pos 0) b && int_lt b (pos (bits m k))

-- a negative number isn't shifted to the left, nor one whose result the kind doesn't hold (C11 6.5.7p4)
abbrev pub may_shift_left : Machdep → Kind → ℤ → ℤ → Bool
may_shift_left m k a b = if is_signed k then int_le (pos 0) a && int_le (a *ℤ pos (shifted_by b)) (high m k) else true

-- the least number of a signed kind has no quotient by -1, and so no remainder (C11 6.5.5p6)
abbrev pub may_divide : Machdep → Kind → ℤ → ℤ → Bool
may_divide m k a b = if is_signed k then not (is_equal a (low m k) && is_equal b (negsuc 0)) else true

abbrev pub with_both_bits : Machdep → Kind → (ℕ → ℕ → ℕ) → ℤ → ℤ → ℤ
with_both_bits m k f a b = with_bits m k (f (bits_of m k a) (bits_of m k b))

-- the result of an operator on two integers of a kind, whatever its checks say
abbrev pub arithmetic : Machdep → Kind → Arithmetic → ℤ → ℤ → ℤ
arithmetic m k ar.Mul a b = within m k (a *ℤ b)
arithmetic m k ar.Div a b = int_div a b
arithmetic m k ar.Rem a b = int_rem a b
arithmetic m k ar.Add a b = within m k (a +ℤ b)
arithmetic m k ar.Sub a b = within m k (a -ℤ b)
arithmetic m k ar.Shl a b = within m k (a *ℤ pos (shifted_by b))
arithmetic m k ar.Shr a b = floor_div a (shifted_by b)
arithmetic m k ar.And a b = with_both_bits m k bit_and a b
arithmetic m k ar.Xor a b = with_both_bits m k bit_xor a b
arithmetic m k ar.Or a b = with_both_bits m k bit_or a b

-- the same, behind its checks
abbrev pub computed : Machdep → Kind → (line : ℕ) → Arithmetic → ℤ → ℤ → Val
computed m k l ar.Mul a b = where_true (fits m k (a *ℤ b)) overflow l (is (number (arithmetic m k ar.Mul a b)))
computed m k l ar.Div a b =
    where_true (not (is_zero b)) divzero l (where_true (may_divide m k a b) overflow l (is (number (arithmetic m k ar.Div a b))))
computed m k l ar.Rem a b =
    where_true (not (is_zero b)) divzero l (where_true (may_divide m k a b) overflow l (is (number (arithmetic m k ar.Rem a b))))
computed m k l ar.Add a b = where_true (fits m k (a +ℤ b)) overflow l (is (number (arithmetic m k ar.Add a b)))
computed m k l ar.Sub a b = where_true (fits m k (a -ℤ b)) overflow l (is (number (arithmetic m k ar.Sub a b)))
computed m k l ar.Shl a b =
    where_true (may_shift m k b) shift l (where_true (may_shift_left m k a b) overflow l (is (number (arithmetic m k ar.Shl a b))))
computed m k l ar.Shr a b = where_true (may_shift m k b) shift l (is (number (arithmetic m k ar.Shr a b)))
computed m k l o a b = is (number (arithmetic m k o a b))

abbrev pub negated : Machdep → Kind → (line : ℕ) → ℤ → Val
negated m k l a = where_true (fits m k (neg_ℤ a)) overflow l (is (number (within m k (neg_ℤ a))))

-- each bit is the other one
abbrev pub complement : Machdep → Kind → ℤ → ℤ
complement m k a = with_bits m k ((2 ^ bits m k - 1) - bits_of m k a)

-- ---- pointers

-- a pointer leads to a live block, at most right behind its last cell (C11 6.5.6p8)
abbrev pub may_point : Table → Value → Bool
may_point t v = is_live t (block_of v) && int_le (pos 0) (offset_of v) && int_le (offset_of v) (len t (block_of v))

abbrev pub pointed : Table → (line : ℕ) → Value → Val
pointed t l v = where_true (may_point t v) pointing l (is v)

-- one that is followed at once is checked there
abbrev pub pointed_unless : (accessed : Bool) → Table → (line : ℕ) → Value → Val
pointed_unless true t l v = is v
pointed_unless false t l v = pointed t l v

-- both lead into one live object, or right behind it (C11 6.5.6p9, 6.5.8p5)
abbrev pub may_compare : Table → Value → Value → Bool
may_compare t v w = is_equal (block_of v) (block_of w) && (may_point t v && may_point t w)

-- equality asks nothing
abbrev pub is_order : Comparison → Bool
is_order cmp.Equal = false
is_order cmp.NotEqual = false
is_order c = true

abbrev pub compared : Table → (line : ℕ) → Comparison → Value → Value → Val
compared t l c v w = where_true (if is_order c then may_compare t v w else true) comparing l (is (truth_number (compare_pointers c v w)))

-- how many elements of this size lie between two pointers
abbrev pub difference : (size : ℕ) → Value → Value → Value
difference size v w = number (quotient (offset_of v -ℤ offset_of w) (pos size))

abbrev pub subtracted : Table → (line size : ℕ) → Value → Value → Val
subtracted t l size v w = where_true (may_compare t v w) comparing l (is (difference size v w))

-- Small programs on integers of several kinds, each with what its runs come to by C11 in the model with a `long` of 64 bits, worked out by hand.
use Rattle.std.specs.Prelude.{◌≡◌, ℕ, true, ℤ, pos, negsuc, [], ◌∷◌, Some}
use Rattle.wp_base.specs.declared.kinds.Kind.{Kind}
use Rattle.wp_base.specs.declared.kinds.Kind.TheVariants as kind
use Rattle.wp_base.specs.declared.kinds.CellKind.TheVariants as cell
use Rattle.typed_prog.specs.declared.operators.Arithmetic.{Arithmetic}
use Rattle.typed_prog.specs.declared.operators.Arithmetic.TheVariants as ar
use Rattle.typed_prog.specs.declared.operators.Change.TheVariants as change
use Rattle.typed_prog.specs.declared.operators.Comparison.TheVariants as cmp
use Rattle.typed_prog.specs.declared.operators.Effect.TheVariants as effect
use Rattle.typed_prog.specs.declared.operators.Op.{Op}
use Rattle.typed_prog.specs.declared.operators.Op.TheVariants as op
use Rattle.typed_prog.specs.declared.operators.UpdateForm.{UpdateForm}
use Rattle.typed_prog.specs.declared.operators.UpdateForm.TheVariants as form
use Rattle.typed_prog.specs.Types.{of_kind}
use Rattle.typed_prog.specs.Tree.{Value, typed, constant, apply, effect as effect_, values_of}
use Rattle.c_runs.specs.Program.{evaluate, return_of, Variable, Stmts, Program}
use Rattle.c_runs.specs.Operators.{overflow, divzero, shift}
use Rattle.test_runs.specs.Forms.{local, test, function_of, file_of, outcome, Shown, returned, went_wrong}

-- ---- values and variables of a kind

abbrev pub of : Kind → ℤ → Value
of k z = typed (constant z) (of_kind k) 1

abbrev pub held : Kind → (variable line : ℕ) → Value
held k x l = typed (apply (op.Read (local x l)) (values_of [])) (of_kind k) l

abbrev pub one_of : Kind → Variable
one_of k = record { layout = record { count = 1; cells = cell.Of k ∷ []; writable = true }; is_plain = true; has_value = true }

abbrev pub by_one : Op → Kind → Value → Value
by_one o k a = typed (apply o (values_of (a ∷ []))) (of_kind k) 4

abbrev pub to : Kind → Value → Value
to k a = by_one op.Convert k a

-- ---- `k f(k x, k y) { return x o y; }`, both operands of a kind that isn't promoted, or the second one of a shift an `int` (C11 6.5.5 to 6.5.12)

abbrev pub two : Kind → Arithmetic → Program Stmts
two k o = file_of [] (function_of 2 (one_of k ∷ one_of k ∷ []) (
    return_of (Some (typed (apply (op.Arithmetic o) (values_of (held k 0 4 ∷ held k 1 4 ∷ []))) (of_kind k) 4)) ∷ []) ∷ [])

abbrev pub on : Kind → Arithmetic → ℤ → ℤ → Shown
on k o a b = outcome (two k o) (a ∷ b ∷ []) 1 []

-- unsigned kinds take the result modulo 2^32 (C11 6.2.5p9); a signed one has to hold it (C11 6.5p5); `long` has 64 bits
pub record Wraps : Type 0 where
  pub sum : on kind.UInt ar.Add (pos 4294967295) (pos 1) ≡ returned (pos 0) 0
  pub difference : on kind.UInt ar.Sub (pos 0) (pos 1) ≡ returned (pos 4294967295) 0
  pub product : on kind.UInt ar.Mul (pos 65536) (pos 65536) ≡ returned (pos 0) 0
  pub lost_bit : on kind.UInt ar.Shl (pos 2147483649) (pos 1) ≡ returned (pos 2) 0
  pub last_bit : on kind.UInt ar.Shl (pos 1) (pos 31) ≡ returned (pos 2147483648) 0
  pub zero : on kind.UInt ar.Rem (pos 1) (pos 0) ≡ went_wrong divzero 4
  pub below : on kind.Int ar.Sub (negsuc 2147483647) (pos 1) ≡ went_wrong overflow 4
  pub least : on kind.Int ar.Sub (negsuc 2147483646) (pos 1) ≡ returned (negsuc 2147483647) 0
  pub longer : on kind.Long ar.Add (pos 2147483647) (pos 1) ≡ returned (pos 2147483648) 0
  pub longest : on kind.LLong ar.Add (pos 9223372036854775807) (pos 1) ≡ went_wrong overflow 4

-- C11 6.5.7p3, p4: the amount is looked at first
pub record Shifts : Type 0 where
  pub sign_bit : on kind.Int ar.Shl (pos 1) (pos 31) ≡ went_wrong overflow 4
  pub highest : on kind.Int ar.Shl (pos 1) (pos 30) ≡ returned (pos 1073741824) 0
  pub nothing : on kind.Int ar.Shl (pos 0) (pos 31) ≡ returned (pos 0) 0
  pub backwards : on kind.Int ar.Shl (negsuc 0) (negsuc 0) ≡ went_wrong shift 4
  pub right_backwards : on kind.Int ar.Shr (pos 1) (negsuc 0) ≡ went_wrong shift 4
  pub far : on kind.UInt ar.Shr (pos 1) (pos 32) ≡ went_wrong shift 4
  pub wide : on kind.ULong ar.Shr (pos 8589934592) (pos 32) ≡ returned (pos 2) 0

-- on two's complement (C11 6.2.6.2, 6.5.10 to 6.5.12)
pub record Bits : Type 0 where
  pub and_negative : on kind.Int ar.And (negsuc 3) (pos 6) ≡ returned (pos 4) 0
  pub xor_negative : on kind.Int ar.Xor (negsuc 0) (pos 5) ≡ returned (negsuc 5) 0
  pub or_negative : on kind.Int ar.Or (negsuc 7) (pos 3) ≡ returned (negsuc 4) 0
  pub unsigned : on kind.UInt ar.Xor (pos 4294967295) (pos 1) ≡ returned (pos 4294967294) 0

-- ---- `-x` and `~x` (C11 6.5.3.3)

abbrev pub one : Kind → Op → ℤ → Shown
one k o a = outcome (file_of [] (function_of 1 (one_of k ∷ []) (return_of (Some (by_one o k (held k 0 4))) ∷ []) ∷ [])) (a ∷ []) 1 []

pub record Turns : Type 0 where
  pub negative : one kind.Int op.Negate (pos 5) ≡ returned (negsuc 4) 0
  pub no_opposite : one kind.Int op.Negate (negsuc 2147483647) ≡ went_wrong overflow 4
  pub unsigned : one kind.UInt op.Negate (pos 1) ≡ returned (pos 4294967295) 0
  pub bits : one kind.Int op.Complement (pos 0) ≡ returned (negsuc 0) 0
  pub unsigned_bits : one kind.UInt op.Complement (pos 1) ≡ returned (pos 4294967294) 0

-- ---- a conversion to a kind (C11 6.3.1.2, 6.3.1.3; to signed kinds modulo 2^N)

abbrev pub made : Kind → ℤ → Shown
made k a = outcome (file_of [] (function_of 1 (one_of kind.LLong ∷ []) (return_of (Some (to k (held kind.LLong 0 4))) ∷ []) ∷ [])) (a ∷ []) 1 []

-- `-1 < 0u` and `-1 < 0`: both operands have one kind (C11 6.3.1.8)
abbrev pub is_below : Kind → Shown
is_below k = outcome (file_of [] (function_of 1 (one_of kind.Int ∷ []) (
    return_of (Some (test cmp.Less 4 (to k (held kind.Int 0 4)) (of k (pos 0)))) ∷ []) ∷ [])) (negsuc 0 ∷ []) 1 []

pub record Converts : Type 0 where
  pub true_ : made kind.Bool (pos 256) ≡ returned (pos 1) 0
  pub negative_true : made kind.Bool (negsuc 0) ≡ returned (pos 1) 0
  pub false_ : made kind.Bool (pos 0) ≡ returned (pos 0) 0
  pub char : made kind.Char (pos 200) ≡ returned (negsuc 55) 0
  pub unsigned_char : made kind.UChar (negsuc 0) ≡ returned (pos 255) 0
  pub short : made kind.Short (pos 32768) ≡ returned (negsuc 32767) 0
  pub unsigned_short : made kind.UShort (pos 65537) ≡ returned (pos 1) 0
  pub int_ : made kind.Int (pos 4294967295) ≡ returned (negsuc 0) 0
  pub unsigned_int : made kind.UInt (negsuc 0) ≡ returned (pos 4294967295) 0
  pub unsigned_test : is_below kind.UInt ≡ returned (pos 0) 0
  pub signed_test : is_below kind.Int ≡ returned (pos 1) 0

-- ---- `k x; x o= y; return x;` with y of kind j, in which it is computed too (C11 6.5.16.2p3); and `return x++;`, `return ++x;`

abbrev pub changed : Kind → Arithmetic → UpdateForm → Kind → ℤ → Value
changed k o f j b = typed (effect_ (effect.Update (local 0 4) (change.Integer o j) f) (values_of (of j b ∷ []))) (of_kind k) 4

abbrev pub updates : Kind → Arithmetic → Kind → ℤ → ℤ → Shown
updates k o j a b = outcome (file_of [] (function_of 1 (one_of k ∷ []) (
    evaluate (changed k o form.Compound j b) ∷ return_of (Some (held k 0 5)) ∷ []) ∷ [])) (a ∷ []) 1 []

abbrev pub gives : Kind → UpdateForm → ℤ → Shown
gives k f a = outcome (file_of [] (function_of 1 (one_of k ∷ []) (return_of (Some (changed k ar.Add f kind.Int (pos 1))) ∷ []) ∷ [])) (a ∷ []) 1 []

-- what is of a kind below `int` is computed as an `int`, and then becomes one of its own kind
pub record Updates : Type 0 where
  pub past : updates kind.UChar ar.Add kind.Int (pos 255) (pos 1) ≡ returned (pos 0) 0
  pub under : updates kind.UChar ar.Sub kind.Int (pos 0) (pos 1) ≡ returned (pos 255) 0
  pub signed_past : updates kind.SChar ar.Add kind.Int (pos 100) (pos 100) ≡ returned (negsuc 55) 0
  pub stays_true : updates kind.Bool ar.Add kind.Int (pos 1) (pos 1) ≡ returned (pos 1) 0
  pub below_false : updates kind.Bool ar.Sub kind.Int (pos 0) (pos 1) ≡ returned (pos 1) 0
  pub int_past : updates kind.Int ar.Add kind.Int (pos 2147483647) (pos 1) ≡ went_wrong overflow 4
  pub squared : updates kind.UShort ar.Mul kind.Int (pos 65535) (pos 65535) ≡ went_wrong overflow 4
  pub shifted : updates kind.UChar ar.Shl kind.Int (pos 200) (pos 4) ≡ returned (pos 128) 0
  pub halved : updates kind.Int ar.Shr kind.Int (negsuc 6) (pos 1) ≡ returned (negsuc 3) 0
  pub as_unsigned : updates kind.Int ar.Div kind.UInt (negsuc 0) (pos 2) ≡ returned (pos 2147483647) 0
  pub old : gives kind.UChar form.Postfix (pos 255) ≡ returned (pos 255) 0
  pub new_ : gives kind.UChar form.Prefix (pos 255) ≡ returned (pos 0) 0

pub record OnKinds : Type 0 where
  pub wraps : Wraps
  pub shifts : Shifts
  pub bits : Bits
  pub turns : Turns
  pub converts : Converts
  pub updates : Updates

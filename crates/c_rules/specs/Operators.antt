-- The operators on values: what they make of their operands, or the fault at their line (C11 6.5.3.3, 6.5.5 to 6.5.15). The operands have been typed.
use Rattle.std.specs.Prelude.{ℕ, ℤ, Bool, true, false, ◌&&◌, ◌||◌, if◌then◌else◌, List, Option, Some, None, Ok, Err}
use Rattle.std.specs.Option.{is_some}
use Rattle.wp_base.specs.declared.kinds.Kind.{Kind}
use Rattle.wp_base.specs.declared.kinds.Kind.TheVariants as kind
use Rattle.c_syntax.specs.declared.expr.UnOp.TheVariants as un
use Rattle.c_syntax.specs.declared.expr.BinOp.{BinOp}
use Rattle.c_syntax.specs.declared.expr.BinOp.TheVariants as bin
use Rattle.c_kinds.specs.declared.models.Machdep.{Machdep}
use Rattle.c_kinds.specs.Conversions.{common}
use Rattle.c_machine.specs.declared.rules.Constant.{Constant}
use Rattle.c_machine.specs.Constants.{value_in}
use Rattle.c_machine.specs.Rules.{chosen}
use Rattle.c_answers.specs.Answers.{Answer, wrong, after}
use Rattle.typed_prog.specs.declared.types.CoreType.{CoreType}
use Rattle.typed_prog.specs.declared.operators.Arithmetic.{Arithmetic}
use Rattle.typed_prog.specs.declared.operators.Arithmetic.TheVariants as ar
use Rattle.typed_prog.specs.declared.operators.Comparison.{Comparison}
use Rattle.typed_prog.specs.declared.operators.Comparison.TheVariants as cmp
use Rattle.typed_prog.specs.declared.operators.Connective.{Connective}
use Rattle.typed_prog.specs.declared.operators.Connective.TheVariants as con
use Rattle.typed_prog.specs.declared.operators.Op.TheVariants as op
use Rattle.typed_prog.specs.Types.{of_kind, kind_of, is_pointer, is_void, void}
use Rattle.typed_prog.specs.Tree as t
use Rattle.c_operands.specs.Operands.{Operand, value, Rvalue, valued}
use Rattle.c_operands.specs.Conversions.{kind_of_value, folded, converted, is_null}
use Rattle.c_rules.specs.Integers.{constant_in, known_of_one, known_of_two, promoted, plus, arithmetic, shift, compared}
use Rattle.c_rules.specs.Pointers.{stride, moved, are_alike, difference_of, ordered, equal, null_of, requalified, joint, not_constant}

-- ---- scalars: integers and pointers (6.2.5p21)

abbrev pub is_scalar : CoreType → Bool
is_scalar type = is_some (kind_of type) || is_pointer type

-- a value that is compared with 0 (6.5.3.3p5, 6.5.13 to 6.5.15, 6.8.4.1, 6.8.5)
abbrev pub scalar : (line : ℕ) → Rvalue → Answer Rvalue
scalar line v = if is_scalar (t.type_of v.value) then Ok v else wrong line

-- ---- one operand

-- `!` (6.5.3.3p5)
abbrev pub negation : Machdep → (line : ℕ) → Rvalue → Operand
negation m line v = folded kind.Int line (t.apply op.Not (t.more v.value t.stop)) v.is_constant (known_of_one m un.Not (constant_in v))

unfoldable pub minus : Machdep → (line : ℕ) → Operand → Answer Operand
minus m line x = after (valued line x) (promoted m line op.Negate un.Minus)

unfoldable pub complement : Machdep → (line : ℕ) → Operand → Answer Operand
complement m line x = after (valued line x) (promoted m line op.Complement un.BitNot)

unfoldable pub unary_plus : Machdep → (line : ℕ) → Operand → Answer Operand
unary_plus m line x = after (valued line x) (plus m line)

unfoldable pub not_of : Machdep → (line : ℕ) → Operand → Answer Operand
not_of m line x = after (valued line x) (λ v. after (scalar line v) (λ w. Ok (negation m line w)))

-- ---- sums and differences (6.5.6)

abbrev pub offset_by : (line : ℕ) → (minus : Bool) → Rvalue → Rvalue → Option ℕ → Option Kind → Answer Operand
offset_by line minus v w (Some size) (Some k) = Ok (moved line minus false size (t.type_of v.value) v.value w.value)
offset_by line minus v w stride k = wrong line

abbrev pub offset : List ℕ → (line : ℕ) → (minus : Bool) → Rvalue → Rvalue → Answer Operand
offset sizes line minus v w = offset_by line minus v w (stride sizes (t.type_of v.value)) (kind_of_value w.value)

-- an integer first, and then a pointer
abbrev pub swapped_by : (line : ℕ) → Rvalue → Rvalue → Option Kind → Option ℕ → Answer Operand
swapped_by line v w (Some k) (Some size) = Ok (moved line false true size (t.type_of w.value) v.value w.value)
swapped_by line v w k stride = wrong line

abbrev pub swapped : List ℕ → (line : ℕ) → Rvalue → Rvalue → Answer Operand
swapped sizes line v w = swapped_by line v w (kind_of_value v.value) (stride sizes (t.type_of w.value))

-- by whether the operands are pointers
abbrev pub sum_by : Machdep → List ℕ → (line : ℕ) → Rvalue → Rvalue → (first second : Bool) → Answer Operand
sum_by m sizes line v w true second = offset sizes line false v w
sum_by m sizes line v w false true = swapped sizes line v w
sum_by m sizes line v w false false = arithmetic m line ar.Add bin.Add v w

unfoldable pub sum : Machdep → List ℕ → (line : ℕ) → Rvalue → Rvalue → Answer Operand
sum m sizes line v w = sum_by m sizes line v w (is_pointer (t.type_of v.value)) (is_pointer (t.type_of w.value))

abbrev pub apart_by : Machdep → (line : ℕ) → Rvalue → Rvalue → (alike : Bool) → Option ℕ → Answer Operand
apart_by m line v w true (Some size) = Ok (difference_of m line size v.value w.value)
apart_by m line v w alike size = wrong line

abbrev pub apart : Machdep → List ℕ → (line : ℕ) → Rvalue → Rvalue → Answer Operand
apart m sizes line v w = apart_by m line v w (are_alike (t.type_of v.value) (t.type_of w.value)) (stride sizes (t.type_of v.value))

abbrev pub difference_by : Machdep → List ℕ → (line : ℕ) → Rvalue → Rvalue → (first second : Bool) → Answer Operand
difference_by m sizes line v w true true = apart m sizes line v w
difference_by m sizes line v w true false = offset sizes line true v w
difference_by m sizes line v w false second = arithmetic m line ar.Sub bin.Sub v w

unfoldable pub difference : Machdep → List ℕ → (line : ℕ) → Rvalue → Rvalue → Answer Operand
difference m sizes line v w = difference_by m sizes line v w (is_pointer (t.type_of v.value)) (is_pointer (t.type_of w.value))

-- ---- comparisons (6.5.8, 6.5.9)

abbrev pub order_by : Machdep → (line : ℕ) → Comparison → BinOp → Rvalue → Rvalue → Option Kind → Option Kind → Answer Operand
order_by m line how o v w (Some j) (Some k) = Ok (compared m line how o v w j k)
order_by m line how o v w j k = ordered line how v.value w.value

unfoldable pub order : Machdep → (line : ℕ) → Comparison → BinOp → Rvalue → Rvalue → Answer Operand
order m line how o v w = order_by m line how o v w (kind_of_value v.value) (kind_of_value w.value)

abbrev pub equality_by : Machdep → (line : ℕ) → Comparison → BinOp → Rvalue → Rvalue → Option Kind → Option Kind → Answer Operand
equality_by m line how o v w (Some j) (Some k) = Ok (compared m line how o v w j k)
equality_by m line how o v w j k = equal line how v.value w.value

unfoldable pub equality : Machdep → (line : ℕ) → Comparison → BinOp → Rvalue → Rvalue → Answer Operand
equality m line how o v w = equality_by m line how o v w (kind_of_value v.value) (kind_of_value w.value)

-- ---- `&&` and `||` (6.5.13, 6.5.14)

abbrev pub connected : Machdep → (line : ℕ) → Connective → BinOp → Rvalue → Rvalue → Operand
connected m line how o v w =
    folded kind.Int line (t.logic how v.value w.value) (v.is_constant && w.is_constant) (known_of_two m o (constant_in v) (constant_in w))

unfoldable pub logic : Machdep → (line : ℕ) → Connective → BinOp → Rvalue → Rvalue → Answer Operand
logic m line how o v w = after (scalar line v) (λ x. after (scalar line w) (λ y. Ok (connected m line how o x y)))

-- ---- all operators of two operands

abbrev pub binary_values : Machdep → List ℕ → (line : ℕ) → BinOp → Rvalue → Rvalue → Answer Operand
binary_values m sizes line bin.Mul v w = arithmetic m line ar.Mul bin.Mul v w
binary_values m sizes line bin.Div v w = arithmetic m line ar.Div bin.Div v w
binary_values m sizes line bin.Rem v w = arithmetic m line ar.Rem bin.Rem v w
binary_values m sizes line bin.Add v w = sum m sizes line v w
binary_values m sizes line bin.Sub v w = difference m sizes line v w
binary_values m sizes line bin.Shl v w = shift m line ar.Shl bin.Shl v w
binary_values m sizes line bin.Shr v w = shift m line ar.Shr bin.Shr v w
binary_values m sizes line bin.Less v w = order m line cmp.Less bin.Less v w
binary_values m sizes line bin.AtMost v w = order m line cmp.AtMost bin.AtMost v w
binary_values m sizes line bin.Greater v w = order m line cmp.Greater bin.Greater v w
binary_values m sizes line bin.AtLeast v w = order m line cmp.AtLeast bin.AtLeast v w
binary_values m sizes line bin.Equal v w = equality m line cmp.Equal bin.Equal v w
binary_values m sizes line bin.NotEqual v w = equality m line cmp.NotEqual bin.NotEqual v w
binary_values m sizes line bin.BitAnd v w = arithmetic m line ar.And bin.BitAnd v w
binary_values m sizes line bin.BitXor v w = arithmetic m line ar.Xor bin.BitXor v w
binary_values m sizes line bin.BitOr v w = arithmetic m line ar.Or bin.BitOr v w
binary_values m sizes line bin.And v w = logic m line con.And bin.And v w
binary_values m sizes line bin.Or v w = logic m line con.Or bin.Or v w

unfoldable pub binary : Machdep → List ℕ → (line : ℕ) → BinOp → Operand → Operand → Answer Operand
binary m sizes line o x y = after (valued line x) (λ v. after (valued line y) (binary_values m sizes line o v))

-- ---- `?:` (6.5.15)

abbrev pub known_of_three : Machdep → Option Constant → Option Constant → Option Constant → Option ℤ
known_of_three m (Some c) (Some d) (Some e) = value_in (chosen m c d e)
known_of_three m c d e = None

abbrev pub integer_arms : Machdep → (line : ℕ) → Rvalue → Rvalue → Rvalue → Kind → Operand
integer_arms m line test v w k =
    folded k line (t.choose test.value (converted m k v.value) (converted m k w.value))
    (test.is_constant && v.is_constant && w.is_constant) (known_of_three m (constant_in test) (constant_in v) (constant_in w))

abbrev pub arms : (line : ℕ) → CoreType → Rvalue → (first second : t.Value) → Operand
arms line type test v w = not_constant (t.typed (t.choose test.value v w) type line)

abbrev pub pointer_arms : (line : ℕ) → Rvalue → t.Value → t.Value → Operand
pointer_arms line test v w =
    arms line (joint (t.type_of v) (t.type_of w)) test (requalified (joint (t.type_of v) (t.type_of w)) v) (requalified (joint (t.type_of v) (t.type_of w)) w)

-- pointers to one type, or null beside a pointer, or two that have no value
abbrev pub other_arms_by : (line : ℕ) → Rvalue → t.Value → t.Value → (alike second_null first_null both_void : Bool) → Answer Operand
other_arms_by line test v w true n n' e = Ok (pointer_arms line test v w)
other_arms_by line test v w false true n' e = Ok (arms line (t.type_of v) test v (null_of (t.type_of v) w))
other_arms_by line test v w false false true e = Ok (arms line (t.type_of w) test (null_of (t.type_of w) v) w)
other_arms_by line test v w false false false true = Ok (arms line void test v w)
other_arms_by line test v w false false false false = wrong line

abbrev pub other_arms : (line : ℕ) → Rvalue → t.Value → t.Value → Answer Operand
other_arms line test v w =
    other_arms_by line test v w (are_alike (t.type_of v) (t.type_of w)) (is_pointer (t.type_of v) && is_null w) (is_null v && is_pointer (t.type_of w))
    (is_void (t.type_of v) && is_void (t.type_of w))

abbrev pub arms_by : Machdep → (line : ℕ) → Rvalue → Rvalue → Rvalue → Option Kind → Option Kind → Answer Operand
arms_by m line test v w (Some j) (Some k) = Ok (integer_arms m line test v w (common m j k))
arms_by m line test v w j k = other_arms line test v.value w.value

abbrev pub arms_of : Machdep → (line : ℕ) → Rvalue → Rvalue → Rvalue → Answer Operand
arms_of m line test v w = arms_by m line test v w (kind_of_value v.value) (kind_of_value w.value)

unfoldable pub conditional_values : Machdep → (line : ℕ) → Rvalue → Rvalue → Rvalue → Answer Operand
conditional_values m line test v w = after (scalar line test) (λ b. arms_of m line b v w)

unfoldable pub conditional : Machdep → (line : ℕ) → Operand → Operand → Operand → Answer Operand
conditional m line test x y = after (valued line test) (λ b. after (valued line x) (λ v. after (valued line y) (conditional_values m line b v)))

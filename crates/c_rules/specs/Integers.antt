-- What operators make of integers (C11 6.5.3.3, 6.5.5 to 6.5.14). The result of integer constant expressions is one, and is folded where it has a value.
use Rattle.std.specs.Prelude.{ℕ, ℤ, Bool, true, false, ◌&&◌, if◌then◌else◌, List, Option, Some, None, Ok, Err}
use Rattle.std.specs.Option.{option_map, option_and_then}
use Rattle.wp_base.specs.declared.kinds.Kind.{Kind}
use Rattle.wp_base.specs.declared.kinds.Kind.TheVariants as kind
use Rattle.c_syntax.specs.declared.expr.UnOp.{UnOp}
use Rattle.c_syntax.specs.declared.expr.BinOp.{BinOp}
use Rattle.c_kinds.specs.declared.models.Machdep.{Machdep}
use Rattle.c_kinds.specs.Conversions.{promote, common}
use Rattle.c_machine.specs.declared.rules.Constant.{Constant}
use Rattle.c_machine.specs.Constants.{value_in}
use Rattle.c_machine.specs.Rules.{constant, unary_of, binary_of}
use Rattle.c_answers.specs.Answers.{Answer, wrong}
use Rattle.typed_prog.specs.declared.operators.Arithmetic.{Arithmetic}
use Rattle.typed_prog.specs.declared.operators.Comparison.{Comparison}
use Rattle.typed_prog.specs.declared.operators.Op.{Op}
use Rattle.typed_prog.specs.declared.operators.Op.TheVariants as op
use Rattle.typed_prog.specs.Tree as t
use Rattle.c_operands.specs.Operands.{Operand, value, Rvalue}
use Rattle.c_operands.specs.Conversions.{number_of, kind_of_value, folded, converted}

-- ---- what is known of constants

-- an operand as a constant, where it is an integer constant expression
abbrev pub constant_by : (is_constant : Bool) → Option Kind → Option ℤ → Option Constant
constant_by true (Some k) n = Some (constant k n)
constant_by is_constant found n = None

abbrev pub constant_in : Rvalue → Option Constant
constant_in v = constant_by v.is_constant (kind_of_value v.value) (number_of v.value)

abbrev pub known_of_one : Machdep → UnOp → Option Constant → Option ℤ
known_of_one m o (Some c) = option_and_then value_in (unary_of m o c)
known_of_one m o None = None

abbrev pub known_of_two : Machdep → BinOp → Option Constant → Option Constant → Option ℤ
known_of_two m o (Some c) (Some d) = value_in (binary_of m o c d)
known_of_two m o c d = None

-- ---- one operand

-- the operand is converted to this kind, which is that of the result
abbrev pub of_one : Machdep → (line : ℕ) → Op → UnOp → Kind → Rvalue → Operand
of_one m line o how k v = folded k line (t.apply o (t.more (converted m k v.value) t.stop)) v.is_constant (known_of_one m how (constant_in v))

-- `-` and `~`: the operand is promoted (6.5.3.3p3, p4)
abbrev pub promoted_by : Machdep → (line : ℕ) → Op → UnOp → Rvalue → Option Kind → Answer Operand
promoted_by m line o how v (Some k) = Ok (of_one m line o how (promote k) v)
promoted_by m line o how v None = wrong line

abbrev pub promoted : Machdep → (line : ℕ) → Op → UnOp → Rvalue → Answer Operand
promoted m line o how v = promoted_by m line o how v (kind_of_value v.value)

-- unary `+`: the promoted operand itself (6.5.3.3p2)
abbrev pub plus_by : Machdep → (line : ℕ) → Rvalue → Option Kind → Answer Operand
plus_by m line v (Some k) = Ok (value (converted m (promote k) v.value) v.is_constant)
plus_by m line v None = wrong line

abbrev pub plus : Machdep → (line : ℕ) → Rvalue → Answer Operand
plus m line v = plus_by m line v (kind_of_value v.value)

-- ---- two operands

-- the operands are converted to these kinds, and the result is of the first
abbrev pub of_two : Machdep → (line : ℕ) → Op → BinOp → (result left right : Kind) → Rvalue → Rvalue → Operand
of_two m line o how k j l v w =
    folded k line (t.apply o (t.more (converted m j v.value) (t.more (converted m l w.value) t.stop))) (v.is_constant && w.is_constant)
    (known_of_two m how (constant_in v) (constant_in w))

-- arithmetic in the common kind (6.5.5, 6.5.6, 6.5.10 to 6.5.12)
abbrev pub arithmetic_by : Machdep → (line : ℕ) → Arithmetic → BinOp → Rvalue → Rvalue → Option Kind → Option Kind → Answer Operand
arithmetic_by m line o how v w (Some j) (Some k) = Ok (of_two m line (op.Arithmetic o) how (common m j k) (common m j k) (common m j k) v w)
arithmetic_by m line o how v w j k = wrong line

abbrev pub arithmetic : Machdep → (line : ℕ) → Arithmetic → BinOp → Rvalue → Rvalue → Answer Operand
arithmetic m line o how v w = arithmetic_by m line o how v w (kind_of_value v.value) (kind_of_value w.value)

-- a shift is of the promoted kind of its left operand (6.5.7)
abbrev pub shift_by : Machdep → (line : ℕ) → Arithmetic → BinOp → Rvalue → Rvalue → Option Kind → Option Kind → Answer Operand
shift_by m line o how v w (Some j) (Some k) = Ok (of_two m line (op.Arithmetic o) how (promote j) (promote j) (promote k) v w)
shift_by m line o how v w j k = wrong line

abbrev pub shift : Machdep → (line : ℕ) → Arithmetic → BinOp → Rvalue → Rvalue → Answer Operand
shift m line o how v w = shift_by m line o how v w (kind_of_value v.value) (kind_of_value w.value)

-- a comparison in the common kind gives an `int` (6.5.8, 6.5.9)
abbrev pub compared : Machdep → (line : ℕ) → Comparison → BinOp → Rvalue → Rvalue → (j k : Kind) → Operand
compared m line o how v w j k = of_two m line (op.Compare o) how kind.Int (common m j k) (common m j k) v w

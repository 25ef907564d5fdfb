-- Full expressions (C11 6.8p4) as their contexts want them, and integer constant expressions (6.6p6). The faults inside come first, then the fault of the
-- type that is wanted, and last that the expression has several results; the line is that of the expression, but where another one is said.
use Rattle.std.specs.Prelude.{ℕ, ℤ, Bool, true, false, if◌then◌else◌, Option, Some, None, Ok, Err}
use Rattle.wp_base.specs.declared.answers.Rule.TheVariants as rule
use Rattle.wp_base.specs.declared.kinds.Kind.{Kind}
use Rattle.c_syntax.specs.Expr as e
use Rattle.c_syntax.specs.Lines.{line_of}
use Rattle.c_kinds.specs.declared.models.Machdep.{Machdep}
use Rattle.c_kinds.specs.Models.{convert}
use Rattle.c_kinds.specs.Conversions.{promote}
use Rattle.c_answers.specs.Answers.{Answer, after, fault, wrong}
use Rattle.typed_prog.specs.declared.types.CoreType.{CoreType}
use Rattle.typed_prog.specs.Tree as t
use Rattle.c_operands.specs.Operands.{Operand, object, value, Rvalue, valued}
use Rattle.c_operands.specs.Conversions.{assignable, converted, kind_of_value, number_of}
use Rattle.c_rules.specs.Operators.{scalar}
use Rattle.c_exprs.specs.Typing.{Around, typed}
use Rattle.c_sequence.specs.Sequence.{Plain, sequenced}

-- a full expression that has one result in every order
unfoldable pub in_sequence : Plain → (line : ℕ) → t.Value → Answer t.Value
in_sequence plain line v = if sequenced plain v then Ok v else Err (fault rule.Unsequenced line)

-- the value of an expression, for a context on this line
abbrev pub value_for : Around → (line : ℕ) → e.Expr → Answer Rvalue
value_for c line a = after (typed c a) (valued line)

-- ---- conditions of `if`, `while`, `do` and `for` (6.8.4.1p1, 6.8.5p2): scalars

abbrev pub condition_of : Plain → (line : ℕ) → Rvalue → Answer t.Value
condition_of plain line v = after (scalar line v) (λ w. in_sequence plain line w.value)

unfoldable pub condition : Around → Plain → e.Expr → Answer t.Value
condition c plain a = after (value_for c (line_of a) a) (condition_of plain (line_of a))

-- ---- expression statements (6.8.3p2), and the steps of `for`

abbrev pub statement_of : Plain → (line : ℕ) → Rvalue → Answer t.Value
statement_of plain line v = in_sequence plain line v.value

unfoldable pub statement : Around → Plain → e.Expr → Answer t.Value
statement c plain a = after (value_for c (line_of a) a) (statement_of plain (line_of a))

-- ---- initialisers (6.7.9p11) and returned values (6.8.6.4p3), converted as by assignment

abbrev pub assigned_of : Machdep → Plain → (line at : ℕ) → CoreType → Rvalue → Answer t.Value
assigned_of m plain line at type v = after (assignable m at type v.value) (in_sequence plain line)

unfoldable pub initialiser : Around → Plain → CoreType → e.Expr → Answer t.Value
initialiser c plain type a = after (value_for c (line_of a) a) (assigned_of c.model plain (line_of a) (line_of a) type)

-- a returned value has the wrong type at the `return`
unfoldable pub returned : Around → Plain → (at : ℕ) → CoreType → e.Expr → Answer t.Value
returned c plain at type a = after (value_for c at a) (assigned_of c.model plain (line_of a) at type)

-- ---- operands of `switch` (6.8.4.2p5): integers, promoted

abbrev pub switched_by : Machdep → Plain → (line : ℕ) → Rvalue → Option Kind → Answer t.Value
switched_by m plain line v (Some k) = in_sequence plain line (converted m (promote k) v.value)
switched_by m plain line v None = wrong line

abbrev pub switched_of : Machdep → Plain → (line : ℕ) → Rvalue → Answer t.Value
switched_of m plain line v = switched_by m plain line v (kind_of_value v.value)

unfoldable pub switched : Around → Plain → e.Expr → Answer t.Value
switched c plain a = after (value_for c (line_of a) a) (switched_of c.model plain (line_of a))

-- ---- integer constant expressions with a value: lengths of arrays, enumerators, numbers of `case` (6.6p3)

abbrev pub number_by : (line : ℕ) → (is_constant : Bool) → Option ℤ → Answer ℤ
number_by line true (Some z) = Ok z
number_by line is_constant known = wrong line

abbrev pub number_in : (line : ℕ) → Operand → Answer ℤ
number_in line (value v is_constant) = number_by line is_constant (number_of v)
number_in line (object p is_const) = wrong line

unfoldable pub constant_number : Around → e.Expr → Answer ℤ
constant_number c a = after (typed c a) (number_in (line_of a))

-- as a number of the promoted kind of the operand of `switch` (6.8.4.2p5)
unfoldable pub case_number : Around → Kind → e.Expr → Answer ℤ
case_number c k a = after (constant_number c a) (λ z. Ok (convert c.model k z))

-- Assignments and increments (C11 6.5.2.4, 6.5.3.1, 6.5.16). The operands have been typed.
use Rattle.std.specs.Prelude.{ℕ, pos, Bool, true, false, if◌then◌else◌, List, [], ◌∷◌, Option, Some, None, Ok, Err}
use Rattle.wp_base.specs.declared.kinds.Kind.{Kind}
use Rattle.wp_base.specs.declared.kinds.Kind.TheVariants as kind
use Rattle.c_syntax.specs.declared.expr.BinOp.{BinOp}
use Rattle.c_syntax.specs.declared.expr.BinOp.TheVariants as bin
use Rattle.c_kinds.specs.declared.models.Machdep.{Machdep}
use Rattle.c_kinds.specs.Conversions.{promote, common}
use Rattle.c_answers.specs.Answers.{Answer, wrong, after}
use Rattle.typed_prog.specs.declared.types.CoreType.{CoreType}
use Rattle.typed_prog.specs.declared.operators.Arithmetic.{Arithmetic}
use Rattle.typed_prog.specs.declared.operators.Arithmetic.TheVariants as ar
use Rattle.typed_prog.specs.declared.operators.Change.{Change}
use Rattle.typed_prog.specs.declared.operators.Change.TheVariants as change
use Rattle.typed_prog.specs.declared.operators.Effect.{Effect}
use Rattle.typed_prog.specs.declared.operators.Effect.TheVariants as effect
use Rattle.typed_prog.specs.declared.operators.UpdateForm.{UpdateForm}
use Rattle.typed_prog.specs.declared.operators.UpdateForm.TheVariants as form
use Rattle.typed_prog.specs.Types.{kind_of}
use Rattle.typed_prog.specs.Tree as t
use Rattle.c_operands.specs.Operands.{Operand, object, value, Place, Rvalue, valued}
use Rattle.c_operands.specs.Conversions.{number, converted, kind_of_value, assignable}
use Rattle.c_rules.specs.Pointers.{stride}
use Rattle.c_rules.specs.Operators.{is_scalar}

-- an effect on an object, whose value has the object's type (6.5.16p3)
abbrev pub changed_by : Effect → List t.Value → CoreType → t.Value → (line : ℕ) → Operand
changed_by does operands type v line = value (t.typed (t.effect does (t.values_of (v ∷ operands))) type line) false

abbrev pub changed : Effect → Place → t.Value → (line : ℕ) → Operand
changed does p v line = changed_by does p.operands p.type v line

-- ---- which objects may be changed (6.3.2.1p1, 6.5.16p2)

-- none that is constant, and no array or struct
abbrev pub modifiable_by : (line : ℕ) → Place → (is_const is_scalar : Bool) → Answer Place
modifiable_by line p false true = Ok p
modifiable_by line p is_const scalar = wrong line

unfoldable pub modifiable : (line : ℕ) → Operand → Answer Place
modifiable line (object p is_const) = modifiable_by line p is_const (is_scalar p.type)
modifiable line (value v is_constant) = wrong line

-- ---- `=` (6.5.16.1)

abbrev pub assigned_value : Machdep → (line : ℕ) → Place → Rvalue → Answer Operand
assigned_value m line p v = after (assignable m line p.type v.value) (λ w. Ok (changed (effect.Assign p.path) p w line))

unfoldable pub assigned : Machdep → (line : ℕ) → Operand → Operand → Answer Operand
assigned m line x y = after (modifiable line x) (λ p. after (valued line y) (assigned_value m line p))

-- ---- the compound assignments (6.5.16.2)

abbrev pub arithmetic_of : BinOp → Option Arithmetic
arithmetic_of bin.Mul = Some ar.Mul
arithmetic_of bin.Div = Some ar.Div
arithmetic_of bin.Rem = Some ar.Rem
arithmetic_of bin.Add = Some ar.Add
arithmetic_of bin.Sub = Some ar.Sub
arithmetic_of bin.Shl = Some ar.Shl
arithmetic_of bin.Shr = Some ar.Shr
arithmetic_of bin.BitAnd = Some ar.And
arithmetic_of bin.BitXor = Some ar.Xor
arithmetic_of bin.BitOr = Some ar.Or
arithmetic_of bin.Less = None
arithmetic_of bin.AtMost = None
arithmetic_of bin.Greater = None
arithmetic_of bin.AtLeast = None
arithmetic_of bin.Equal = None
arithmetic_of bin.NotEqual = None
arithmetic_of bin.And = None
arithmetic_of bin.Or = None

abbrev pub is_shift : Arithmetic → Bool
is_shift ar.Shl = true
is_shift ar.Shr = true
is_shift ar.Mul = false
is_shift ar.Div = false
is_shift ar.Rem = false
is_shift ar.Add = false
is_shift ar.Sub = false
is_shift ar.And = false
is_shift ar.Xor = false
is_shift ar.Or = false

-- In which kind the new value is computed, and of which kind the second operand is: for a shift the promoted kinds of each, else the common kind.
abbrev pub computed_in : Machdep → (shift : Bool) → (j k : Kind) → Kind
computed_in m true j k = promote j
computed_in m false j k = common m j k

abbrev pub operand_in : Machdep → (shift : Bool) → (j k : Kind) → Kind
operand_in m true j k = promote k
operand_in m false j k = common m j k

abbrev pub integer_update : Machdep → (line : ℕ) → Arithmetic → UpdateForm → Place → t.Value → (j k : Kind) → Operand
integer_update m line o how p v j k =
    changed (effect.Update p.path (change.Integer o (computed_in m (is_shift o) j k)) how) p (converted m (operand_in m (is_shift o) j k) v) line

-- `+=` and `-=` move a pointer
abbrev pub moves : Arithmetic → Option Bool
moves ar.Add = Some false
moves ar.Sub = Some true
moves ar.Mul = None
moves ar.Div = None
moves ar.Rem = None
moves ar.Shl = None
moves ar.Shr = None
moves ar.And = None
moves ar.Xor = None
moves ar.Or = None

abbrev pub pointer_update_by : (line : ℕ) → UpdateForm → Place → t.Value → (minus : Option Bool) → (size : Option ℕ) → Answer Operand
pointer_update_by line how p v (Some minus) (Some size) = Ok (changed (effect.Update p.path (change.Pointer minus size) how) p v line)
pointer_update_by line how p v minus size = wrong line

abbrev pub pointer_update : List ℕ → (line : ℕ) → Arithmetic → UpdateForm → Place → t.Value → Answer Operand
pointer_update sizes line o how p v = pointer_update_by line how p v (moves o) (stride sizes p.type)

abbrev pub updated_by : Machdep → List ℕ → (line : ℕ) → Arithmetic → UpdateForm → Place → t.Value → (of second : Option Kind) → Answer Operand
updated_by m sizes line o how p v (Some j) (Some k) = Ok (integer_update m line o how p v j k)
updated_by m sizes line o how p v None (Some k) = pointer_update sizes line o how p v
updated_by m sizes line o how p v j None = wrong line

unfoldable pub updated : Machdep → List ℕ → (line : ℕ) → Arithmetic → UpdateForm → Place → t.Value → Answer Operand
updated m sizes line o how p v = updated_by m sizes line o how p v (kind_of p.type) (kind_of_value v)

abbrev pub compound_by : Machdep → List ℕ → (line : ℕ) → Option Arithmetic → Place → Rvalue → Answer Operand
compound_by m sizes line (Some o) p v = updated m sizes line o form.Compound p v.value
compound_by m sizes line None p v = wrong line

unfoldable pub compound : Machdep → List ℕ → (line : ℕ) → BinOp → Operand → Operand → Answer Operand
compound m sizes line o x y = after (modifiable line x) (λ p. after (valued line y) (compound_by m sizes line (arithmetic_of o) p))

-- ---- `++` and `--` (6.5.2.4, 6.5.3.1), which add or take off the `int` 1

abbrev pub step_operator : (up : Bool) → Arithmetic
step_operator true = ar.Add
step_operator false = ar.Sub

abbrev pub step_form : (prefix : Bool) → UpdateForm
step_form true = form.Prefix
step_form false = form.Postfix

unfoldable pub stepped : Machdep → List ℕ → (line : ℕ) → (up prefix : Bool) → Operand → Answer Operand
stepped m sizes line up prefix x = after (modifiable line x) (λ p. updated m sizes line (step_operator up) (step_form prefix) p (number kind.Int (pos 1) line))

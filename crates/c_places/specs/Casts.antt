-- Casts and `sizeof` (C11 6.5.3.4, 6.5.4). The operand has been typed, and the type looked up.
use Rattle.std.specs.Prelude.{ℕ, ℤ, Bool, true, false, List, [], ◌∷◌, Option, Some, None, Ok, Err}
use Rattle.wp_base.specs.declared.kinds.Kind.{Kind}
use Rattle.c_kinds.specs.declared.models.Machdep.{Machdep}
use Rattle.c_machine.specs.declared.rules.Constant.{Constant}
use Rattle.c_machine.specs.Constants.{value_in}
use Rattle.c_machine.specs.Rules.{cast_to}
use Rattle.c_answers.specs.Answers.{Answer, wrong, after}
use Rattle.typed_prog.specs.declared.types.CoreType.{CoreType}
use Rattle.typed_prog.specs.declared.operators.Op.TheVariants as op
use Rattle.typed_prog.specs.Types.{kind_of, is_pointer, is_void}
use Rattle.typed_prog.specs.Tree as t
use Rattle.c_operands.specs.Operands.{Operand, value, Rvalue, valued, applied}
use Rattle.c_operands.specs.Conversions.{kind_of_value, folded, is_zero, number_of}
use Rattle.c_rules.specs.Integers.{constant_in}

abbrev pub known_by : Machdep → Kind → Option Constant → Option ℤ
known_by m k (Some c) = value_in (cast_to m k c)
known_by m k None = None

-- to an integer kind, of an integer
abbrev pub to_kind_by : Machdep → (line : ℕ) → Kind → Rvalue → Option Kind → Answer Operand
to_kind_by m line k v (Some j) = Ok (folded k line (t.apply op.Cast (t.more v.value t.stop)) v.is_constant (known_by m k (constant_in v)))
to_kind_by m line k v None = wrong line

abbrev pub to_kind : Machdep → (line : ℕ) → Kind → Rvalue → Answer Operand
to_kind m line k v = to_kind_by m line k v (kind_of_value v.value)

-- to a pointer, of the constant 0 alone (this verifier's choice: other casts of pointers are left out)
abbrev pub to_pointer_by : (line : ℕ) → CoreType → (is_zero : Bool) → Answer Operand
to_pointer_by line type true = Ok (value (t.typed t.null type line) false)
to_pointer_by line type false = wrong line

-- to `void`, of any value (6.3.2.2)
abbrev pub to_void : (line : ℕ) → CoreType → Rvalue → Operand
to_void line type v = value (applied op.Cast (v.value ∷ []) type line) false

abbrev pub cast_by : Machdep → (line : ℕ) → CoreType → Rvalue → Option Kind → (is_pointer is_void : Bool) → Answer Operand
cast_by m line type v (Some k) p e = to_kind m line k v
cast_by m line type v None true e = to_pointer_by line type (is_zero (number_of v.value))
cast_by m line type v None false true = Ok (to_void line type v)
cast_by m line type v None false false = wrong line

abbrev pub cast_value : Machdep → (line : ℕ) → CoreType → Rvalue → Answer Operand
cast_value m line type v = cast_by m line type v (kind_of type) (is_pointer type) (is_void type)

unfoldable pub cast : Machdep → (line : ℕ) → CoreType → Operand → Answer Operand
cast m line type x = after (valued line x) (cast_value m line type)

-- Constants, and conversions of values by their context (C11 6.3.1, 6.3.2.3, 6.5.16.1).
use Rattle.std.specs.Prelude.{ℕ, ℤ, pos, Bool, true, false, ◌&&◌, ◌||◌, if◌then◌else◌, List, [], ◌∷◌, Option, Some, None, Ok, Err}
use Rattle.std.specs.Ordering.{int_eq}
use denote.Enum.Bare.{sameb}
use Rattle.wp_base.specs.contracts.kinds.Kind.{the_type}
use Rattle.wp_base.specs.declared.kinds.Kind.{Kind}
use Rattle.wp_base.specs.declared.kinds.Kind.TheVariants as kind
use Rattle.c_kinds.specs.declared.models.Machdep.{Machdep}
use Rattle.c_kinds.specs.Models.{convert}
use Rattle.c_kinds.specs.Conversions.{promote, common}
use Rattle.c_answers.specs.Answers.{Answer, wrong}
use Rattle.typed_prog.specs.declared.types.Base.{Base}
use Rattle.typed_prog.specs.declared.types.Base.TheVariants as base
use Rattle.typed_prog.specs.declared.types.CoreType.{CoreType}
use Rattle.typed_prog.specs.declared.operators.Op.{Op}
use Rattle.typed_prog.specs.declared.operators.Op.TheVariants as op
use Rattle.typed_prog.specs.Types.{of_kind, kind_of, is_pointer, with_const_target, same_type}
use Rattle.typed_prog.specs.Tree as t
use Rattle.c_operands.specs.Operands.{Operand, value, Rvalue, applied}

-- ---- integer constants

-- an integer constant expression with this value
unfoldable pub number : Kind → ℤ → (line : ℕ) → t.Value
number k z line = t.typed (t.constant z) (of_kind k) line

abbrev pub number_at : t.ValueNode → Option ℤ
number_at (t.constant z) = Some z
number_at _ = None

-- the number that an expression is, where it is an integer constant expression with a value
abbrev pub number_of : t.Value → Option ℤ
number_of v = number_at (t.node_of v)

abbrev pub kind_of_value : t.Value → Option Kind
kind_of_value v = kind_of (t.type_of v)

-- What an operator makes: the number, where its operands are constant and its value is defined; else this node. An integer constant expression
-- without a defined value stays one, as it may stand where it isn't evaluated (6.6p3, p6).
unfoldable pub folded : Kind → (line : ℕ) → t.ValueNode → (is_constant : Bool) → Option ℤ → Operand
folded k line node is_constant (Some z) = value (number k z line) true
folded k line node is_constant None = value (t.typed node (of_kind k) line) is_constant

-- ---- conversions between kinds (6.3.1)

abbrev pub same_kind : Kind → Kind → Bool
same_kind j k = sameb the_type j k

abbrev pub is_of_kind : Kind → Option Kind → Bool
is_of_kind k None = false
is_of_kind k (Some j) = same_kind j k

abbrev pub converted_by : Machdep → Kind → t.Value → Option ℤ → (same : Bool) → t.Value
converted_by m k v (Some z) same = number k (convert m k z) (t.line_of v)
converted_by m k v None true = v
converted_by m k v None false = applied op.Convert (v ∷ []) (of_kind k) (t.line_of v)

-- an integer as one of this kind; a number is converted at once
unfoldable pub converted : Machdep → Kind → t.Value → t.Value
converted m k v = converted_by m k v (number_of v) (is_of_kind k (kind_of_value v))

-- ---- null (6.3.2.3p3)

abbrev pub is_zero : Option ℤ → Bool
is_zero None = false
is_zero (Some z) = int_eq z (pos 0)

abbrev pub is_untyped_null : t.ValueNode → (is_void_pointer : Bool) → Bool
is_untyped_null t.null is_void_pointer = is_void_pointer
is_untyped_null _ is_void_pointer = false

abbrev pub points_to_void : Base → List Bool → Option ℕ → Bool
points_to_void base.Void (false ∷ []) None = true
points_to_void _ _ _ = false

-- a null pointer constant: an integer constant expression of value 0, or one cast to `void *`
abbrev pub is_null : t.Value → Bool
is_null v = is_zero (number_of v) || is_untyped_null (t.node_of v) (points_to_void (t.type_of v).base (t.type_of v).stars (t.type_of v).count)

-- ---- conversion to the type of an object, as by assignment (6.5.16.1)

-- the second is the first once what it points to is constant
abbrev pub is_with_const : CoreType → CoreType → Bool
is_with_const type of = is_pointer of && same_type (with_const_target of) type

-- a pointer of this type, or one that is this type once what it points to is constant
abbrev pub pointer_by : (line : ℕ) → CoreType → t.Value → (same with_const : Bool) → Answer t.Value
pointer_by line type v true with_const = Ok v
pointer_by line type v false true = Ok (applied op.Requalify (v ∷ []) type (t.line_of v))
pointer_by line type v false false = wrong line

unfoldable pub pointer_for : (line : ℕ) → CoreType → t.Value → Answer t.Value
pointer_for line type v =
    if is_null v then Ok (t.typed t.null type (t.line_of v))
    else pointer_by line type v (same_type (t.type_of v) type) (is_with_const type (t.type_of v))

abbrev pub integer_for : Machdep → (line : ℕ) → Kind → t.Value → Option Kind → Answer t.Value
integer_for m line k v None = wrong line
integer_for m line k v (Some j) = Ok (converted m k v)

abbrev pub assignable_by : Machdep → (line : ℕ) → CoreType → t.Value → (to : Option Kind) → (is_pointer : Bool) → Answer t.Value
assignable_by m line type v (Some k) p = integer_for m line k v (kind_of_value v)
assignable_by m line type v None true = pointer_for line type v
assignable_by m line type v None false = wrong line

-- A value for an object of this type: an integer for an integer, of whatever kind; for a pointer null, or a pointer to the same type that loses no
-- `const`. A fault stands on this line.
unfoldable pub assignable : Machdep → (line : ℕ) → CoreType → t.Value → Answer t.Value
assignable m line type v = assignable_by m line type v (kind_of type) (is_pointer type)

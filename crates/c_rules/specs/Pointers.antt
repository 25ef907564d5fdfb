-- What operators make of pointers (C11 6.5.6, 6.5.8, 6.5.9, 6.5.15).
use Rattle.std.specs.Prelude.{ℕ, Bool, true, false, ◌&&◌, if◌then◌else◌, List, [], ◌∷◌, Option, Some, None, Ok, Err, slice_index_or}
use Rattle.wp_base.specs.declared.kinds.Kind.{Kind}
use Rattle.wp_base.specs.declared.kinds.Kind.TheVariants as kind
use Rattle.c_kinds.specs.declared.models.Machdep.{Machdep}
use Rattle.c_kinds.specs.Models.{difference_kind}
use Rattle.c_answers.specs.Answers.{Answer, wrong}
use Rattle.typed_prog.specs.declared.types.Base.{Base}
use Rattle.typed_prog.specs.declared.types.Base.TheVariants as base
use Rattle.typed_prog.specs.declared.types.CoreType.{CoreType}
use Rattle.typed_prog.specs.declared.operators.Comparison.{Comparison}
use Rattle.typed_prog.specs.declared.operators.Op.{Op}
use Rattle.typed_prog.specs.declared.operators.Op.TheVariants as op
use Rattle.typed_prog.specs.Types.{of_kind, is_pointer, target_of, with_const_target, same_type}
use Rattle.typed_prog.specs.Tree as t
use Rattle.c_operands.specs.Operands.{Operand, value}
use Rattle.c_operands.specs.Conversions.{is_null}

-- ---- how many cells an object has

-- by the cells of each struct of the file; a scalar is one cell
abbrev pub cells_by : List ℕ → Base → List Bool → ℕ
cells_by sizes (base.Struct n) [] = slice_index_or sizes n 1
cells_by sizes root stars = 1

-- the cells of one element, where the type is an array, or else of the object
abbrev pub element_cells : List ℕ → CoreType → ℕ
element_cells sizes type = cells_by sizes type.base type.stars

-- ---- moving a pointer (6.5.6p8)

-- How many cells the elements have that a pointer can be moved over; none where it is no pointer to an object.
abbrev pub stride_by : List ℕ → Base → List Bool → Option ℕ → Option ℕ
stride_by sizes base.Void (is_const ∷ []) None = None
stride_by sizes root (is_const ∷ stars) None = Some (cells_by sizes root stars)
stride_by sizes root stars count = None

abbrev pub stride : List ℕ → CoreType → Option ℕ
stride sizes type = stride_by sizes type.base type.stars type.count

abbrev pub not_constant : t.Value → Operand
not_constant v = value v false

-- of the operands the pointer's type
abbrev pub moved_type : (index_first : Bool) → CoreType → CoreType → CoreType
moved_type true a b = b
moved_type false a b = a

abbrev pub moved : (line : ℕ) → (minus index_first : Bool) → (size : ℕ) → CoreType → (first second : t.Value) → Operand
moved line minus index_first size type v w = not_constant (t.typed (t.apply (op.Offset minus index_first size false) (t.more v (t.more w t.stop))) type line)

-- ---- two pointers

-- both point to objects of one type, constant or not (6.5.6p3, 6.5.8p2, 6.5.9p2)
abbrev pub are_alike : CoreType → CoreType → Bool
are_alike a b = is_pointer a && is_pointer b && same_type (with_const_target a) (with_const_target b)

-- the number of elements between two pointers (6.5.6p9)
abbrev pub difference_of : Machdep → (line : ℕ) → (size : ℕ) → t.Value → t.Value → Operand
difference_of m line size v w = not_constant (t.typed (t.apply (op.Difference size) (t.more v (t.more w t.stop))) (of_kind (difference_kind m)) line)

abbrev pub compared_pointers : (line : ℕ) → Comparison → t.Value → t.Value → Operand
compared_pointers line how v w = not_constant (t.typed (t.apply (op.ComparePointers how) (t.more v (t.more w t.stop))) (of_kind kind.Int) line)

-- an order of pointers, which has no null (6.5.8)
abbrev pub ordered : (line : ℕ) → Comparison → t.Value → t.Value → Answer Operand
ordered line how v w = if are_alike (t.type_of v) (t.type_of w) then Ok (compared_pointers line how v w) else wrong line

-- null as a pointer of this type
abbrev pub null_of : CoreType → t.Value → t.Value
null_of type v = t.typed t.null type (t.line_of v)

-- two pointers as they are compared or chosen: a null pointer constant becomes one of the other's type
abbrev pub equal_by : (line : ℕ) → Comparison → t.Value → t.Value → (alike second_null first_null : Bool) → Answer Operand
equal_by line how v w true n n' = Ok (compared_pointers line how v w)
equal_by line how v w false true n' = Ok (compared_pointers line how v (null_of (t.type_of v) w))
equal_by line how v w false false true = Ok (compared_pointers line how (null_of (t.type_of w) v) w)
equal_by line how v w false false false = wrong line

-- equality of pointers (6.5.9)
abbrev pub equal : (line : ℕ) → Comparison → t.Value → t.Value → Answer Operand
equal line how v w =
    equal_by line how v w (are_alike (t.type_of v) (t.type_of w)) (is_pointer (t.type_of v) && is_null w) (is_null v && is_pointer (t.type_of w))

-- a pointer as one of this type, which may only differ in that what it points to is constant
abbrev pub requalified_by : CoreType → t.Value → (same : Bool) → t.Value
requalified_by type v true = v
requalified_by type v false = t.typed (t.apply op.Requalify (t.more v t.stop)) type (t.line_of v)

abbrev pub requalified : CoreType → t.Value → t.Value
requalified type v = requalified_by type v (same_type (t.type_of v) type)

-- the type of both arms of `?:`: what either points to is constant (6.5.15p6)
abbrev pub joint_by : CoreType → (same : Bool) → CoreType
joint_by a true = a
joint_by a false = with_const_target a

abbrev pub joint : CoreType → CoreType → CoreType
joint a b = joint_by a (same_type a b)

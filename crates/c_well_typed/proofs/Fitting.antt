-- What is made, if it is made, fits: constants, conversions, and the values of operands.
use Rattle.std.proofs.Common.{◌≡◌, ℕ, ℤ, Bool, true, false, if◌then◌else◌, List, [], ◌∷◌, Option, Some, None, Ok, Err, ap, sym, ◌∙◌, refl, rules}
use denote.Enum.Bare.{same_true}
use Rattle.wp_base.specs.contracts.kinds.Kind.{the_type}
use Rattle.wp_base.specs.declared.kinds.Kind.{Kind}
use Rattle.c_kinds.specs.declared.models.Machdep.{Machdep}
use Rattle.c_answers.specs.Answers.{Answer, after}
use Rattle.typed_prog.specs.declared.types.Base.{Base}
use Rattle.typed_prog.specs.declared.types.Base.TheVariants as base
use Rattle.typed_prog.specs.declared.types.CoreType.{CoreType}
use Rattle.typed_prog.specs.declared.operators.Path.{Path}
use Rattle.typed_prog.specs.declared.operators.Op.{Op}
use Rattle.typed_prog.specs.declared.operators.Op.TheVariants as op
use Rattle.typed_prog.specs.Types.{type_with, of_kind, kind_of, is_pointer, with_const_target, same_type}
use Rattle.typed_prog.specs.Tree as t
use Rattle.c_operands.specs.Operands.{Operand, object, value, Rvalue, object_value, valued, followed, op_followed}
use Rattle.c_operands.specs.Conversions.{number, number_of, kind_of_value, folded, is_of_kind, same_kind, converted_by, converted, is_null, is_with_const, pointer_by, pointer_for, integer_for, assignable_by, assignable}
use Rattle.c_places.specs.Objects.{place}
use Rattle.c_exprs.specs.Typing.{Around}
use Rattle.c_well_typed.specs.Operators.{OpFits}
use Rattle.c_well_typed.specs.Paths.{object as object_of}
use Rattle.c_well_typed.specs.WellTyped.{NodeFits, ValueFits, OperandFits}
use Rattle.c_well_typed.proofs.Types.{left, right, is_same, type_is}

-- ---- answers

-- what is answered, if it is no fault, has this
abbrev pub Holds : {X : Type 0} → (X → Type 0) → Answer X → Type 0
Holds P (Ok x) = P x
Holds P (Err r) = Unit {0}

pub after_holds : {X Y : Type 0} (P : X → Type 0) (Q : Y → Type 0) (o : Answer X) (f : X → Answer Y) → Holds P o → ((x : X) → P x → Holds Q (f x))
    → Holds Q (after o f)
after_holds P Q (Ok x) f fits more = more x fits
after_holds P Q (Err r) f fits more = tt

pub after_any : {X Y : Type 0} (Q : Y → Type 0) (o : Answer X) (f : X → Answer Y) → ((x : X) → Holds Q (f x)) → Holds Q (after o f)
after_any Q (Ok x) f more = more x
after_any Q (Err r) f more = tt

abbrev pub Made : Around → Answer Operand → Type 0
Made c o = Holds (OperandFits c) o

abbrev pub RvalueFits : Around → Rvalue → Type 0
RvalueFits c v = ValueFits c v.value

-- ---- constants and conversions

pub number_fits : (c : Around) (k : Kind) (z : ℤ) (line : ℕ) → ValueFits c (number k z line) × (t.type_of (number k z line) ≡ of_kind k)
unfolding number
number_fits c k z line = ((k, refl), refl)

pub folded_fits : (c : Around) (k : Kind) (line : ℕ) (node : t.ValueNode) (is_constant : Bool) (z : Option ℤ) → NodeFits c node (of_kind k)
    → OperandFits c (folded k line node is_constant z)
unfolding folded
folded_fits c k line node is_constant (Some z) fits = (number_fits c k z line).0
folded_fits c k line node is_constant None fits = fits

converted_by_fits : (c : Around) (m : Machdep) (k j : Kind) (v : t.Value) (z : Option ℤ) (same : Bool) → ValueFits c v → kind_of_value v ≡ Some j
    → same_kind j k ≡ same
    → ValueFits c (converted_by m k v z same) × (t.type_of (converted_by m k v z same) ≡ of_kind k)
converted_by_fits c m k j v (Some z) same fits is h = number_fits c k _ (t.line_of v)
converted_by_fits c m k j v None true fits is h = (fits, type_is (t.type_of v) j is ∙ ap of_kind (same_true the_type (search rules) j k h))
converted_by_fits c m k j v None false fits is h = (((fits, tt), ((j, is), (k, refl))), refl)

-- a converted integer fits, and has the kind
pub converted_fits : (c : Around) (m : Machdep) (k j : Kind) (v : t.Value) → ValueFits c v → kind_of_value v ≡ Some j
    → ValueFits c (converted m k v) × (t.type_of (converted m k v) ≡ of_kind k)
unfolding converted
converted_fits c m k j v fits is = converted_by_fits c m k j v (number_of v) (is_of_kind k (kind_of_value v)) fits is (sym (ap (is_of_kind k) is))

-- ---- the value of an operand

object_value_fits : (c : Around) (line : ℕ) (p : Path) (operands : List t.Value) (is_const : Bool) (count : Option ℕ) (stars : List Bool) (b : Base)
    → OperandFits c (object (place p operands (type_with b stars count)) is_const)
    → Holds (RvalueFits c) (object_value line (place p operands (type_with b stars count)) is_const count stars b)
object_value_fits c line p operands is_const (Some n) stars b fits =
    (fits.0, record { to = object_of (type_with b stars (Some n)) is_const; reaches = fits.1; count = n; is_array = refl; same = refl })
object_value_fits c line p operands is_const None [] (base.Struct n) fits = tt
object_value_fits c line p operands is_const None [] base.Void fits =
    (fits.0, record { is_const = is_const; reaches = fits.1; no_array = refl; no_struct = refl })
object_value_fits c line p operands is_const None [] (base.Of k) fits =
    (fits.0, record { is_const = is_const; reaches = fits.1; no_array = refl; no_struct = refl })
object_value_fits c line p operands is_const None (star ∷ stars) base.Void fits =
    (fits.0, record { is_const = is_const; reaches = fits.1; no_array = refl; no_struct = refl })
object_value_fits c line p operands is_const None (star ∷ stars) (base.Of k) fits =
    (fits.0, record { is_const = is_const; reaches = fits.1; no_array = refl; no_struct = refl })
object_value_fits c line p operands is_const None (star ∷ stars) (base.Struct n) fits =
    (fits.0, record { is_const = is_const; reaches = fits.1; no_array = refl; no_struct = refl })

pub valued_fits : (c : Around) (line : ℕ) (x : Operand) → OperandFits c x → Holds (RvalueFits c) (valued line x)
unfolding valued
valued_fits c line (object p is_const) fits = object_value_fits c line p.path p.operands is_const p.type.count p.type.stars p.type.base fits
valued_fits c line (value v is_constant) fits = fits

-- ---- a note that a pointer is followed changes no type

op_followed_fits : (c : Around) (accessed : Bool) (o : Op) (types : List CoreType) (type : CoreType) → OpFits c o types type
    → OpFits c (op_followed accessed o) types type
op_followed_fits c accessed (op.Read p) types type fits = fits
op_followed_fits c accessed (op.Address p was) types type fits = fits
op_followed_fits c accessed (op.Decay p was) types type fits = fits
op_followed_fits c accessed op.Negate types type fits = fits
op_followed_fits c accessed op.Complement types type fits = fits
op_followed_fits c accessed op.Not types type fits = fits
op_followed_fits c accessed (op.Arithmetic o) types type fits = fits
op_followed_fits c accessed (op.Compare how) types type fits = fits
op_followed_fits c accessed (op.ComparePointers how) types type fits = fits
op_followed_fits c accessed (op.Offset minus index_first size was) types type fits = fits
op_followed_fits c accessed (op.Difference size) types type fits = fits
op_followed_fits c accessed op.Convert types type fits = fits
op_followed_fits c accessed op.Requalify types type fits = fits
op_followed_fits c accessed op.Cast types type fits = fits

pub followed_fits : (c : Around) (accessed : Bool) (v : t.Value) → ValueFits c v
    → ValueFits c (followed accessed v) × (t.type_of (followed accessed v) ≡ t.type_of v)
unfolding followed
followed_fits c accessed (t.typed (t.constant z) type line) fits = (fits, refl)
followed_fits c accessed (t.typed t.null type line) fits = (fits, refl)
followed_fits c accessed (t.typed (t.temporary n) type line) fits = (fits, refl)
followed_fits c accessed (t.typed (t.apply o operands) type line) fits = ((fits.0, op_followed_fits c accessed o _ type fits.1), refl)
followed_fits c accessed (t.typed (t.logic how a b) type line) fits = (fits, refl)
followed_fits c accessed (t.typed (t.choose test a b) type line) fits = (fits, refl)
followed_fits c accessed (t.typed (t.effect does operands) type line) fits = (fits, refl)

-- ---- a value for an object of a type

abbrev pub FitsAs : Around → CoreType → t.Value → Type 0
FitsAs c type v = ValueFits c v × (t.type_of v ≡ type)

pointer_by_fits : (c : Around) (line : ℕ) (type : CoreType) (v : t.Value) (same with_const : Bool) → ValueFits c v → same_type (t.type_of v) type ≡ same
    → is_with_const type (t.type_of v) ≡ with_const → Holds (FitsAs c type) (pointer_by line type v same with_const)
pointer_by_fits c line type v true with_const fits h e = (fits, is_same (t.type_of v) type h)
pointer_by_fits c line type v false true fits h e =
    let pointer = left (is_pointer (t.type_of v)) (same_type (with_const_target (t.type_of v)) type) e in
    let same = is_same (with_const_target (t.type_of v)) type (right (is_pointer (t.type_of v)) (same_type (with_const_target (t.type_of v)) type) e) in
    (((fits, tt), record { pointer = pointer; same = sym same }), refl)
pointer_by_fits c line type v false false fits h e = tt

pointer_for_by : (c : Around) (line : ℕ) (type : CoreType) (v : t.Value) (null : Bool) → ValueFits c v → is_pointer type ≡ true
    → Holds (FitsAs c type) (if null then Ok (t.typed t.null type (t.line_of v))
    else pointer_by line type v (same_type (t.type_of v) type) (is_with_const type (t.type_of v)))
pointer_for_by c line type v true fits pointer = (pointer, refl)
pointer_for_by c line type v false fits pointer = pointer_by_fits c line type v _ _ fits refl refl

pointer_for_fits : (c : Around) (line : ℕ) (type : CoreType) (v : t.Value) → ValueFits c v → is_pointer type ≡ true
    → Holds (FitsAs c type) (pointer_for line type v)
unfolding pointer_for
pointer_for_fits c line type v fits pointer = pointer_for_by c line type v (is_null v) fits pointer

integer_for_fits : (c : Around) (m : Machdep) (line : ℕ) (type : CoreType) (k : Kind) (v : t.Value) (j : Option Kind) → ValueFits c v → kind_of type ≡ Some k
    → kind_of_value v ≡ j
    → Holds (FitsAs c type) (integer_for m line k v j)
integer_for_fits c m line type k v None fits e h = tt
integer_for_fits c m line type k v (Some j) fits e h = let made = converted_fits c m k j v fits h in (made.0, made.1 ∙ sym (type_is type k e))

assignable_by_fits : (c : Around) (m : Machdep) (line : ℕ) (type : CoreType) (v : t.Value) (k : Option Kind) (pointer : Bool) → ValueFits c v
    → kind_of type ≡ k → is_pointer type ≡ pointer
    → Holds (FitsAs c type) (assignable_by m line type v k pointer)
assignable_by_fits c m line type v (Some k) pointer fits e h = integer_for_fits c m line type k v (kind_of_value v) fits e refl
assignable_by_fits c m line type v None true fits e h = pointer_for_fits c line type v fits h
assignable_by_fits c m line type v None false fits e h = tt

pub assignable_fits : (c : Around) (m : Machdep) (line : ℕ) (type : CoreType) (v : t.Value) → ValueFits c v → Holds (FitsAs c type) (assignable m line type v)
unfolding assignable
assignable_fits c m line type v fits = assignable_by_fits c m line type v (kind_of type) (is_pointer type) fits refl refl

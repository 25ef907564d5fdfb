-- Values and conversions spell what they are made of.
use Rattle.std.proofs.Common.{◌≡◌, ℕ, ℤ, Bool, true, false, List, [], ◌∷◌, Option, Some, None, Ok, refl, inl, if◌then◌else◌}
use Rattle.wp_base.specs.declared.kinds.Kind.{Kind}
use Rattle.c_syntax.specs.Expr as e
use Rattle.c_syntax.specs.Lines.{line_of}
use Rattle.c_kinds.specs.declared.models.Machdep.{Machdep}
use Rattle.typed_prog.specs.declared.types.Base.{Base}
use Rattle.typed_prog.specs.declared.types.Base.TheVariants as base
use Rattle.typed_prog.specs.declared.types.CoreType.{CoreType}
use Rattle.typed_prog.specs.declared.operators.Op.{Op}
use Rattle.typed_prog.specs.declared.operators.Op.TheVariants as op
use Rattle.typed_prog.specs.Types.{of_kind, kind_of, is_pointer, same_type}
use Rattle.typed_prog.specs.Tree as t
use Rattle.c_answers.specs.Answers.{Answer, after}
use Rattle.c_operands.specs.Operands.{Operand, object, value, Place, Rvalue, valued, object_value, followed, op_followed}
use Rattle.c_operands.specs.Conversions.{number, kind_of_value, folded, converted, converted_by, is_null, is_with_const, pointer_by, pointer_for, integer_for, assignable_by, assignable}
use Rattle.c_rules.specs.Pointers.{null_of, requalified_by, requalified}
use Rattle.c_exprs.specs.Typing.{Around}
use Rattle.c_spelled_back.specs.Constants.{IsConstantExpr, itself}
use Rattle.c_spelled_back.specs.Spelled.{ValueSpells, NodeSpells, PlaceSpells, OperandSpells}
use Rattle.c_spelled_back.proofs.Parts.{Holds, after_holds, RvalueSpells, Made, never}

-- ---- the value of an operand

object_value_spells : (c : Around) (x : e.Expr) (line : ℕ) (p : Place) (k : Bool) (count : Option ℕ) (stars : List Bool) (root : Base) → PlaceSpells c p x
    → Holds (RvalueSpells c x) (object_value line p k count stars root)
object_value_spells c x line p k (Some n) stars root fits = ((x, itself x, fits.2.0, fits), λ h. never h)
object_value_spells c x line p k None [] (base.Struct n) fits = tt
object_value_spells c x line p k None [] base.Void fits = ((x, itself x, fits.2.0, fits), λ h. never h)
object_value_spells c x line p k None [] (base.Of kind) fits = ((x, itself x, fits.2.0, fits), λ h. never h)
object_value_spells c x line p k None (d ∷ ds) root fits = ((x, itself x, fits.2.0, fits), λ h. never h)

pub valued_spells : (c : Around) (x : e.Expr) (line : ℕ) (o : Operand) → OperandSpells c o x → Holds (RvalueSpells c x) (valued line o)
unfolding valued
valued_spells c x line (object p k) fits = object_value_spells c x line p k p.type.count p.type.stars p.type.base fits
valued_spells c x line (value v k) fits = fits

pub after_valued : (c : Around) (a x : e.Expr) (line : ℕ) (o : Operand) (f : Rvalue → Answer Operand) → OperandSpells c o a
    → ((v : Rvalue) → RvalueSpells c a v → Made c x (f v)) → Made c x (after (valued line o) f)
after_valued c a x line o f fits more = after_holds (RvalueSpells c a) (λ y. OperandSpells c y x) (valued line o) f (valued_spells c a line o fits) more

-- ---- a pointer that is followed

op_followed_spells : (c : Around) (x : e.Expr) (accessed : Bool) (o : Op) (vs : t.Values) (type : CoreType) (line : ℕ)
    → NodeSpells c (t.apply o vs) type line x → NodeSpells c (t.apply (op_followed accessed o) vs) type line x
op_followed_spells c x accessed (op.Address path was) vs type line fits = fits
op_followed_spells c x accessed (op.Decay path was) vs type line fits = fits
op_followed_spells c x accessed (op.Offset minus index_first size was) vs type line fits = fits
op_followed_spells c x accessed _ vs type line fits = fits

pub followed_spells : (c : Around) (x : e.Expr) (accessed : Bool) (v : t.Value) → ValueSpells c v x → ValueSpells c (followed accessed v) x
unfolding followed
followed_spells c x accessed (t.typed (t.apply o vs) type line) fits = (fits.0, fits.1, fits.2, op_followed_spells c fits.0 accessed o vs type line fits.3)
followed_spells c x accessed (t.typed _ type line) fits = fits

-- ---- conversions

-- a conversion by the context
pub converts : (c : Around) (x : e.Expr) (v : t.Value) (type : CoreType) → ValueSpells c v x
    → ValueSpells c (t.typed (t.apply op.Convert (t.more v t.stop)) type (t.line_of v)) x
converts c x (t.typed node of line) type fits = (fits.0, fits.1, fits.2, ((fits.0, itself fits.0, fits.2, fits.3), tt))

requalifies : (c : Around) (x : e.Expr) (v : t.Value) (type : CoreType) → ValueSpells c v x
    → ValueSpells c (t.typed (t.apply op.Requalify (t.more v t.stop)) type (t.line_of v)) x
requalifies c x (t.typed node of line) type fits = (fits.0, fits.1, fits.2, ((fits.0, itself fits.0, fits.2, fits.3), tt))

kept_by : (c : Around) (x : e.Expr) (m : Machdep) (k : Kind) (v : t.Value) (same : Bool) → ValueSpells c v x → ValueSpells c (converted_by m k v None same) x
kept_by c x m k v true fits = fits
kept_by c x m k v false fits = converts c x v (of_kind k) fits

pub converted_spells : (c : Around) (x : e.Expr) (m : Machdep) (k : Kind) (v : t.Value) → ValueSpells c v x → ValueSpells c (converted m k v) x
unfolding converted number
converted_spells c x m k (t.typed (t.constant z) type line) fits = fits
converted_spells c x m k (t.typed t.null type line) fits = kept_by c x m k (t.typed t.null type line) _ fits
converted_spells c x m k (t.typed (t.temporary n) type line) fits = kept_by c x m k (t.typed (t.temporary n) type line) _ fits
converted_spells c x m k (t.typed (t.apply o vs) type line) fits = kept_by c x m k (t.typed (t.apply o vs) type line) _ fits
converted_spells c x m k (t.typed (t.logic how v w) type line) fits = kept_by c x m k (t.typed (t.logic how v w) type line) _ fits
converted_spells c x m k (t.typed (t.choose test v w) type line) fits = kept_by c x m k (t.typed (t.choose test v w) type line) _ fits
converted_spells c x m k (t.typed (t.effect does vs) type line) fits = kept_by c x m k (t.typed (t.effect does vs) type line) _ fits

pub folded_spells : (c : Around) (x : e.Expr) (k : Kind) (line : ℕ) (node : t.ValueNode) (constant : Bool) (known : Option ℤ) → line_of x ≡ line
    → NodeSpells c node (of_kind k) line x
    → (constant ≡ true → IsConstantExpr c x) → ((z : ℤ) → known ≡ Some z → IsConstantExpr c x) → OperandSpells c (folded k line node constant known) x
unfolding folded number
folded_spells c x k line node constant (Some z) at fits is known = ((x, itself x, at, known z refl), λ h. known z refl)
folded_spells c x k line node constant None at fits is known = ((x, itself x, at, fits), is)

pub number_spells : (c : Around) (x : e.Expr) (k : Kind) (z : ℤ) (line : ℕ) → line_of x ≡ line → IsConstantExpr c x
    → OperandSpells c (value (number k z line) true) x
unfolding number
number_spells c x k z line at is = ((x, itself x, at, is), λ h. is)

-- ---- null

pub null_spells : (c : Around) (x : e.Expr) (type : CoreType) (v : t.Value) → is_null v ≡ true → ValueSpells c v x → ValueSpells c (null_of type v) x
null_spells c x type (t.typed (t.constant z) of line) h fits = (fits.0, fits.1, fits.2, inl fits.3)
null_spells c x type (t.typed t.null of line) h fits = fits
null_spells c x type (t.typed (t.temporary n) of line) h fits = never h
null_spells c x type (t.typed (t.apply o vs) of line) h fits = never h
null_spells c x type (t.typed (t.logic how v w) of line) h fits = never h
null_spells c x type (t.typed (t.choose test v w) of line) h fits = never h
null_spells c x type (t.typed (t.effect does vs) of line) h fits = never h

-- ---- conversion to the type of an object

requalified_by_spells : (c : Around) (x : e.Expr) (type : CoreType) (v : t.Value) (same : Bool) → ValueSpells c v x
    → ValueSpells c (requalified_by type v same) x
requalified_by_spells c x type v true fits = fits
requalified_by_spells c x type v false fits = requalifies c x v type fits

pub requalified_spells : (c : Around) (x : e.Expr) (type : CoreType) (v : t.Value) → ValueSpells c v x → ValueSpells c (requalified type v) x
requalified_spells c x type v fits = requalified_by_spells c x type v (same_type (t.type_of v) type) fits

abbrev pub ValueMade : Around → e.Expr → Answer t.Value → Type 0
ValueMade c x o = Holds (λ v. ValueSpells c v x) o

pointer_by_spells : (c : Around) (x : e.Expr) (line : ℕ) (type : CoreType) (v : t.Value) (same with_const : Bool) → ValueSpells c v x
    → ValueMade c x (pointer_by line type v same with_const)
pointer_by_spells c x line type v true with_const fits = fits
pointer_by_spells c x line type v false true fits = requalifies c x v type fits
pointer_by_spells c x line type v false false fits = tt

null_or_pointer : (c : Around) (x : e.Expr) (line : ℕ) (type : CoreType) (v : t.Value) (null : Bool) → is_null v ≡ null → ValueSpells c v x
    → ValueMade c x (if null then Ok (t.typed t.null type (t.line_of v)) else pointer_by line type v (same_type (t.type_of v) type)
    (is_with_const type (t.type_of v)))
null_or_pointer c x line type v true h fits = null_spells c x type v h fits
null_or_pointer c x line type v false h fits = pointer_by_spells c x line type v _ _ fits

pointer_spells : (c : Around) (x : e.Expr) (line : ℕ) (type : CoreType) (v : t.Value) → ValueSpells c v x → ValueMade c x (pointer_for line type v)
unfolding pointer_for
pointer_spells c x line type v fits = null_or_pointer c x line type v (is_null v) refl fits

integer_spells : (c : Around) (x : e.Expr) (m : Machdep) (line : ℕ) (k : Kind) (v : t.Value) (j : Option Kind) → ValueSpells c v x
    → ValueMade c x (integer_for m line k v j)
integer_spells c x m line k v None fits = tt
integer_spells c x m line k v (Some j) fits = converted_spells c x m k v fits

assignable_by_spells : (c : Around) (x : e.Expr) (m : Machdep) (line : ℕ) (type : CoreType) (v : t.Value) (k : Option Kind) (p : Bool) → ValueSpells c v x
    → ValueMade c x (assignable_by m line type v k p)
assignable_by_spells c x m line type v (Some k) p fits = integer_spells c x m line k v (kind_of_value v) fits
assignable_by_spells c x m line type v None true fits = pointer_spells c x line type v fits
assignable_by_spells c x m line type v None false fits = tt

pub assignable_spells : (c : Around) (x : e.Expr) (m : Machdep) (line : ℕ) (type : CoreType) (v : t.Value) → ValueSpells c v x
    → ValueMade c x (assignable m line type v)
unfolding assignable
assignable_spells c x m line type v fits = assignable_by_spells c x m line type v (kind_of type) (is_pointer type) fits

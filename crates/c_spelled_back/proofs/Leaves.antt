-- Names, constants, casts and `sizeof` spell themselves.
use Rattle.std.proofs.Common.{◌≡◌, ℕ, ℤ, Bool, true, false, List, [], ◌∷◌, Option, Some, None, Ok, refl, ap, inr}
use Rattle.wp_base.specs.declared.kinds.Kind.{Kind}
use Rattle.wp_base.specs.declared.kinds.Kind.TheVariants as kind
use Rattle.c_syntax.specs.declared.token.Token.{Token}
use Rattle.c_syntax.specs.Expr as e
use Rattle.c_kinds.specs.declared.models.Machdep.{Machdep}
use Rattle.c_machine.specs.declared.rules.Constant.{Constant}
use Rattle.c_machine.specs.Literals.{token_constant}
use Rattle.typed_prog.specs.declared.types.Base.{Base}
use Rattle.typed_prog.specs.declared.types.Base.TheVariants as base
use Rattle.typed_prog.specs.declared.types.CoreType.{CoreType}
use Rattle.typed_prog.specs.declared.operators.Op.TheVariants as op
use Rattle.typed_prog.specs.declared.operators.Variable.{Variable}
use Rattle.typed_prog.specs.Types.{type_with, of_kind, kind_by, kind_of, is_pointer, is_void}
use Rattle.typed_prog.specs.Tree as t
use Rattle.c_answers.specs.Answers.{after}
use Rattle.c_operands.specs.Operands.{Operand, Rvalue}
use Rattle.c_operands.specs.Conversions.{number_of, kind_of_value, is_zero}
use Rattle.c_rules.specs.Integers.{constant_by, constant_in}
use Rattle.c_places.specs.Casts.{known_by, to_kind_by, to_pointer_by, cast_by, cast}
use Rattle.c_scopes.specs.declared.symbols.Symbol.{Symbol}
use Rattle.c_scopes.specs.declared.symbols.Symbol.TheVariants as symbol
use Rattle.c_scopes.specs.declared.symbols.Object.{Object}
use Rattle.c_scopes.specs.declared.symbols.Resolved.{Resolved}
use Rattle.c_scopes.specs.Declarations.{find, object_of}
use Rattle.c_scopes.specs.Meanings.{named, type_of, is_void_pointer}
use Rattle.c_exprs.specs.Leaves.{literal_by, literal_of, literal, declared, name_by, name, void_pointer, cast_type_by, bytes_by, size_by, size_of}
use Rattle.c_exprs.specs.Typing.{Around, cast_to_type}
use Rattle.c_spelled_back.specs.Constants.{IsNullConstant, itself}
use Rattle.c_spelled_back.specs.Spelled.{ValueSpells, OperandSpells}
use Rattle.c_spelled_back.proofs.Parts.{after_is, RvalueSpells, Made, never}
use Rattle.c_spelled_back.proofs.Values.{after_valued, folded_spells, number_spells}

-- ---- constants

literal_by_made : (c : Around) (line : ℕ) (token : Token) (k : Kind) (z : Option ℤ) → Made c (e.number line token) (literal_by line k z)
literal_by_made c line token k (Some z) = number_spells c (e.number line token) k z line refl tt
literal_by_made c line token k None = tt

literal_of_made : (c : Around) (line : ℕ) (token : Token) (known : Option Constant) → Made c (e.number line token) (literal_of line known)
literal_of_made c line token (Some known) = literal_by_made c line token known.kind known.value
literal_of_made c line token None = tt

pub literal_made : (c : Around) (line : ℕ) (token : Token) → Made c (e.number line token) (literal c.model line token.kind)
unfolding literal
literal_made c line token = literal_of_made c line token (token_constant c.model token.kind)

-- ---- names

declared_made : (c : Around) (line : ℕ) (y : List ℕ) (v : Variable) (o : Option Object) → find c.scope y ≡ Some (symbol.Object v)
    → Made c (e.name line y) (declared line v o)
declared_made c line y v None found = tt
declared_made c line y v (Some o) found = ([], tt, (refl, (line, y, found, refl)))

name_by_made : (c : Around) (line : ℕ) (y : List ℕ) (s : Option Symbol) → find c.scope y ≡ s → Made c (e.name line y) (name_by c.scope line s)
name_by_made c line y None found = tt
name_by_made c line y (Some (symbol.Object v)) found = declared_made c line y v (object_of c.scope v) found
name_by_made c line y (Some (symbol.Enumerator z)) found = number_spells c (e.name line y) kind.Int z line refl (z, found)
name_by_made c line y (Some (symbol.Function n)) found = tt
name_by_made c line y (Some (symbol.Typedef n)) found = tt

pub name_made : (c : Around) (line : ℕ) (y : List ℕ) → Made c (e.name line y) (name c.scope line y)
unfolding name
name_made c line y = name_by_made c line y (find c.scope y) refl

-- ---- casts

known_cast : (m : Machdep) (k : Kind) (f : Bool) (j : Option Kind) (n : Option ℤ) (z : ℤ) → known_by m k (constant_by f j n) ≡ Some z → f ≡ true
known_cast m k true j n z h = refl
known_cast m k false j n z h = cc

kind_alone : (root : Base) (stars : List Bool) (count : Option ℕ) (k : Kind) → kind_by root stars count ≡ Some k → type_with root stars count ≡ of_kind k
kind_alone (base.Of j) [] None k h = let same : j ≡ k = cc in ap of_kind same
kind_alone (base.Of j) [] (Some n) k h = cc
kind_alone (base.Of j) (d ∷ ds) count k h = cc
kind_alone base.Void stars count k h = cc
kind_alone (base.Struct n) stars count k h = cc

-- of the constant 0, behind which an integer constant expression stands
zero_stands : (c : Around) (line : ℕ) (spelled : e.CType) (a : e.Expr) (v : t.Value) → is_zero (number_of v) ≡ true → ValueSpells c v a
    → IsNullConstant c (e.cast line spelled a)
zero_stands c line spelled a (t.typed (t.constant z) type at) h fits = inr (line, spelled, a, fits.0, refl, fits.1, fits.3)
zero_stands c line spelled a (t.typed t.null type at) h fits = never h
zero_stands c line spelled a (t.typed (t.temporary n) type at) h fits = never h
zero_stands c line spelled a (t.typed (t.apply o vs) type at) h fits = never h
zero_stands c line spelled a (t.typed (t.logic how v w) type at) h fits = never h
zero_stands c line spelled a (t.typed (t.choose test v w) type at) h fits = never h
zero_stands c line spelled a (t.typed (t.effect does vs) type at) h fits = never h

to_pointer_made : (c : Around) (line : ℕ) (spelled : e.CType) (a : e.Expr) (type : CoreType) (v : t.Value) (zero : Bool) → is_zero (number_of v) ≡ zero
    → ValueSpells c v a
    → Made c (e.cast line spelled a) (to_pointer_by line type zero)
to_pointer_made c line spelled a type v true h fits = ((_, itself _, refl, zero_stands c line spelled a v h fits), λ h. never h)
to_pointer_made c line spelled a type v false h fits = tt

to_kind_made : (c : Around) (line : ℕ) (spelled : e.CType) (a : e.Expr) (r : Resolved) (k : Kind) (v : Rvalue) (j : Option Kind)
    → named c.scope.file line spelled ≡ Ok (Some r)
    → kind_of r.ty ≡ Some k → RvalueSpells c a v → Made c (e.cast line spelled a) (to_kind_by c.model line k v j)
to_kind_made c line spelled a r k v None means is fits = tt
to_kind_made c line spelled a r k v (Some j) means is fits =
    folded_spells c (e.cast line spelled a) k line (t.apply op.Cast (t.more v.value t.stop)) v.is_constant (known_by c.model k (constant_in v)) refl
    (spelled, r, means, kind_alone r.ty.base r.ty.stars r.ty.count k is, (a, (fits.0, tt), refl)) (λ h. ((r, k, means, is), fits.1 h))
    (λ z h. ((r, k, means, is), fits.1 (known_cast c.model k v.is_constant (kind_of_value v.value) (number_of v.value) z h)))

cast_by_made : (c : Around) (line : ℕ) (spelled : e.CType) (a : e.Expr) (r : Resolved) (v : Rvalue) (k : Option Kind) (pointer nothing : Bool)
    → named c.scope.file line spelled ≡ Ok (Some r)
    → kind_of r.ty ≡ k → RvalueSpells c a v → Made c (e.cast line spelled a) (cast_by c.model line r.ty v k pointer nothing)
cast_by_made c line spelled a r v (Some k) pointer nothing means is fits = to_kind_made c line spelled a r k v (kind_of_value v.value) means is fits
cast_by_made c line spelled a r v None true nothing means is fits = to_pointer_made c line spelled a r.ty v.value (is_zero (number_of v.value)) refl fits.0
cast_by_made c line spelled a r v None false true means is fits = ((_, itself _, refl, (spelled, r, means, refl, (a, (fits.0, tt), refl))), λ h. never h)
cast_by_made c line spelled a r v None false false means is fits = tt

cast_made : (c : Around) (line : ℕ) (spelled : e.CType) (a : e.Expr) (r : Resolved) (x : Operand) → named c.scope.file line spelled ≡ Ok (Some r)
    → OperandSpells c x a
    → Made c (e.cast line spelled a) (cast c.model line r.ty x)
unfolding cast
cast_made c line spelled a r x means fits =
    after_valued c a _ line x _ fits (λ v fv. cast_by_made c line spelled a r v (kind_of r.ty) (is_pointer r.ty) (is_void r.ty) means refl fv)

null_made : (c : Around) (line : ℕ) (spelled : e.CType) (a : e.Expr) (x : Operand) → OperandSpells c x a
    → Made c (e.cast line spelled a) (cast c.model line void_pointer x)
unfolding cast
null_made c line spelled a x fits =
    after_valued c a _ line x _ fits (λ v fv. to_pointer_made c line spelled a void_pointer v.value (is_zero (number_of v.value)) refl fv.0)

cast_type_made : (c : Around) (line : ℕ) (spelled : e.CType) (a : e.Expr) (meant : Option Resolved) (x : Operand) (null : Bool)
    → named c.scope.file line spelled ≡ Ok meant
    → OperandSpells c x a → Made c (e.cast line spelled a) (after (cast_type_by line null meant) (λ to. cast c.model line to x))
cast_type_made c line spelled a meant x true means fits = null_made c line spelled a x fits
cast_type_made c line spelled a None x false means fits = tt
cast_type_made c line spelled a (Some r) x false means fits = cast_made c line spelled a r x means fits

pub cast_to_type_made : (c : Around) (line : ℕ) (spelled : e.CType) (a : e.Expr) (meant : Option Resolved) (x : Operand)
    → named c.scope.file line spelled ≡ Ok meant → OperandSpells c x a
    → Made c (e.cast line spelled a) (cast_to_type c.model c.scope line spelled meant x)
cast_to_type_made c line spelled a meant x means fits =
    after_is (λ o. OperandSpells c o (e.cast line spelled a)) (is_void_pointer c.scope.file line spelled) _
    (λ null is. cast_type_made c line spelled a meant x null means fits)

-- ---- `sizeof`

size_by_made : (c : Around) (line : ℕ) (type : e.CType) (z : Option ℤ) → Made c (e.sizeof line type) (size_by c.model line z)
size_by_made c line type (Some z) = number_spells c (e.sizeof line type) _ z line refl tt
size_by_made c line type None = tt

pub size_made : (c : Around) (line : ℕ) (type : e.CType) → Made c (e.sizeof line type) (size_of c.model c.scope line type)
unfolding size_of
size_made c line type =
    after_is (λ o. OperandSpells c o (e.sizeof line type)) (named c.scope.file line type) _ (λ r is.
    after_is (λ o. OperandSpells c o (e.sizeof line type)) (type_of line r) _ (λ r is. size_by_made c line type (bytes_by c.model r.ty r.ty.count)))

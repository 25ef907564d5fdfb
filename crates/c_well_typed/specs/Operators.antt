-- Which type an operator gives on operands of these types (C11 6.5). No tree is looked at.
use Rattle.std.specs.Prelude.{◌≡◌, IsTrue, ℕ, Bool, true, false, List, [], ◌∷◌, Some, None, slice_get, ◌⊎◌}
use Rattle.wp_base.specs.declared.kinds.Kind.{Kind}
use Rattle.wp_base.specs.declared.kinds.Kind.TheVariants as kind
use Rattle.c_kinds.specs.declared.models.Machdep.{Machdep}
use Rattle.c_kinds.specs.Conversions.{promote, common}
use Rattle.c_kinds.specs.Models.{difference_kind}
use Rattle.typed_prog.specs.declared.types.CoreType.{CoreType}
use Rattle.typed_prog.specs.declared.operators.Arithmetic.{Arithmetic}
use Rattle.typed_prog.specs.declared.operators.Change.{Change}
use Rattle.typed_prog.specs.declared.operators.Change.TheVariants as change
use Rattle.typed_prog.specs.declared.operators.Effect.{Effect}
use Rattle.typed_prog.specs.declared.operators.Effect.TheVariants as effect
use Rattle.typed_prog.specs.declared.operators.Op.{Op}
use Rattle.typed_prog.specs.declared.operators.Op.TheVariants as op
use Rattle.typed_prog.specs.declared.operators.Path.{Path}
use Rattle.typed_prog.specs.Types.{of_kind, void, pointer_to, target_of, is_pointer, is_void, struct_of, with_const_target}
use Rattle.c_scopes.specs.declared.symbols.Resolved.{Resolved}
use Rattle.c_scopes.specs.declared.symbols.Signature.{Signature}
use Rattle.c_rules.specs.Pointers.{element_cells}
use Rattle.c_rules.specs.Operators.{is_scalar}
use Rattle.c_places.specs.Changes.{is_shift}
use Rattle.c_exprs.specs.Typing.{Around}
use Rattle.c_well_typed.specs.Paths.{object, IsInteger, Reaches}

-- ---- types

-- an integer or a pointer (6.2.5p21)
abbrev pub IsScalar : CoreType → Type 0
IsScalar type = IsTrue (is_scalar type)

-- no operator computes in a kind below `int` (6.3.1.1p2)
abbrev pub IsPromoted : Kind → Type 0
IsPromoted k = promote k ≡ k

abbrev pub IsPromotedInteger : CoreType → Type 0
IsPromotedInteger type = (k : Kind) × (type ≡ of_kind k) × IsPromoted k

-- pointers to one type, constant or not (6.5.6p3, 6.5.8p2, 6.5.9p2)
abbrev pub AreAlike : CoreType → CoreType → Type 0
AreAlike a b = IsTrue (is_pointer a) × IsTrue (is_pointer b) × (with_const_target a ≡ with_const_target b)

-- a pointer that can be moved: to an object, of so many cells (6.5.6p2, p8)
pub record IsMovable (c : Around) (size : ℕ) (pointer : CoreType) : Type 0 where
  pub to : CoreType
  pub is_const : Bool
  pub leads : target_of pointer ≡ Some (to, is_const)
  pub not_void : is_void to ≡ false
  pub cells : size ≡ element_cells c.sizes to

-- ---- so many operands

abbrev pub OfOne : List CoreType → (CoreType → Type 0) → Type 0
OfOne (a ∷ []) f = f a
OfOne _ f = ⊥

abbrev pub OfTwo : List CoreType → (CoreType → CoreType → Type 0) → Type 0
OfTwo (a ∷ b ∷ []) f = f a b
OfTwo _ f = ⊥

-- a value, and the operands of a path
abbrev pub OfFirst : List CoreType → (CoreType → List CoreType → Type 0) → Type 0
OfFirst (a ∷ rest) f = f a rest
OfFirst [] f = ⊥

-- ---- objects and what they hold

-- the value of an object, which is no array and no struct (6.3.2.1p2)
pub record IsValueOf (c : Around) (types : List CoreType) (p : Path) (type : CoreType) : Type 0 where
  pub is_const : Bool
  pub reaches : Reaches c types p (object type is_const)
  pub no_array : type.count ≡ None
  pub no_struct : struct_of type ≡ None

-- a pointer to an object, which is no array (6.5.3.2p3; arrays by this verifier's choice)
pub record IsAddressOf (c : Around) (types : List CoreType) (p : Path) (type : CoreType) : Type 0 where
  pub to : Resolved
  pub reaches : Reaches c types p to
  pub no_array : to.ty.count ≡ None
  pub same : type ≡ pointer_to to.ty to.is_const

-- a pointer to the first element of an array (6.3.2.1p3)
pub record IsFirstElement (c : Around) (types : List CoreType) (p : Path) (type : CoreType) : Type 0 where
  pub to : Resolved
  pub reaches : Reaches c types p to
  pub count : ℕ
  pub is_array : to.ty.count ≡ Some count
  pub same : type ≡ pointer_to to.ty to.is_const

-- an object that may be changed: a scalar that isn't constant (6.3.2.1p1, 6.5.16p2)
pub record IsChangeable (c : Around) (types : List CoreType) (p : Path) (type : CoreType) : Type 0 where
  pub reaches : Reaches c types p (object type false)
  pub scalar : IsScalar type

-- ---- operators on values

-- The kind of an operation on two integers is that of both, after the usual arithmetic conversions (6.3.1.8); a shift has the kind of its left operand alone
-- (6.5.7p3).
abbrev pub SecondFits : (shift : Bool) → Kind → CoreType → Type 0
SecondFits true k b = IsPromotedInteger b
SecondFits false k b = b ≡ of_kind k

pub record IsArithmetic (o : Arithmetic) (a b type : CoreType) : Type 0 where
  pub of : Kind
  pub promoted : IsPromoted of
  pub result : type ≡ of_kind of
  pub first : a ≡ of_kind of
  pub second : SecondFits (is_shift o) of b

-- two integers of one kind are compared, which gives an `int` (6.5.8p6, 6.5.9p3)
pub record IsComparison (a b type : CoreType) : Type 0 where
  pub of : Kind
  pub promoted : IsPromoted of
  pub first : a ≡ of_kind of
  pub second : b ≡ of_kind of
  pub result : type ≡ of_kind kind.Int

-- a pointer to an object, moved by an integer over elements of so many cells (6.5.6p8)
pub record IsMoved (c : Around) (size : ℕ) (pointer index type : CoreType) : Type 0 where
  pub same : type ≡ pointer
  pub movable : IsMovable c size pointer
  pub integer : IsInteger index

abbrev pub Moves : Around → (index_first : Bool) → (size : ℕ) → (a b type : CoreType) → Type 0
Moves c false size a b type = IsMoved c size a b type
Moves c true size a b type = IsMoved c size b a type

-- a pointer as one to a constant object (6.3.2.3p2)
pub record IsRequalified (a type : CoreType) : Type 0 where
  pub pointer : IsTrue (is_pointer a)
  pub same : type ≡ with_const_target a

abbrev pub OpFits : Around → Op → (operands : List CoreType) → (result : CoreType) → Type 0
OpFits c (op.Read path) types type = IsValueOf c types path type
OpFits c (op.Address path accessed) types type = IsAddressOf c types path type
OpFits c (op.Decay path accessed) types type = IsFirstElement c types path type
-- `-` and `~` of a promoted integer (6.5.3.3p3, p4)
OpFits c op.Negate types type = OfOne types (λ a. (type ≡ a) × IsPromotedInteger a)
OpFits c op.Complement types type = OfOne types (λ a. (type ≡ a) × IsPromotedInteger a)
-- `!` of a scalar is an `int` (6.5.3.3p5)
OpFits c op.Not types type = OfOne types (λ a. IsScalar a × (type ≡ of_kind kind.Int))
OpFits c (op.Arithmetic o) types type = OfTwo types (λ a b. IsArithmetic o a b type)
OpFits c (op.Compare how) types type = OfTwo types (λ a b. IsComparison a b type)
OpFits c (op.ComparePointers how) types type = OfTwo types (λ a b. AreAlike a b × (type ≡ of_kind kind.Int))
OpFits c (op.Offset minus index_first size accessed) types type = OfTwo types (λ a b. Moves c index_first size a b type)
-- the number of elements between two pointers (6.5.6p9)
OpFits c (op.Difference size) types type = OfTwo types (λ a b. AreAlike a b × IsMovable c size a × (type ≡ of_kind (difference_kind c.model)))
-- an integer as one of another kind, by the context or as spelled (6.3.1.3, 6.5.4); any value as none (6.3.2.2)
OpFits c op.Convert types type = OfOne types (λ a. IsInteger a × IsInteger type)
OpFits c op.Requalify types type = OfOne types (λ a. IsRequalified a type)
OpFits c op.Cast types type = OfOne types (λ a. (IsInteger a × IsInteger type) ⊎ (type ≡ void))

-- ---- what changes the state

-- An update computes in one kind, and converts back (6.5.16.2p3): in the kind that the object's kind and that of the second operand have in common, and for
-- a shift in the promoted kind of the object. So the second operand is as for the operator.
pub record IsIntegerUpdate (m : Machdep) (o : Arithmetic) (computed : Kind) (a type : CoreType) : Type 0 where
  pub of : Kind
  pub integer : type ≡ of_kind of
  pub promoted : IsPromoted computed
  pub shifted : is_shift o ≡ true → computed ≡ promote of
  pub joined : is_shift o ≡ false → (second_kind : Kind) × (computed ≡ common m of second_kind)
  pub second : SecondFits (is_shift o) computed a

abbrev pub ChangeFits : Around → Change → (value type : CoreType) → Type 0
ChangeFits c (change.Integer o computed) a type = IsIntegerUpdate c.model o computed a type
ChangeFits c (change.Pointer minus size) a type = IsMoved c size type a type

-- each argument has the type of its parameter (6.5.2.2p2, p7)
pub record IsCall (c : Around) (number : ℕ) (types : List CoreType) (type : CoreType) : Type 0 where
  pub function : Signature
  pub declared : slice_get c.scope.file.functions number ≡ Some function
  pub arguments : types ≡ function.params
  pub result : type ≡ function.result

-- an assignment and an update have the type of the object (6.5.16p3), and what is assigned has it too
abbrev pub EffectFits : Around → Effect → (operands : List CoreType) → (result : CoreType) → Type 0
EffectFits c (effect.Assign path) types type = OfFirst types (λ a rest. IsChangeable c rest path type × (a ≡ type))
EffectFits c (effect.Update path by form) types type = OfFirst types (λ a rest. IsChangeable c rest path type × ChangeFits c by a type)
EffectFits c (effect.Call number) types type = IsCall c number types type

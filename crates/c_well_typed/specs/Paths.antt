-- Which object a path reaches: its type, and whether it is constant (C11 6.5.2.1, 6.5.2.3, 6.5.3.2). A path takes the values of its operands by number, so
-- it is told of their types alone.
use Rattle.std.specs.Prelude.{◌≡◌, ℕ, Bool, false, ◌||◌, List, [], ◌∷◌, Some, slice_get}
use Rattle.wp_base.specs.declared.kinds.Kind.{Kind}
use Rattle.typed_prog.specs.declared.types.CoreType.{CoreType}
use Rattle.typed_prog.specs.declared.operators.Root.{Root}
use Rattle.typed_prog.specs.declared.operators.Root.TheVariants as root
use Rattle.typed_prog.specs.declared.operators.Step.{Step}
use Rattle.typed_prog.specs.declared.operators.Step.TheVariants as step
use Rattle.typed_prog.specs.declared.operators.Path.{Path}
use Rattle.typed_prog.specs.declared.operators.Variable.{Variable}
use Rattle.typed_prog.specs.Types.{kind_of, struct_of, target_of, is_void, element_of}
use Rattle.c_scopes.specs.declared.symbols.Object.{Object}
use Rattle.c_scopes.specs.declared.symbols.Resolved.{Resolved}
use Rattle.c_scopes.specs.declared.symbols.Structure.{Structure}
use Rattle.c_scopes.specs.declared.symbols.Field.{Field as Member}
use Rattle.c_scopes.specs.Declarations.{object_of}
use Rattle.c_rules.specs.Pointers.{element_cells}
use Rattle.c_exprs.specs.Typing.{Around}

-- a type, and whether the object that has it is constant
abbrev pub object : CoreType → (is_const : Bool) → Resolved
object type is_const = record { ty = type; is_const = is_const }

-- an integer (6.2.5p17)
abbrev pub IsInteger : CoreType → Type 0
IsInteger type = (k : Kind) × (kind_of type ≡ Some k)

-- ---- where a path begins

-- the object that the variable was declared as (6.5.1p2)
pub record IsVariable (c : Around) (x : Variable) (to : Resolved) : Type 0 where
  pub declared : Object
  pub found : object_of c.scope x ≡ Some declared
  pub same : to ≡ object declared.ty declared.is_const

-- the object that an operand points to, which `void` is not (6.5.3.2p4)
pub record IsPointedTo (types : List CoreType) (operand : ℕ) (to : Resolved) : Type 0 where
  pub pointer : CoreType
  pub is_operand : slice_get types operand ≡ Some pointer
  pub leads : target_of pointer ≡ Some (to.ty, to.is_const)
  pub not_void : is_void to.ty ≡ false

abbrev pub Begins : Around → (operands : List CoreType) → Root → Resolved → Type 0
Begins c types (root.Variable x) to = IsVariable c x to
Begins c types (root.Pointed operand) to = IsPointedTo types operand to

-- ---- where a step leads

-- The field of a struct with this number, whose first cell is the one with this offset; constant where the struct or the field is (6.5.2.3p3).
pub record IsField (c : Around) (number offset : ℕ) (from to : Resolved) : Type 0 where
  pub tag : ℕ
  pub is_struct : struct_of from.ty ≡ Some tag
  pub structure : Structure
  pub declared : slice_get c.scope.file.structs tag ≡ Some structure
  pub member : Member
  pub has : slice_get structure.fields number ≡ Some member
  pub stands : slice_get structure.layout.fields number ≡ Some offset
  pub same : to ≡ object member.ty (from.is_const || member.is_const)

-- the operand with this number is an integer
pub record IsIndex (types : List CoreType) (operand : ℕ) : Type 0 where
  pub type : CoreType
  pub is_operand : slice_get types operand ≡ Some type
  pub integer : IsInteger type

-- An element of an array of so many elements, of so many cells each; constant where the array is (6.5.2.1p2, 6.7.3p9).
pub record IsElement (c : Around) (types : List CoreType) (operand size count : ℕ) (from to : Resolved) : Type 0 where
  pub index : IsIndex types operand
  pub is_array : from.ty.count ≡ Some count
  pub cells : size ≡ element_cells c.sizes from.ty
  pub same : to ≡ object (element_of from.ty) from.is_const

-- an object of the same type, so many elements further on (6.5.6p8)
pub record IsFurther (c : Around) (types : List CoreType) (operand size : ℕ) (from to : Resolved) : Type 0 where
  pub index : IsIndex types operand
  pub cells : size ≡ element_cells c.sizes from.ty
  pub same : to ≡ from

abbrev pub Leads : Around → (operands : List CoreType) → Step → (from to : Resolved) → Type 0
Leads c types (step.Field number offset) from to = IsField c number offset from to
Leads c types (step.Element operand size count line) from to = IsElement c types operand size count from to
Leads c types (step.Moved operand size) from to = IsFurther c types operand size from to

abbrev pub AllLead : Around → (operands : List CoreType) → List Step → (from to : Resolved) → Type 0
AllLead c types [] from to = to ≡ from
AllLead c types (s ∷ ss) from to = (next : Resolved) × Leads c types s from next × AllLead c types ss next to

-- ---- the whole path

pub record Reaches (c : Around) (types : List CoreType) (p : Path) (to : Resolved) : Type 0 where
  pub first : Resolved
  pub begins : Begins c types p.root first
  pub leads : AllLead c types p.steps first to

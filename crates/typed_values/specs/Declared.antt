-- Declarations that are in a program: each variable has the cells of its type (C11 6.2.5p20), and each struct those of its fields in order (C11 6.7.2.1p15).
use Rattle.std.specs.Prelude.{◌≡◌, ℕ, true, false, List, [], ◌∷◌, length, Some, slice_get, slice_index_or}
use Rattle.std.specs.Option.{unwrap_or}
use Rattle.wp_base.specs.declared.kinds.Layout.{Layout}
use Rattle.c_kinds.specs.Layouts.{all_cells, places}
use Rattle.typed_prog.specs.declared.types.CoreType.{CoreType}
use Rattle.c_scopes.specs.declared.symbols.Object.{Object}
use Rattle.c_scopes.specs.declared.symbols.Structure.{Structure}
use Rattle.c_scopes.specs.declared.symbols.Field.{Field as Member}
use Rattle.c_scopes.specs.Extents.{element_cells}
use Rattle.c_exprs.specs.Typing.{Around}
use Rattle.c_well_typed.specs.Operators.{IsScalar}
use Rattle.c_runs.specs.Program.{Facts, Variable}
use Rattle.value_terms.specs.Typed.{Scope}
use Rattle.typed_values.specs.Kinds.{ObjectIsKnown, TargetIsKnown}

-- ---- layouts

-- the cells of an element of the type, and as many elements as it has, or one
pub record HasLayout (ss : List Structure) (type : CoreType) (l : Layout) : Type 0 where
  pub elements : element_cells ss type.base type.stars ≡ Some l.cells
  pub count : l.count ≡ unwrap_or type.count 1

-- each field has the layout of its type
abbrev pub FieldsHave : List Structure → List Member → List Layout → Type 0
FieldsHave ss [] [] = Unit {0}
FieldsHave ss (f ∷ fs) (l ∷ ls) = HasLayout ss f.ty l × FieldsHave ss fs ls
FieldsHave ss _ _ = ⊥

pub record IsLaidOut (ss : List Structure) (x : Structure) : Type 0 where
  pub parts : List Layout
  pub fields : FieldsHave ss x.fields parts
  pub offsets : x.layout.fields ≡ places 0 parts
  pub cells : x.layout.cells ≡ all_cells parts

-- ---- variables

-- A variable of the program for the declared object. One that no pointer leads to is a scalar; any other lies in a block.
pub record Holds (ss : List Structure) (s : Scope) (vs : List Variable) (n : ℕ) (o : Object) : Type 0 where
  pub variable : Variable
  pub found : slice_get vs n ≡ Some variable
  pub layout : HasLayout ss o.ty variable.layout
  pub scalar : variable.is_plain ≡ true → IsScalar o.ty
  pub target : TargetIsKnown s o.ty
  pub blocks : variable.is_plain ≡ false → s.has_blocks ≡ true
  pub object : variable.is_plain ≡ false → ObjectIsKnown s o.ty

-- what is declared where an expression stands is in the program
pub record Meets (c : Around) (p : Facts) (xs : List Variable) (s : Scope) : Type 0 where
  pub model : p.model ≡ c.model
  pub globals : (n : ℕ) (o : Object) → slice_get c.scope.file.globals n ≡ Some o → Holds c.scope.file.structs s p.globals n o
  pub locals : (n : ℕ) (o : Object) → slice_get c.scope.local.objects n ≡ Some o → Holds c.scope.file.structs s xs n o
  pub sizes : (tag : ℕ) (x : Structure) → slice_get c.scope.file.structs tag ≡ Some x → slice_index_or c.sizes tag 1 ≡ length x.layout.cells
  pub structs : (tag : ℕ) (x : Structure) → slice_get c.scope.file.structs tag ≡ Some x → IsLaidOut c.scope.file.structs x
  pub fields : (tag number : ℕ) (x : Structure) (f : Member) → slice_get c.scope.file.structs tag ≡ Some x → slice_get x.fields number ≡ Some f
      → ObjectIsKnown s f.ty

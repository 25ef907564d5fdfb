-- What is so of declarations, in other words than those of the definitions.
use Rattle.std.specs.Prelude.{◌≡◌, ◌≢◌, ℕ, suc, ◌+◌, ◌<◌, ◌≤◌, ℤ, pos, ◌+ℤ◌, Bool, true, false, ◌&&◌, is_some, List, [], ◌∷◌, ◌++◌, map, length, slice_get, Option, Some, None, Ok}
use Rattle.wp_base.specs.declared.kinds.Layout.{Layout}
use Rattle.c_kinds.specs.Layouts.{size, all_cells, places}
use Rattle.c_syntax.specs.Expr as e
use Rattle.c_syntax.specs.Decl as decl
use Rattle.typed_prog.specs.declared.operators.Variable.TheVariants as variable_of
use Rattle.typed_prog.specs.declared.operators.Op.{Op}
use Rattle.typed_prog.specs.declared.operators.Op.TheVariants as op
use Rattle.typed_prog.specs.Tree as t
use Rattle.name_table.specs.Names.{Names, meaning_of}
use Rattle.c_answers.specs.Answers.{unknown}
use Rattle.c_contexts.specs.Contexts.{constant_number}
use Rattle.c_scopes.specs.declared.symbols.Symbol.{Symbol}
use Rattle.c_scopes.specs.declared.symbols.Symbol.TheVariants as symbol
use Rattle.c_scopes.specs.declared.symbols.Tag.{Tag}
use Rattle.c_scopes.specs.declared.symbols.Tag.TheVariants as tag
use Rattle.c_scopes.specs.declared.symbols.Field.{Field}
use Rattle.c_scopes.specs.declared.symbols.Resolved.{Resolved}
use Rattle.c_scopes.specs.declared.symbols.Structure.{Structure}
use Rattle.c_scopes.specs.Extents.{most_struct_cells}
use Rattle.c_scopes.specs.Laws.{Extends}
use Rattle.c_variables.specs.declared.context.Context.{Context}
use Rattle.c_variables.specs.Contexts.{around_of}
use Rattle.c_decls.specs.declared.enums.Counted.{Counted}
use Rattle.c_decls.specs.Structs.{struct_declared}
use Rattle.c_decls.specs.Enums.{items, enumerator, enum_declared, typedef_declared}
use Rattle.c_decls.specs.Constants.{is_of_file, is_constant}
use Rattle.c_decls.specs.Globals.{Inits, global, globals_declared}

-- ---- enumerators

-- the name is a constant with this number
abbrev pub StandsFor : Context → List ℕ → ℤ → Type 0
StandsFor c x z = meaning_of c.scope.file.names x ≡ Some (symbol.Enumerator z)

-- no number is written
abbrev pub AllBare : List e.VarDecl → Type 0
AllBare [] = Unit {0}
AllBare (d ∷ ds) = (d.init ≡ None) × AllBare ds

-- The number of an enumerator is what is written, as it comes to behind the enumerators before it.
pub record IsWritten (c : Context) (before : List e.VarDecl) (a : e.Expr) (z : ℤ) : Type 0 where
  pub there : Context
  pub counted : Counted
  pub behind : items c before ≡ Ok (there, counted)
  pub number : constant_number (around_of there) a ≡ Ok z

-- What the enumerators of a type stand for once it is declared. The first of all is 0 where no number is written; one with a number is that number; and those
-- without numbers behind any enumerator count up from that one.
pub record CountsUp (c : Context) (ds : List e.VarDecl) (c' : Context) : Type 0 where
  pub first : (d : e.VarDecl) (rest : List e.VarDecl) → ds ≡ d ∷ rest → d.init ≡ None → StandsFor c' d.name (pos 0)
  pub written : (before rest : List e.VarDecl) (d : e.VarDecl) (a : e.Expr) → ds ≡ before ++ d ∷ rest → d.init ≡ Some a
      → (z : ℤ) × IsWritten c before a z × StandsFor c' d.name z
  pub counted : (before bare rest : List e.VarDecl) (d f : e.VarDecl) (z : ℤ) → ds ≡ before ++ d ∷ (bare ++ f ∷ rest) → AllBare bare → f.init ≡ None
      → StandsFor c' d.name z → StandsFor c' f.name (z +ℤ pos (suc (length bare)))

abbrev pub NumbersCountUp : Type 0
NumbersCountUp = (c c' : Context) (d : decl.EnumDecl) → enum_declared c d ≡ Ok c' → CountsUp c d.items c'

-- ---- structs

abbrev pub type_of_field : Field → Resolved
type_of_field f = record { ty = f.ty; is_const = f.is_const }

-- each field has the layout of its type, among these structs
abbrev pub FieldsExtend : List Structure → List Field → List Layout → Type 0
FieldsExtend ss [] [] = Unit {0}
FieldsExtend ss (f ∷ fs) (p ∷ ps) = Extends ss (type_of_field f) p × FieldsExtend ss fs ps
FieldsExtend ss _ _ = ⊥

abbrev pub sizes_of : List Layout → ℕ
sizes_of [] = 0
sizes_of (p ∷ ps) = size p + sizes_of ps

abbrev pub names_of : List e.VarDecl → List (List ℕ)
names_of ds = map (λ d. d.name) ds

abbrev pub field_names : List Field → List (List ℕ)
field_names fs = map (λ f. f.name) fs

-- One struct more, with the next number, which its tag stands for. It has the fields that are spelled, each with the cells of its type at the cell behind those
-- before it; so many cells are noted of it as its layout has, which are those of its fields together, and at most 64.
pub record IsLaidOut (c : Context) (d : decl.StructDecl) (c' : Context) : Type 0 where
  pub made : Structure
  pub parts : List Layout
  pub cells : ℕ
  pub structs : c'.scope.file.structs ≡ c.scope.file.structs ++ made ∷ []
  pub sizes : c'.sizes ≡ c.sizes ++ cells ∷ []
  pub tagged : meaning_of c'.scope.file.tags d.name ≡ Some (tag.Struct (length c.scope.file.structs))
  pub named : field_names made.fields ≡ names_of d.fields
  pub extend : FieldsExtend c.scope.file.structs made.fields parts
  pub offsets : made.layout.fields ≡ places 0 parts
  pub laid : made.layout.cells ≡ all_cells parts
  pub counted : cells ≡ length made.layout.cells
  pub summed : cells ≡ sizes_of parts
  pub within : cells ≤ most_struct_cells

abbrev pub StructsAreLaidOut : Type 0
StructsAreLaidOut = (c c' : Context) (d : decl.StructDecl) → struct_declared c d ≡ Ok c' → IsLaidOut c d c'

-- ---- names are declared once in a scope

-- a name or a tag that was declared stays what it is
pub record Keeps (c c' : Context) : Type 0 where
  pub names : (x : List ℕ) (s : Symbol) → meaning_of c.scope.file.names x ≡ Some s → meaning_of c'.scope.file.names x ≡ Some s
  pub tags : (x : List ℕ) (k : Tag) → meaning_of c.scope.file.tags x ≡ Some k → meaning_of c'.scope.file.tags x ≡ Some k

-- a further declaration of the tag is a fault at its line
pub record IsTakenTag (c : Context) (x : List ℕ) : Type 0 where
  pub structs : (d : decl.StructDecl) → d.name ≡ x → struct_declared c d ≡ unknown d.line
  pub enums : (d : decl.EnumDecl) → d.name ≡ Some x → enum_declared c d ≡ unknown d.line

-- a further declaration of the name as a typedef name or an enumerator is a fault at its line
pub record IsTaken (c : Context) (x : List ℕ) : Type 0 where
  pub typedefs : (d : e.VarDecl) → d.name ≡ x → typedef_declared c d ≡ unknown d.line
  pub enumerators : (d : e.VarDecl) (next : ℤ) → d.name ≡ x → enumerator c next d ≡ unknown d.line

-- and one as a variable too
pub record IsNoVariable (c : Context) (x : List ℕ) : Type 0 where
  pub others : IsTaken c x
  pub variables : (taken : Names Bool) (inits : Inits) (d : e.VarDecl) → d.name ≡ x → global taken (c, inits) d ≡ unknown d.line

abbrev pub NoVariables : Context → List e.VarDecl → Type 0
NoVariables c [] = Unit {0}
NoVariables c (d ∷ ds) = IsNoVariable c d.name × NoVariables c ds

abbrev pub AllTaken : Context → List e.VarDecl → Type 0
AllTaken c [] = Unit {0}
AllTaken c (d ∷ ds) = IsTaken c d.name × AllTaken c ds

-- the names differ
abbrev pub IsOther : List ℕ → List (List ℕ) → Type 0
IsOther x [] = Unit {0}
IsOther x (y ∷ ys) = (x ≢ y) × IsOther x ys

abbrev pub Differ : List (List ℕ) → Type 0
Differ [] = Unit {0}
Differ (x ∷ xs) = IsOther x xs × Differ xs

pub record StructIsDeclared (d : decl.StructDecl) (c c' : Context) : Type 0 where
  pub keeps : Keeps c c'
  pub tag : IsTakenTag c' d.name
  pub fields : Differ (names_of d.fields)

pub record EnumIsDeclared (d : decl.EnumDecl) (c c' : Context) : Type 0 where
  pub keeps : Keeps c c'
  pub tag : (x : List ℕ) → d.name ≡ Some x → IsTakenTag c' x
  pub enumerators : NoVariables c' d.items
  pub differ : Differ (names_of d.items)

pub record TypedefIsDeclared (d : e.VarDecl) (c c' : Context) : Type 0 where
  pub keeps : Keeps c c'
  pub name : IsNoVariable c' d.name

pub record GlobalsAreDeclared (ds : List e.VarDecl) (c c' : Context) : Type 0 where
  pub keeps : Keeps c c'
  pub names : AllTaken c' ds

-- What a declaration declares is a fault where it is declared again as something else, and but for a variable also as the same; fields of a struct have names
-- that differ; and what was declared before stays what it is.
pub record IsDeclaredOnce (c c' : Context) : Type 0 where
  pub structs : (d : decl.StructDecl) → struct_declared c d ≡ Ok c' → StructIsDeclared d c c'
  pub enums : (d : decl.EnumDecl) → enum_declared c d ≡ Ok c' → EnumIsDeclared d c c'
  pub typedefs : (d : e.VarDecl) → typedef_declared c d ≡ Ok c' → TypedefIsDeclared d c c'
  pub variables : (taken : Names Bool) (inits inits' : Inits) (ds : List e.VarDecl) → globals_declared taken c inits ds ≡ Ok (c', inits')
      → GlobalsAreDeclared ds c c'

abbrev pub NamesAreDeclaredOnce : Type 0
NamesAreDeclaredOnce = (c c' : Context) → IsDeclaredOnce c c'

-- ---- constants

-- an operator that reads no object, and whose objects lie in variables of the file
abbrev pub reads_none : Op → Bool
reads_none (op.Read path) = false
reads_none (op.Address path accessed) = is_of_file path.root
reads_none (op.Decay path accessed) = is_of_file path.root
reads_none _ = true

-- no part of it reads an object, goes through a pointer or changes something
abbrev mutual
  pub is_still : t.Value → Bool
  is_still (t.typed node type line) = is_still_node node

  pub is_still_node : t.ValueNode → Bool
  is_still_node (t.constant z) = true
  is_still_node t.null = true
  is_still_node (t.temporary number) = false
  is_still_node (t.apply o vs) = reads_none o && are_still vs
  is_still_node (t.logic how a b) = is_still a && is_still b
  is_still_node (t.choose test a b) = is_still test && is_still a && is_still b
  is_still_node (t.effect e vs) = false

  pub are_still : t.Values → Bool
  are_still t.stop = true
  are_still (t.more v vs) = is_still v && are_still vs

abbrev pub ConstantsReadNothing : Type 0
ConstantsReadNothing = (v : t.Value) → is_constant v ≡ true → is_still v ≡ true

-- ---- variables

-- the name is the variable with this number
abbrev pub IsVariable : Context → List ℕ → ℕ → Type 0
IsVariable c x n = meaning_of c.scope.file.names x ≡ Some (symbol.Object (variable_of.Global n))

-- There is a flag and a place for an initialiser of each variable of the file, and a name of a variable has the number of one.
pub record HasPlaces (c : Context) (inits : Inits) : Type 0 where
  pub flags : length c.globals ≡ length c.scope.file.globals
  pub places : length inits ≡ length c.scope.file.globals
  pub numbers : (x : List ℕ) (n : ℕ) → IsVariable c x n → n < length c.scope.file.globals

-- the initialisers that are there are constants
abbrev pub ConstantIf : Option t.Value → Type 0
ConstantIf None = Unit {0}
ConstantIf (Some v) = is_constant v ≡ true

abbrev pub AllConstant : Inits → Type 0
AllConstant [] = Unit {0}
AllConstant (init ∷ inits) = ConstantIf init × AllConstant inits

-- a variable with an initialiser has its value in its place
abbrev pub HasValue : Context → Inits → List ℕ → Type 0
HasValue c inits x = (n : ℕ) × IsVariable c x n × ((v : t.Value) × (slice_get inits n ≡ Some (Some v)))

abbrev pub AllInitialised : Context → Inits → List e.VarDecl → Type 0
AllInitialised c inits [] = Unit {0}
AllInitialised c inits (d ∷ ds) = (is_some d.init ≡ true → HasValue c inits d.name) × AllInitialised c inits ds

-- Variables that were declared have their places, and what an initialiser is written for has a value there, once and for all; such values are constants.
pub record VariablesAreThere (c : Context) (inits : Inits) (ds : List e.VarDecl) (c' : Context) (inits' : Inits) : Type 0 where
  pub places : HasPlaces c' inits'
  pub values : AllInitialised c' inits' ds
  pub once : (n : ℕ) (v : t.Value) → slice_get inits n ≡ Some (Some v) → slice_get inits' n ≡ Some (Some v)
  pub constants : AllConstant inits → AllConstant inits'

abbrev pub VariablesHavePlaces : Type 0
VariablesHavePlaces = (taken : Names Bool) (c c' : Context) (inits inits' : Inits) (ds : List e.VarDecl) → HasPlaces c inits
    → globals_declared taken c inits ds ≡ Ok (c', inits') → VariablesAreThere c inits ds c' inits'

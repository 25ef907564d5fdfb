-- Declarations of a typed file are in its program: what is asked of them, as typing leaves them.
use Rattle.std.specs.Prelude.{◌≡◌, ℕ, Bool, true, false, List, length, Some, slice_get, slice_index_or}
use Rattle.wp_base.specs.declared.kinds.Layout.{Layout}
use Rattle.typed_prog.specs.declared.operators.Variable.{Variable}
use Rattle.c_scopes.specs.declared.symbols.Object.{Object}
use Rattle.c_scopes.specs.declared.symbols.Structure.{Structure}
use Rattle.c_scopes.specs.Declarations.{object_of}
use Rattle.c_exprs.specs.Typing.{Around}
use Rattle.c_well_typed.specs.Operators.{IsScalar}
use Rattle.typed_unit.specs.Unit as u
use Rattle.c_programs.specs.Told.{Annotations}
use Rattle.c_programs.specs.Files.{variables_from, facts_of}
use Rattle.value_terms.specs.Typed.{Scope}
use Rattle.typed_values.specs.Declared.{HasLayout, IsLaidOut, Meets}
use Rattle.typed_values.specs.Files.{IsOfFile}

-- Each variable has a type of which an object can be, and each struct has the cells of its fields in order, as many as are noted of it (C11 6.7p7, 6.7.2.1p15).
pub record HasLayouts (c : Around) : Type 0 where
  pub variables : (x : Variable) (o : Object) → object_of c.scope x ≡ Some o → (l : Layout) × HasLayout c.scope.file.structs o.ty l
  pub structs : (tag : ℕ) (x : Structure) → slice_get c.scope.file.structs tag ≡ Some x → IsLaidOut c.scope.file.structs x
  pub sizes : (tag : ℕ) (x : Structure) → slice_get c.scope.file.structs tag ≡ Some x → slice_index_or c.sizes tag 1 ≡ length x.layout.cells

-- a variable that no pointer leads to is a scalar
abbrev pub PlainAreScalars : (plain : List Bool) → List Object → Type 0
PlainAreScalars ps os = (n : ℕ) (o : Object) → slice_get os n ≡ Some o → slice_index_or ps n false ≡ true → IsScalar o.ty

-- What is declared where an expression of a body stands is declared in the file, and keeps its number.
pub record StandsIn (f : u.Typed) (b : u.Body) (c : Around) : Type 0 where
  pub model : f.model ≡ c.model
  pub structs : (tag : ℕ) (x : Structure) → slice_get c.scope.file.structs tag ≡ Some x → slice_get f.file.structs tag ≡ Some x
  pub globals : (n : ℕ) (o : Object) → slice_get c.scope.file.globals n ≡ Some o → slice_get f.file.globals n ≡ Some o
  pub locals : (n : ℕ) (o : Object) → slice_get c.scope.local.objects n ≡ Some o → slice_get b.locals n ≡ Some o
  pub plain_globals : PlainAreScalars f.plain f.file.globals
  pub plain_locals : PlainAreScalars b.plain b.locals

-- So expressions of a body stand in the program, whatever is known of initial values.
abbrev pub ProgramsMeetTheirFiles : Type 0
ProgramsMeetTheirFiles =
    (f : u.Typed) (a : Annotations) (n : ℕ) (b : u.Body) → slice_get f.bodies n ≡ Some b → (c : Around) → HasLayouts c → StandsIn f b c → (s : Scope) → IsOfFile f s
    → (values : List Bool) → Meets c (facts_of f a) (variables_from f.file.structs b.plain values 0 b.locals) s

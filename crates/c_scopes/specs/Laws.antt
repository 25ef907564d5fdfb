-- What is so of scopes and types, in other words than those of the definitions.
use Rattle.std.specs.Prelude.{◌≡◌, ◌≢◌, ℕ, ◌≤◌, Bool, true, false, not, ℤ, List, [], ◌∷◌, length, map, ◌↔◌, Some, None, Ok, slice_get, ◌⊎◌, Option}
use Rattle.wp_base.specs.declared.kinds.Kind.{Kind}
use Rattle.wp_base.specs.declared.kinds.Layout.{Layout}
use Rattle.wp_base.specs.Blocks.{cells_of}
use Rattle.c_kinds.specs.Layouts.{all_cells}
use Rattle.c_syntax.specs.Expr as e
use Rattle.typed_prog.specs.declared.operators.Variable.{Variable}
use Rattle.typed_prog.specs.declared.operators.Variable.TheVariants as variable
use Rattle.typed_prog.specs.declared.types.Base.{Base}
use Rattle.typed_prog.specs.declared.types.Base.TheVariants as base
use Rattle.typed_prog.specs.declared.types.CoreType.{CoreType}
use Rattle.typed_prog.specs.Types.{type_with, of_kind}
use Rattle.name_table.specs.Names.{Names, meaning_of, is_free}
use Rattle.c_answers.specs.Answers.{Answer, after, unknown}
use Rattle.c_scopes.specs.declared.symbols.Symbol.{Symbol}
use Rattle.c_scopes.specs.declared.symbols.Symbol.TheVariants as symbol
use Rattle.c_scopes.specs.declared.symbols.Object.{Object}
use Rattle.c_scopes.specs.declared.symbols.Signature.{Signature}
use Rattle.c_scopes.specs.declared.symbols.Structure.{Structure}
use Rattle.c_scopes.specs.declared.symbols.Resolved.{Resolved}
use Rattle.c_scopes.specs.declared.file.File.{File}
use Rattle.c_scopes.specs.declared.local.Local.{Local}
use Rattle.c_scopes.specs.declared.scope.Scope.{Scope}
use Rattle.c_scopes.specs.Declarations.{with_object, with_function, with_typedef, with_struct_tag, with_enum_tag, with_block, without_block, is_free_here, with_local, find, object_of}
use Rattle.c_scopes.specs.Meanings.{plain, named, meaning, array_meaning, sized_parameter, parameter_of}
use Rattle.c_scopes.specs.Extents.{most_cells, element_cells, extent, most_struct_cells, cells_with}

-- ---- the file scope

-- After a declaration a new name is that symbol, and its number is that of the declared item; a name that was there changes nothing; other names and older
-- numbers stand for what they stood for.
pub record DeclaresAs {X : Type 0} (names names' : Names Symbol) (items items' : List X) (x : List ℕ) (what : Symbol) (item : X) : Type 0 where
  pub new : is_free names x ≡ true → meaning_of names' x ≡ Some what
  pub numbered : is_free names x ≡ true → slice_get items' (length items) ≡ Some item
  pub again : is_free names x ≡ false → (names' ≡ names) × (items' ≡ items)
  pub others : (y : List ℕ) → y ≢ x → meaning_of names' y ≡ meaning_of names y
  pub older : (n : ℕ) (i : X) → slice_get items n ≡ Some i → slice_get items' n ≡ Some i

pub record FileDeclares (f : File) : Type 0 where
  pub objects : (o : Object)
      → DeclaresAs f.names (with_object f o).names f.globals (with_object f o).globals o.name (symbol.Object (variable.Global (length f.globals))) o
  pub functions : (g : Signature)
      → DeclaresAs f.names (with_function f g).names f.functions (with_function f g).functions g.name (symbol.Function (length f.functions)) g
  pub typedefs : (x : List ℕ) (t : Resolved)
      → DeclaresAs f.names (with_typedef f x t).names f.typedefs (with_typedef f x t).typedefs x (symbol.Typedef (length f.typedefs)) t

abbrev pub FilesDeclare : Type 0
FilesDeclare = (f : File) → FileDeclares f

-- ---- blocks

abbrev pub in_local : Scope → Local → Scope
in_local s l = record s { local = l }

abbrev pub initialising : Local → ℕ → Local
initialising l n = record l { initialising = Some n }

-- A new local hides what its name was, also while its own initialiser is read, where it isn't named; other names stay what they are; when the block is left,
-- all names are what they were outside.
pub record LocalHides (s : Scope) (o : Object) : Type 0 where
  pub new : is_free_here s.local o.name ≡ true → s.local.initialising ≡ None
      → find (in_local s (with_local s.local o)) o.name ≡ Some (symbol.Object (variable.Local (length s.local.objects)))
  pub not_yet : is_free_here s.local o.name ≡ true → find (in_local s (initialising (with_local s.local o) (length s.local.objects))) o.name ≡ None
  pub numbered : is_free_here s.local o.name ≡ true → object_of (in_local s (with_local s.local o)) (variable.Local (length s.local.objects)) ≡ Some o
  pub others : (y : List ℕ) → y ≢ o.name → find (in_local s (with_local s.local o)) y ≡ find s y
  pub older : (v : Variable) (p : Object) → object_of s v ≡ Some p → object_of (in_local s (with_local s.local o)) v ≡ Some p
  pub left : (y : List ℕ) → find (in_local s (without_block (with_local s.local o))) y ≡ find (in_local s (without_block s.local)) y

-- A block that begins hides nothing, all names are new in it, and it ends where it began.
pub record BlockBegins (s : Scope) : Type 0 where
  pub same : (y : List ℕ) → find (in_local s (with_block s.local)) y ≡ find s y
  pub free : (y : List ℕ) → is_free_here (with_block s.local) y ≡ true
  pub left : without_block (with_block s.local) ≡ s.local

pub record Nests (s : Scope) : Type 0 where
  pub locals : (o : Object) → LocalHides s o
  pub begins : BlockBegins s

abbrev pub ScopesNest : Type 0
ScopesNest = (s : Scope) → Nests s

-- ---- types

-- A new name of a type means that type, and a tag is one of its own sort alone.
pub record NamesMean (f : File) (line : ℕ) : Type 0 where
  pub typedefs : (x : List ℕ) (t : Resolved) → is_free f.names x ≡ true → meaning (with_typedef f x t) line (e.named x) ≡ Ok t
  pub structs : (x : List ℕ) → is_free f.tags x ≡ true
      → meaning (with_struct_tag f x) line (e.struct_of x) ≡ Ok (plain (type_with (base.Struct (length f.structs)) [] None))
  pub enums : (x : List ℕ) (k : Kind) → is_free f.tags x ≡ true → meaning (with_enum_tag f x k) line (e.enum_of x) ≡ Ok (plain (of_kind k))
  pub no_enum : (x : List ℕ) → is_free f.tags x ≡ true → meaning (with_struct_tag f x) line (e.enum_of x) ≡ unknown line
  pub no_struct : (x : List ℕ) (k : Kind) → is_free f.tags x ≡ true → meaning (with_enum_tag f x k) line (e.struct_of x) ≡ unknown line

abbrev pub TypeNamesMean : Type 0
TypeNamesMean = (f : File) (line : ℕ) → NamesMean f line

-- the spelled type of these stars, the outermost first, on a type without stars
abbrev pub qualified : Bool → e.CType → e.CType
qualified true c = e.constant c
qualified false c = c

abbrev pub spelled : e.CType → Bool → List Bool → e.CType
spelled root is_const [] = qualified is_const root
spelled root is_const (star ∷ stars) = qualified is_const (e.pointer (spelled root star stars))

-- Every pointer type is what its own spelling means.
abbrev pub PointersAreSpelled : Type 0
PointersAreSpelled = (f : File) (line : ℕ) (c : e.CType) (root : Base) (is_const : Bool) (stars : List Bool)
    → named f line c ≡ Ok (Some (plain (type_with root [] None))) → root ≢ base.Void
    → named f line (spelled c is_const stars) ≡ Ok (Some (record { ty = type_with root stars None; is_const = is_const }))

-- No pointer leads to `void`, and no array has elements of it.
abbrev pub VoidAlone : CoreType → Type 0
VoidAlone type = type.base ≡ base.Void → (type.stars ≡ []) × (type.count ≡ None)

abbrev pub AllAlone : List Resolved → Type 0
AllAlone [] = Unit {0}
AllAlone (t ∷ ts) = VoidAlone t.ty × AllAlone ts

pub record VoidStandsAlone (f : File) (line : ℕ) (t : Resolved) : Type 0 where
  pub types : (c : e.CType) → named f line c ≡ Ok (Some t) → VoidAlone t.ty
  pub arrays : (length_line : ℕ) (element : Resolved) (z : ℤ) → VoidAlone element.ty → array_meaning line length_line (Some element) z ≡ Ok t → VoidAlone t.ty
  pub sized_parameters : (length_line : ℕ) (element : Resolved) (z : ℤ) → VoidAlone element.ty
      → sized_parameter line length_line (Some element) z ≡ Ok t → VoidAlone t.ty
  pub parameters : VoidAlone t.ty → VoidAlone (parameter_of t).ty

abbrev pub VoidsStandAlone : Type 0
VoidsStandAlone = (f : File) (line : ℕ) (t : Resolved) → AllAlone f.typedefs → VoidStandsAlone f line t

-- A parameter is the same, spelled as an array or by a typedef name of this array: a pointer to its elements.
abbrev pub ParametersPoint : Type 0
ParametersPoint = (line length_line : ℕ) (element : Option Resolved) (z : ℤ) (t : Resolved)
    → array_meaning line length_line element z ≡ Ok t → sized_parameter line length_line element z ≡ Ok (parameter_of t)

-- ---- cells

-- An object can have the type, and is within the limit, exactly where its layout is this: the cells of each element, as many elements as the array has, or one,
-- and written where it isn't constant.
pub record Extends (ss : List Structure) (t : Resolved) (l : Layout) : Type 0 where
  pub elements : element_cells ss t.ty.base t.ty.stars ≡ Some l.cells
  pub count : (t.ty.count ≡ Some l.count) ⊎ ((t.ty.count ≡ None) × (l.count ≡ 1))
  pub within : length (cells_of l) ≤ most_cells
  pub writable : l.writable ≡ not t.is_const

abbrev pub ExtentsAreWithin : Type 0
ExtentsAreWithin = (ss : List Structure) (line : ℕ) (t : Resolved) (l : Layout) → (extent ss line t ≡ Ok l) ↔ Extends ss t l

-- how many cells the fields have, each with its line, behind those before them
abbrev pub cells_through : (before : ℕ) → List (ℕ × Layout) → Answer ℕ
cells_through before [] = Ok before
cells_through before (p ∷ ps) = after (cells_with p.0 before p.1) (λ cells. cells_through cells ps)

abbrev pub parts_of : List (ℕ × Layout) → List Layout
parts_of ps = map (λ p. p.1) ps

-- The fields of a struct are within the limit one by one exactly where its cells are, and then their number is that of its cells.
abbrev pub StructsAreWithin : Type 0
StructsAreWithin = (ps : List (ℕ × Layout)) (n : ℕ) → (cells_through 0 ps ≡ Ok n) ↔ ((n ≡ length (all_cells (parts_of ps))) × (n ≤ most_struct_cells))

-- Which cells a typed file has to speak of, told by the types in it: those of its variables and of the fields of its structs, those that functions give, and
-- those of null pointers. No expression makes a pointer to anything else.
use Rattle.std.specs.Prelude.{◌≡◌, ℕ, ◌+◌, Bool, true, false, ◌||◌, if◌then◌else◌, List, [], ◌∷◌, ◌++◌, map, flat_map, Option, Some, None, slice_get, slice_index_or}
use Rattle.std.specs.List.{list_any}
use Rattle.wp_base.specs.declared.kinds.CellKind.{CellKind}
use Rattle.wp_base.specs.declared.kinds.CellKind.TheVariants as cell
use Rattle.wp_base.specs.Blocks.{same_cell}
use Rattle.typed_prog.specs.declared.types.Base.{Base}
use Rattle.typed_prog.specs.declared.types.Base.TheVariants as base
use Rattle.typed_prog.specs.declared.types.CoreType.{CoreType}
use Rattle.typed_prog.specs.Tree as t
use Rattle.c_scopes.specs.declared.symbols.Object.{Object}
use Rattle.c_scopes.specs.declared.symbols.Signature.{Signature}
use Rattle.c_scopes.specs.declared.symbols.Structure.{Structure}
use Rattle.c_scopes.specs.declared.symbols.Field.{Field as Member}
use Rattle.typed_unit.specs.Stmt as s
use Rattle.typed_unit.specs.Unit as u
use Rattle.value_terms.specs.Typed.{Scope}
use Rattle.typed_values.specs.Kinds.{ObjectIsKnown, TargetIsKnown}

-- ---- the cells of a type

-- an object's own, and those of what pointers in it lead to; the fields of a struct have types of their own
abbrev pub object_cells : Base → List Bool → List CellKind
object_cells (base.Of k) [] = cell.Of k ∷ []
object_cells base.Void [] = []
object_cells (base.Struct n) [] = []
object_cells b (star ∷ stars) = cell.Ptr ∷ object_cells b stars

-- those of what a pointer leads to
abbrev pub target_cells : Base → List Bool → List CellKind
target_cells b [] = []
target_cells b (star ∷ stars) = object_cells b stars

abbrev pub cells_in : CoreType → List CellKind
cells_in type = object_cells type.base type.stars

abbrev pub cells_behind : CoreType → List CellKind
cells_behind type = target_cells type.base type.stars

abbrev pub has_items : {X : Type 0} → List X → Bool
has_items [] = false
has_items (x ∷ xs) = true

-- pointers, and arrays of them
abbrev pub has_pointers : CoreType → Bool
has_pointers type = has_items type.stars

-- ---- null pointers

-- the types of those in a value
abbrev mutual
  pub node_nulls : CoreType → t.ValueNode → List CoreType
  node_nulls type (t.constant z) = []
  node_nulls type t.null = type ∷ []
  node_nulls type (t.temporary n) = []
  node_nulls type (t.apply o es) = all_nulls es
  node_nulls type (t.logic c a b) = nulls a ++ nulls b
  node_nulls type (t.choose c a b) = nulls c ++ (nulls a ++ nulls b)
  node_nulls type (t.effect e es) = all_nulls es

  pub nulls : t.Value → List CoreType
  nulls (t.typed node type line) = node_nulls type node

  pub all_nulls : t.Values → List CoreType
  all_nulls t.stop = []
  all_nulls (t.more e es) = nulls e ++ all_nulls es

abbrev pub nulls_if : Option t.Value → List CoreType
nulls_if None = []
nulls_if (Some e) = nulls e

abbrev pub initial_nulls : List s.Declared → List CoreType
initial_nulls [] = []
initial_nulls (x ∷ xs) = nulls_if x.init ++ initial_nulls xs

-- and in a statement
abbrev mutual
  pub stmt_nulls : s.Stmt → List CoreType
  stmt_nulls (s.empty line) = []
  stmt_nulls (s.expr line v) = nulls v
  stmt_nulls (s.block line body) = stmts_nulls body
  stmt_nulls (s.locals line vars) = initial_nulls vars
  stmt_nulls (s.if_else line test a b) = nulls test ++ (stmt_nulls a ++ stmt_nulls b)
  stmt_nulls (s.loop_of line annot turns body) = nulls_if turns.before ++ (nulls_if turns.behind ++ (nulls_if turns.step ++ stmt_nulls body))
  stmt_nulls (s.switch line v body) = nulls v ++ stmts_nulls body
  stmt_nulls (s.case_of line z) = []
  stmt_nulls (s.default line) = []
  stmt_nulls (s.break line) = []
  stmt_nulls (s.continue line) = []
  stmt_nulls (s.return_of line v) = nulls_if v
  stmt_nulls (s.assert line q) = []

  pub stmts_nulls : s.Stmts → List CoreType
  stmts_nulls s.stop = []
  stmts_nulls (s.more x xs) = stmt_nulls x ++ stmts_nulls xs

-- ---- the types in a file

abbrev pub type_of : Object → CoreType
type_of o = o.ty

-- of these variables, from this number on, those that pointers lead to
abbrev pub in_blocks : (plain : List Bool) → (number : ℕ) → List Object → List CoreType
in_blocks ps n [] = []
in_blocks ps n (o ∷ os) = if slice_index_or ps n false then in_blocks ps (n + 1) os else o.ty ∷ in_blocks ps (n + 1) os

abbrev pub body_objects : u.Body → List CoreType
body_objects b = in_blocks b.plain 0 b.locals

abbrev pub body_values : u.Body → List CoreType
body_values b = map type_of b.locals ++ stmt_nulls b.stmt

abbrev pub field_type : Member → CoreType
field_type f = f.ty

abbrev pub field_types : Structure → List CoreType
field_types x = map field_type x.fields

abbrev pub result_type : Signature → CoreType
result_type g = g.result

-- of objects in blocks
unfoldable pub object_types : u.Typed → List CoreType
object_types t = in_blocks t.plain 0 t.file.globals ++ (flat_map body_objects t.bodies ++ flat_map field_types t.file.structs)

-- of values
unfoldable pub value_types : u.Typed → List CoreType
value_types t = map type_of t.file.globals ++ (flat_map body_values t.bodies ++ map result_type t.file.functions)

-- ---- its cells

-- there is an object in a block, or a pointer
unfoldable pub has_blocks : u.Typed → Bool
has_blocks t = has_items (object_types t) || list_any has_pointers (value_types t)

unfoldable pub cell_kinds : u.Typed → List CellKind
cell_kinds t = flat_map cells_in (object_types t) ++ flat_map cells_behind (value_types t)

unfoldable pub has_kind : u.Typed → CellKind → Bool
has_kind t k = list_any (same_cell k) (cell_kinds t)

-- a scope of the file
pub record IsOfFile (f : u.Typed) (s : Scope) : Type 0 where
  pub blocks : s.has_blocks ≡ has_blocks f
  pub kinds : (k : CellKind) → s.has_kind k ≡ has_kind f k

-- ---- what is so of them

pub record VariableIsKnown (s : Scope) (o : Object) (is_plain : Bool) : Type 0 where
  pub target : TargetIsKnown s o.ty
  pub blocks : is_plain ≡ false → s.has_blocks ≡ true
  pub object : is_plain ≡ false → ObjectIsKnown s o.ty

abbrev pub VariablesAreKnown : Scope → (plain : List Bool) → List Object → Type 0
VariablesAreKnown s ps os = (n : ℕ) (o : Object) → slice_get os n ≡ Some o → VariableIsKnown s o (slice_index_or ps n false)

pub record BodyIsKnown (s : Scope) (b : u.Body) : Type 0 where
  pub locals : VariablesAreKnown s b.plain b.locals
  pub nulls : (n : ℕ) (type : CoreType) → slice_get (stmt_nulls b.stmt) n ≡ Some type → TargetIsKnown s type

pub record FileIsKnown (f : u.Typed) (s : Scope) : Type 0 where
  pub globals : VariablesAreKnown s f.plain f.file.globals
  pub bodies : (n : ℕ) (b : u.Body) → slice_get f.bodies n ≡ Some b → BodyIsKnown s b
  pub fields : (tag number : ℕ) (x : Structure) (m : Member) → slice_get f.file.structs tag ≡ Some x → slice_get x.fields number ≡ Some m → ObjectIsKnown s m.ty
  pub results : (n : ℕ) (g : Signature) → slice_get f.file.functions n ≡ Some g → TargetIsKnown s g.result

-- All that variables, fields, results and null pointers of the file lead to is among its cells.
abbrev pub FilesKnowTheirCells : Type 0
FilesKnowTheirCells = (f : u.Typed) (s : Scope) → IsOfFile f s → FileIsKnown f s

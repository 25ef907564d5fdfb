-- What else a typed annotation needs so that it has a formula: a test of trees beside that of their types (ACSL 2.2, 2.3.4, 2.6.3, 2.7). An object is used as
-- what it is; what is read, the table, `\result` and logic functions are there.
use Rattle.std.specs.Prelude.{◌==◌, Bool, true, false, ◌&&◌, List, [], ◌∷◌, length, Option, Some, None, slice_get}
use Rattle.std.specs.List.{list_all}
use Rattle.wp_base.specs.declared.kinds.Kind.{Kind}
use Rattle.wp_base.specs.declared.kinds.CellKind.{CellKind}
use Rattle.wp_base.specs.declared.kinds.CellKind.TheVariants as cell
use Rattle.c_kinds.specs.declared.models.Machdep.{Machdep}
use Rattle.c_kinds.specs.Conversions.{holds_all}
use Rattle.typed_prog.specs.declared.operators.Variable.TheVariants as variables
use Rattle.acsl_trees.specs.declared.heads.Content.{Content}
use Rattle.acsl_trees.specs.declared.heads.Content.TheVariants as content
use Rattle.acsl_trees.specs.declared.heads.Head.{Head}
use Rattle.acsl_trees.specs.declared.heads.Head.TheVariants as head
use Rattle.acsl_trees.specs.declared.operands.TermType.{TermType}
use Rattle.acsl_trees.specs.declared.operands.TermType.TheVariants as type
use Rattle.acsl_trees.specs.Tree.{Tree, Trees, node, stop, more}
use Rattle.acsl_names.specs.declared.names.Definition.{Definition}
use Rattle.acsl_encode.specs.Readings.{Named, one, two, Global, integer_global, pointer_global, Called}
use Rattle.acsl_well_typed.specs.WellTyped.{What, an_integer, a_pointer, Known, returned}
use Rattle.annotations_encoded.specs.Sights.{Site, holds_integer, holds_pointer, Sight, Sights, moved, sight_in}
use Rattle.annotations_encoded.specs.Shapes.{Shape, an_address, a_variable, a_set, no_shape, shape}

-- ---- objects

-- a variable that no pointer leads to holds this
abbrev pub holds_content : Content → Site → Bool
holds_content (content.Integer k) (holds_integer l) = true
holds_content content.Pointer holds_pointer = true
holds_content _ _ = false

-- there is a memory of the cells of a scalar
abbrev pub has_content : Content → Sight → Bool
has_content (content.Integer k) s = s.has_kind (cell.Of k)
has_content content.Pointer s = s.has_kind cell.Ptr
has_content (content.Struct n) s = false

-- what is read in this state
abbrev pub is_read : Content → Sight → Shape → Bool
is_read c s an_address = has_content c s
is_read c s (a_variable x) = holds_content c (s.site x)
is_read c s (a_set size) = false
is_read c s no_shape = false

abbrev pub is_address : Shape → Bool
is_address an_address = true
is_address _ = false

-- addresses, of which each may be one that is read or written
abbrev pub is_reach : Shape → Bool
is_reach an_address = true
is_reach (a_set size) = true
is_reach _ = false

abbrev pub cells_of : Sights → Content → List CellKind
cells_of g (content.Integer k) = cell.Of k ∷ []
cells_of g content.Pointer = cell.Ptr ∷ []
cells_of g (content.Struct n) = g.structs n

-- an object, or elements that have these cells
abbrev pub is_region : List CellKind → Shape → Bool
is_region ks an_address = true
is_region ks (a_set size) = size == length ks
is_region ks _ = false

-- ---- `\result`

abbrev pub is_result : (typed given : Option What) → Bool
is_result (Some an_integer) (Some an_integer) = true
is_result (Some a_pointer) (Some a_pointer) = true
is_result _ _ = false

-- ---- logic functions that call themselves

-- they give integers
abbrev pub gives_integer : Option TermType → Bool
gives_integer None = true
gives_integer (Some type.Integer) = true
gives_integer (Some (type.Pointer t)) = false
gives_integer (Some type.Unknown) = false

abbrev pub are_params : List TermType → List Named → Bool
are_params [] [] = true
are_params (type.Integer ∷ ts) (one x ∷ ps) = are_params ts ps
are_params (type.Pointer t ∷ ts) (two b o ∷ ps) = are_params ts ps
are_params _ _ = false

abbrev pub holds_kind : Machdep → Kind → Site → Bool
holds_kind m k (holds_integer (Some l)) = holds_all m k l
holds_kind m k _ = false

abbrev pub is_pointer_site : Site → Bool
is_pointer_site holds_pointer = true
is_pointer_site _ = false

abbrev pub has_global : Machdep → Sight → Global → Bool
has_global m s (integer_global n k x) = holds_kind m k (s.site (variables.Global n))
has_global m s (pointer_global n b o) = is_pointer_site (s.site (variables.Global n))

-- called with as many arguments, which are of its sorts, and with memories and variables that are there
abbrev pub may_call : Sights → Option Definition → Option Called → Bool
may_call g (Some d) (Some c) =
    gives_integer d.result && (are_params d.params c.params && (list_all g.here.has_kind c.memories && list_all (has_global g.model g.here) c.globals))
may_call g _ _ = false

-- ---- trees

abbrev pub node_serves : Known → Sights → Head → Trees → Bool
node_serves k g (head.Call i) ks = may_call g (slice_get k.definitions i) (g.called i)
node_serves k g head.Result ks = is_result (returned k.result) g.result
node_serves k g (head.Read c l) (more t ts) = is_read c (sight_in l g) (shape g t)
node_serves k g head.Address (more t ts) = is_address (shape g t)
node_serves k g (head.Valid c writable) (more t ts) = g.here.has_table && is_reach (shape g t)
node_serves k g (head.Region c) (more t ts) = is_region (cells_of g c) (shape g t)
node_serves k g h ks = true

-- the states that a node's kids are read in
abbrev pub inside : Head → Sights → Sights
inside (head.At l) g = moved l g
inside h g = g

abbrev mutual
  pub serves : Known → Sights → Tree → Bool
  serves k g (node h ks) = node_serves k g h ks && all_serve k (inside h g) ks

  pub all_serve : Known → Sights → Trees → Bool
  all_serve k g stop = true
  all_serve k g (more t ts) = serves k g t && all_serve k g ts

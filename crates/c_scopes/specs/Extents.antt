-- The cells of an object (C11 6.2.5p20, 6.7.2.1p15): those of each of its elements. A type of which no object can be has none: `void`, and a struct whose
-- fields aren't all declared.
use Rattle.std.specs.Prelude.{ℕ, ◌+◌, Bool, not, nat_le, List, [], ◌∷◌, Option, Some, None, slice_get, if◌then◌else◌, Ok}
use Rattle.std.specs.Option.{unwrap_or}
use Rattle.wp_base.specs.declared.kinds.CellKind.{CellKind}
use Rattle.wp_base.specs.declared.kinds.CellKind.TheVariants as cell
use Rattle.wp_base.specs.declared.kinds.Layout.{Layout}
use Rattle.typed_prog.specs.declared.types.Base.{Base}
use Rattle.typed_prog.specs.declared.types.Base.TheVariants as base
use Rattle.c_kinds.specs.Layouts.{size}
use Rattle.c_answers.specs.Answers.{Answer, wrong, too_large}
use Rattle.c_scopes.specs.declared.symbols.Structure.{Structure}
use Rattle.c_scopes.specs.declared.symbols.Resolved.{Resolved}

-- how many cells an object has at most
abbrev pub most_cells : ℕ
most_cells = 1000000

abbrev pub struct_cells : Option Structure → Option (List CellKind)
struct_cells (Some s) = Some s.layout.cells
struct_cells None = None

-- the cells of one element
abbrev pub element_cells : List Structure → Base → List Bool → Option (List CellKind)
element_cells ss root (star ∷ stars) = Some (cell.Ptr ∷ [])
element_cells ss base.Void [] = None
element_cells ss (base.Of k) [] = Some (cell.Of k ∷ [])
element_cells ss (base.Struct n) [] = struct_cells (slice_get ss n)

abbrev pub layout_with : Resolved → List CellKind → Layout
layout_with t cells = record { count = unwrap_or t.ty.count 1; cells = cells; writable = not t.is_const }

-- the layout of an object within the limit of cells
abbrev pub held : (line : ℕ) → Resolved → Option (List CellKind) → Answer Layout
held line t None = wrong line
held line t (Some cells) = if nat_le (size (layout_with t cells)) most_cells then Ok (layout_with t cells) else too_large line

abbrev pub extent : List Structure → (line : ℕ) → Resolved → Answer Layout
extent ss line t = held line t (element_cells ss t.ty.base t.ty.stars)

-- ---- structs

-- how many cells a struct has at most
abbrev pub most_struct_cells : ℕ
most_struct_cells = 64

-- how many cells the fields of a struct have with one more; the fault is that of the field with which they are too many
abbrev pub cells_with : (line before : ℕ) → Layout → Answer ℕ
cells_with line before part = if nat_le (before + size part) most_struct_cells then Ok (before + size part) else too_large line

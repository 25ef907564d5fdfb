-- What a program may have to speak of: blocks at all, and cells of a kind. Which of them a file has is told by what is said of in it.
use Rattle.std.specs.Prelude.{◌≡◌, ℕ, Bool, true, false, List, [], ◌∷◌, map, Option, Some, None}
use Rattle.std.specs.List.{list_any, list_all}
use Rattle.wp_base.specs.declared.kinds.CellKind.{CellKind}
use Rattle.wp_base.specs.declared.kinds.CellKind.TheVariants as cell
use Rattle.wp_base.specs.Blocks.{same_cell}
use Rattle.typed_prog.specs.declared.types.Base.{Base}
use Rattle.typed_prog.specs.declared.types.Base.TheVariants as base
use Rattle.typed_prog.specs.declared.types.CoreType.{CoreType}
use Rattle.c_runs.specs.Program.{Facts}
use Rattle.c_runs.specs.Claims.{struct_cells}
use Rattle.memory_words.specs.Shapes.{FileCells}

pub data Part : Type 0 where
  blocks : Part
  of_kind : (kind : CellKind) → Part

abbrev pub is_blocks : Part → Bool
is_blocks blocks = true
is_blocks (of_kind k) = false

abbrev pub is_of_kind : CellKind → Part → Bool
is_of_kind k blocks = false
is_of_kind k (of_kind l) = same_cell k l

-- the cells of a file in which all of these are spoken of, and no others
abbrev pub cells_among : List Part → FileCells
cells_among ps = record { has_blocks = list_any is_blocks ps; has_kind = λ k. list_any (is_of_kind k) ps }

abbrev pub is_part_of : FileCells → Part → Bool
is_part_of cells blocks = cells.has_blocks
is_part_of cells (of_kind k) = cells.has_kind k

-- all of these are among the cells of the file
abbrev pub AreKnown : FileCells → List Part → Type 0
AreKnown cells ps = list_all (is_part_of cells) ps ≡ true

-- ---- types

-- what of a type tells its cells: what it is made of, the pointers around that, and whether it is an array
pub record Outline : Type 0 where
  pub base : Base
  pub stars : List Bool
  pub is_array : Bool

abbrev pub has_count : Option ℕ → Bool
has_count (Some n) = true
has_count None = false

abbrev pub outline_of : CoreType → Outline
outline_of type = record { base = type.base; stars = type.stars; is_array = has_count type.count }

-- the type of an array's elements; any other one stays
abbrev pub element_of : Outline → Outline
element_of o = record o { is_array = false }

-- what a pointer points to
abbrev pub target_by : Base → List Bool → (is_array : Bool) → Option Outline
target_by b (star ∷ stars) false = Some (record { base = b; stars = stars; is_array = false })
target_by b stars a = None

abbrev pub target_of : Outline → Option Outline
target_of o = target_by o.base o.stars o.is_array

abbrev pub struct_by : Base → List Bool → (is_array : Bool) → Option ℕ
struct_by (base.Struct n) [] false = Some n
struct_by b stars a = None

abbrev pub struct_of : Outline → Option ℕ
struct_of o = struct_by o.base o.stars o.is_array

module _ (p : Facts) where
  -- the cells of an object; of an array those of an element
  abbrev pub cells_by : Base → (stars : List Bool) → List CellKind
  cells_by (base.Of k) [] = cell.Of k ∷ []
  cells_by base.Void [] = []
  cells_by (base.Struct n) [] = struct_cells p n
  cells_by b (star ∷ stars) = cell.Ptr ∷ []

  -- an object that is spoken of where pointers lead
  abbrev pub target_parts : Option Outline → List Part
  target_parts None = []
  target_parts (Some o) = blocks ∷ map of_kind (cells_by o.base o.stars)

  -- what a value of the type leads to (C11 6.2.5p20)
  abbrev pub pointer_parts : Outline → List Part
  pointer_parts o = target_parts (target_of o)

  abbrev pub type_parts : CoreType → List Part
  type_parts type = pointer_parts (outline_of type)

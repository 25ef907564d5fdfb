-- What the program holds in memory, as plain values.
use Rattle.std.specs.Prelude.{◌≡◌, ◌||◌, Bool, false, List, slice_index_or}
use Rattle.std.specs.List.{list_any}
use Rattle.std.specs.Option.{option_map}
use Rattle.wp_base.specs.declared.kinds.CellKind.{CellKind}
use Rattle.wp_base.specs.Kinds.{cell_place}
use Rattle.memory_words.specs.Shapes.{FileCells}
use Rattle.program_cells.specs.declared.cells.Cells.{Cells}
use Rattle.program_cells.specs.declared.types.Outline as memory
use Rattle.program_cells.specs.declared.declared.Told as memory_told
use Rattle.program_cells.specs.declared.declared.Declared as memory_declared
use Rattle.program_cells.specs.declared.declared.Told.TheVariants as told
use Rattle.program_cells.specs.Parts.{Part, is_blocks, is_of_kind, Outline}
use Rattle.program_cells.specs.Trees.{Told, place, target, Declared}

abbrev pub has_kind : Cells → CellKind → Bool
has_kind c k = slice_index_or c.kinds.items (cell_place k) false

abbrev pub view_cells : Cells → FileCells
view_cells c = record { has_blocks = c.has_blocks; has_kind = has_kind c }

-- all of these were added
pub record Adds (old new : Cells) (ps : List Part) : Type 0 where
  pub there : new.has_blocks ≡ (old.has_blocks || list_any is_blocks ps)
  pub kinds : (k : CellKind) → has_kind new k ≡ (has_kind old k || list_any (is_of_kind k) ps)

-- these are the cells of a file
pub record HasCells (c : Cells) (cells : FileCells) : Type 0 where
  pub there : c.has_blocks ≡ cells.has_blocks
  pub kinds : (k : CellKind) → has_kind c k ≡ cells.has_kind k

-- ---- types

abbrev pub view_outline : memory.Outline → Outline
view_outline x = record { base = x.base; stars = x.stars.now; is_array = x.is_array }

abbrev pub view_told : memory_told.Told → Told
view_told (told.Place o) = place (option_map view_outline o)
view_told (told.Target o) = target (option_map view_outline o)

abbrev pub view_declared : memory_declared.Declared → Declared
view_declared x = record { globals = x.globals.now; locals = x.locals.now; structs = x.structs.now; result = option_map (λ r. r.now) x.result }

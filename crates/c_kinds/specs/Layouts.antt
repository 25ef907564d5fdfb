-- The cells of an object of a struct type: its fields in order, each at the cell behind those before it (C11 6.7.2.1p15, in cells in place of bytes).
use Rattle.std.specs.Prelude.{ℕ, ◌+◌, ◌*◌, List, [], ◌∷◌, ◌++◌, length}
use Rattle.wp_base.specs.declared.kinds.CellKind.{CellKind}
use Rattle.wp_base.specs.declared.kinds.Layout.{Layout}
use Rattle.wp_base.specs.Blocks.{cells_of}

-- how many cells there are
abbrev pub size : Layout → ℕ
size part = part.count * length part.cells

-- the cells of all parts, in order
abbrev pub all_cells : List Layout → List CellKind
all_cells [] = []
all_cells (part ∷ parts) = cells_of part ++ all_cells parts

-- the first cell of each part, where the first one has this place
abbrev pub places : (first : ℕ) → List Layout → List ℕ
places first [] = []
places first (part ∷ parts) = first ∷ places (first + size part) parts

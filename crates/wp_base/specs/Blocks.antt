-- Blocks and tables of blocks. A block has a number, and an offset for each of its cells (C11 6.2.4, 6.5.6). It lives until its scope ends, and its
-- number isn't used again.
use Rattle.std.specs.Prelude.{ℕ, zero, suc, ◌==◌, Bool, true, false, not, ◌&&◌, ℤ, pos, negsuc, ◌-ℤ◌, List, [], ◌∷◌, ◌++◌, length, slice_get, Option, Some, None}
use Rattle.wp_base.specs.declared.kinds.CellKind.{CellKind}
use Rattle.wp_base.specs.declared.kinds.Layout.{Layout}
use Rattle.wp_base.specs.Kinds.{cell_place}

-- an ended block has no cells
pub data Block : Type 0 where
  ended : Block
  live : (cells : List CellKind) (writable : Bool) → Block

-- The blocks from number 1 on. Block 0, to which null points, is ended.
abbrev pub Table : Type 0
Table = List Block

-- how many blocks there are, block 0 among them
abbrev pub count : Table → ℤ
count t = pos (suc (length t))

abbrev pub or_ended : Option Block → Block
or_ended None = ended
or_ended (Some b) = b

unfoldable pub block_at : Table → ℤ → Block
block_at t (pos zero) = ended
block_at t (pos (suc n)) = or_ended (slice_get t n)
block_at t (negsuc n) = ended

abbrev pub block_cells : Block → List CellKind
block_cells ended = []
block_cells (live cells writable) = cells

abbrev pub is_live_block : Block → Bool
is_live_block ended = false
is_live_block (live cells writable) = true

abbrev pub may_write : Block → Bool
may_write ended = false
may_write (live cells writable) = writable

-- whether the block is live, and how many cells it has
abbrev pub is_live : Table → ℤ → Bool
is_live t b = is_live_block (block_at t b)

abbrev pub len : Table → ℤ → ℤ
len t b = pos (length (block_cells (block_at t b)))

abbrev pub same_cell : CellKind → CellKind → Bool
same_cell k l = cell_place k == cell_place l

abbrev pub is_some_cell : CellKind → Option CellKind → Bool
is_some_cell k None = false
is_some_cell k (Some l) = same_cell k l

abbrev pub has_cell : CellKind → List CellKind → (offset : ℤ) → Bool
has_cell k cells (pos n) = is_some_cell k (slice_get cells n)
has_cell k cells (negsuc n) = false

-- the live cell of this kind exists; and it may be written
abbrev pub is_cell : CellKind → Table → (block offset : ℤ) → Bool
is_cell k t b o = has_cell k (block_cells (block_at t b)) o

abbrev pub is_writable : CellKind → Table → (block offset : ℤ) → Bool
is_writable k t b o = is_cell k t b o && may_write (block_at t b)

abbrev pub repeated : ℕ → List CellKind → List CellKind
repeated zero cells = []
repeated (suc n) cells = cells ++ repeated n cells

-- the cells of an object: so many elements with these cells each
abbrev pub cells_of : Layout → List CellKind
cells_of l = repeated l.count l.cells

-- a live block with this layout
abbrev pub block_of : Layout → Block
block_of l = live (cells_of l) l.writable

-- one more live block, whose number is the count
abbrev pub alloc : Table → Layout → Table
alloc t l = t ++ block_of l ∷ []

abbrev pub to_nat : ℤ → ℕ
to_nat (pos n) = n
to_nat (negsuc n) = 0

abbrev pub endeds : ℕ → Table
endeds zero = []
endeds (suc n) = ended ∷ endeds n

-- ended blocks added up to this count; none where it is smaller
abbrev pub grow : Table → ℤ → Table
grow t z = t ++ endeds (to_nat (z -ℤ count t))

abbrev pub same_cells : List CellKind → List CellKind → Bool
same_cells [] [] = true
same_cells [] (l ∷ ls) = false
same_cells (k ∷ ks) [] = false
same_cells (k ∷ ks) (l ∷ ls) = same_cell k l && same_cells ks ls

abbrev pub same_truth : Bool → Bool → Bool
same_truth true b = b
same_truth false b = not b

abbrev pub is_block : Block → Block → Bool
is_block ended b = false
is_block (live cells w) ended = false
is_block (live cells w) (live cells' w') = same_cells cells cells' && same_truth w w'

-- the block of this number is live with this layout
abbrev pub has_layout : Table → ℤ → Layout → Bool
has_layout t n l = is_block (block_at t n) (block_of l)

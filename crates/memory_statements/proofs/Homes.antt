-- The cell of a variable that has one.
use Rattle.std.proofs.Common.{◌≡◌, Bool, true, ℤ, pos, [], ◌∷◌, sym, ap, ◌∙◌}
use Rattle.std.proofs.lemmas.Bool.{false≢true, and_parts}
use Rattle.std.specs.Prelude.{slice_get}
use Rattle.wp_base.specs.declared.kinds.CellKind.{CellKind}
use Rattle.wp_base.specs.declared.kinds.Layout.{Layout}
use Rattle.wp_base.specs.Blocks.{Block, ended, live, Table, block_at, block_cells, same_cell, same_cells, same_truth, is_some_cell, is_block, has_layout, is_cell, cells_of}
use Rattle.typed_memories.proofs.CellKinds.{same_kind, kind_same}

one_cell : (x : Block) (w : Bool) (k : CellKind) → is_block x (live (k ∷ []) w) ≡ true → is_some_cell k (slice_get (block_cells x) 0) ≡ true
one_cell ended w k h = absurd (false≢true h)
one_cell (live [] v) w k h = absurd (false≢true h)
one_cell (live (d ∷ ds) v) w k h =
    let cells = (and_parts (same_cells (d ∷ ds) (k ∷ [])) (same_truth v w) h).0 in
    kind_same k d (sym (same_kind d k (and_parts (same_cell d k) (same_cells ds []) cells).0))

-- a block of a layout with one cell has this cell
pub home_cell : (t : Table) (b : ℤ) (l : Layout) (k : CellKind) → has_layout t b l ≡ true → cells_of l ≡ k ∷ [] → is_cell k t b (pos 0) ≡ true
home_cell t b l k h e = one_cell (block_at t b) l.writable k (ap (λ cs. is_block (block_at t b) (live cs l.writable)) (sym e) ∙ h)

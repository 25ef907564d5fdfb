-- Changes of a state, as goals tell them by a table and by memories, and as runs make them: cells that lie in a set change (ACSL 2.3.2, 2.3.4), a block is made
-- or ends (C11 6.2.4p2, 6.2.4p5).
use Rattle.std.specs.Prelude.{◌≡◌, ℕ, Bool, true, false, not, if◌then◌else◌, ℤ, negsuc, int_le, int_lt, List, [], ◌∷◌}
use Rattle.std.specs.Ordering.{int_eq}
use Rattle.std.specs.List.{list_any}
use Rattle.wp_base.specs.declared.kinds.CellKind.{CellKind}
use Rattle.wp_base.specs.declared.kinds.Layout.{Layout}
use Rattle.wp_base.specs.Blocks.{Table, count, block_at, same_cell, is_cell, alloc}
use Rattle.qed_terms.specs.Memory.{Region, new, is_inside}
use Rattle.c_runs.specs.TruthStates.{Value, covers}
use Rattle.c_runs.specs.TruthAllowed.{has_kind}
use Rattle.c_runs.specs.States.{Memory}
use Rattle.goal_segments.specs.Segments.{SameBlocks}
use Rattle.typed_memories.specs.Cells.{Typed, lies_inside, FramedAt}

-- ---- sets

-- for each kind of cell the regions in which its cells may change
abbrev pub Sets : Type 0
Sets = CellKind → List Region

-- the blocks from a number on, whatever their cells
abbrev pub since : ℤ → Sets
since n k = new n ∷ []

-- what frames say of all kinds
abbrev pub AllFramed : Sets → (before behind : Typed) → Type 0
AllFramed set g g' = (k : CellKind) (b o : ℤ) → FramedAt (set k) (g k) (g' k) b o

-- ---- changes of a state

-- the same blocks live, and a cell that lies in no region of its kind holds what it held
pub record ChangesIn (set : Sets) (before behind : Memory) : Type 0 where
  pub blocks : SameBlocks before.blocks behind.blocks
  pub cells : (k : CellKind) (b o : ℤ) → is_cell k before.blocks b o ≡ true → lies_inside (set k) b o ≡ false → behind.cells b o ≡ before.cells b o

-- one more block of this layout lives, and every cell of another one holds what it held
pub record Makes (layout : Layout) (before behind : Memory) : Type 0 where
  pub blocks : behind.blocks ≡ alloc before.blocks layout
  pub cells : (b o : ℤ) → int_eq b (count before.blocks) ≡ false → behind.cells b o ≡ before.cells b o

-- the variables of the file that no pointer leads to hold what they held
abbrev pub SameHidden : (before behind : Memory) → Type 0
SameHidden m n = (i : ℕ) (o : ℤ) → n.cells (negsuc i) o ≡ m.cells (negsuc i) o

-- the blocks of the first table are as they were, whatever was made since
pub record StillThere (t u : Table) : Type 0 where
  pub blocks : (b : ℤ) → int_lt b (count t) ≡ true → block_at u b ≡ block_at t b
  pub more : int_le (count t) (count u) ≡ true

-- ---- kinds that a change leaves alone

-- no cell of the layout is of the kind
abbrev pub lacks : CellKind → Layout → Bool
lacks k l = not (list_any (same_cell k) l.cells)

-- nor is any in a block that is newer than the first table
abbrev pub LacksSince : CellKind → (t u : Table) → Type 0
LacksSince k t u = (b o : ℤ) → int_lt b (count t) ≡ false → is_cell k u b o ≡ false

-- the cells of the kind are the same ones
abbrev pub SameCells : CellKind → (t u : Table) → Type 0
SameCells k t u = (b o : ℤ) → is_cell k u b o ≡ is_cell k t b o

-- ---- regions of annotations

-- it has the same cells
abbrev pub IsRegion : Value → Region → Type 0
IsRegion v r = (b o : ℤ) → covers v b o ≡ is_inside b o r

abbrev pub AreRegions : List Value → List Region → Type 0
AreRegions [] [] = Unit {0}
AreRegions (v ∷ vs) (r ∷ rs) = IsRegion v r × AreRegions vs rs
AreRegions vs rs = ⊥

-- those of the regions that have cells of the kind
abbrev pub regions_of_kind : CellKind → List Value → List Region → List Region
regions_of_kind k (v ∷ vs) (r ∷ rs) = if has_kind k v then r ∷ regions_of_kind k vs rs else regions_of_kind k vs rs
regions_of_kind k vs rs = []

-- a set that was taken where there were so many blocks
abbrev pub set_of : (count : ℤ) → List Value → List Region → Sets
set_of n vs rs k = new n ∷ regions_of_kind k vs rs

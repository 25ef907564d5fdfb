-- Memories by kind. A state of a run has one map of cells; goals have a memory for each kind of integers, and two for pointers, one of the blocks that they
-- lead to and one of the offsets. Each address is read by the kind of its cell (C11 6.2.4, 6.5p6); where there is no cell of a kind, 0 or null is read of it
-- (ACSL 2.7).
use Rattle.std.specs.Prelude.{◌≡◌, ℕ, suc, Bool, true, false, ◌&&◌, if◌then◌else◌, ℤ, pos, negsuc, List, [], ◌∷◌, ◌++◌, Option, Some, None}
use Rattle.std.specs.Ordering.{int_eq}
use Rattle.std.specs.List.{list_any}
use Rattle.wp_base.specs.declared.kinds.Kind.{Kind}
use Rattle.wp_base.specs.declared.kinds.CellKind.{CellKind}
use Rattle.wp_base.specs.declared.kinds.CellKind.TheVariants as cell
use Rattle.wp_base.specs.Blocks.{Table, count, block_at, block_cells, same_cell, is_cell}
use Rattle.qed_terms.specs.Memory as goal
use Rattle.qed_terms.specs.Memory.{load, Region, is_inside}
use Rattle.c_runs.specs.TruthStates.{Value, number, pointer, number_of, block_of, offset_of, of_kind, nothing_of}
use Rattle.c_runs.specs.Program.{Facts}
use Rattle.c_runs.specs.States.{Memory, with_cell}
use Rattle.c_runs.specs.Scopes.{is_content}
use Rattle.c_runs.specs.Effects.{cell_in}

-- ---- what is held

-- at each address
abbrev pub Cells : Type 0
Cells = (block offset : ℤ) → Value

-- for each kind of cell
abbrev pub Typed : Type 0
Typed = CellKind → Cells

abbrev pub numbers_by : ((block offset : ℤ) → ℤ) → Cells
numbers_by f b o = number (f b o)

abbrev pub pointers_by : (blocks offsets : (block offset : ℤ) → ℤ) → Cells
pointers_by f g b o = pointer (f b o) (g b o)

-- the memories of all kinds, as terms mean them
pub record Memories : Type 0 where
  pub numbers : Kind → goal.Memory
  pub blocks : goal.Memory
  pub offsets : goal.Memory

abbrev pub typed : Memories → Typed
typed ms (cell.Of k) = numbers_by (load (ms.numbers k))
typed ms cell.Ptr = pointers_by (load ms.blocks) (load ms.offsets)

-- ---- what is read

-- the kind of the live cell at an address
abbrev pub kind_at : Table → (block offset : ℤ) → Option CellKind
kind_at t b o = cell_in (block_cells (block_at t b)) o

-- what a state gives where this kind is read
abbrev pub read_in : Memory → CellKind → Cells
read_in m k b o = if is_cell k m.blocks b o then of_kind k (m.cells b o) else nothing_of k

-- ---- one address, by kind

-- where the cell isn't of the kind, or there is none, 0 or null is held
abbrev pub CleanAt : Table → CellKind → Cells → (block offset : ℤ) → Type 0
CleanAt t k f b o = is_cell k t b o ≡ false → f b o ≡ nothing_of k

-- a cell of the kind holds a value of it (C11 6.2.6.1p5); a pointer leads to a block that was made, or is null
abbrev pub InRangeAt : Facts → Table → CellKind → Cells → (block offset : ℤ) → Type 0
InRangeAt p t k f b o = is_cell k t b o ≡ true → is_content p (count t) k (f b o) ≡ true

abbrev pub is_nothing : CellKind → Value → Bool
is_nothing (cell.Of k) (number z) = int_eq z (pos 0)
is_nothing cell.Ptr (pointer b o) = int_eq b (pos 0) && int_eq o (pos 0)
is_nothing k v = false

-- what a well formed memory is said to hold: in cells of the kind values of it, elsewhere 0 or null
abbrev pub FormedAt : Facts → Table → CellKind → Cells → (block offset : ℤ) → Type 0
FormedAt p t k f b o = (if is_cell k t b o then is_content p (count t) k (f b o) else is_nothing k (f b o)) ≡ true

-- what is held is what the state gives
abbrev pub ReadsAt : Memory → CellKind → Cells → (block offset : ℤ) → Type 0
ReadsAt m k f b o = f b o ≡ read_in m k b o

abbrev pub lies_inside : List Region → (block offset : ℤ) → Bool
lies_inside rs b o = list_any (is_inside b o) rs

-- the same is held before and behind, outside of the regions (ACSL 2.3.2)
abbrev pub FramedAt : List Region → (before behind : Cells) → (block offset : ℤ) → Type 0
FramedAt rs f g b o = lies_inside rs b o ≡ false → g b o ≡ f b o

-- ---- all addresses

-- a value of the form of its kind: an integer, or a pointer
abbrev pub HasForm : CellKind → Value → Type 0
HasForm k v = of_kind k v ≡ v

abbrev pub AllTyped : Typed → Type 0
AllTyped g = (k : CellKind) (b o : ℤ) → HasForm k (g k b o)

abbrev pub AllClean : Table → Typed → Type 0
AllClean t g = (k : CellKind) (b o : ℤ) → CleanAt t k (g k) b o

abbrev pub AllFormed : Facts → Table → Typed → Type 0
AllFormed p t g = (k : CellKind) (b o : ℤ) → FormedAt p t k (g k) b o

abbrev pub Reads : Memory → CellKind → Cells → Type 0
Reads m k f = (b o : ℤ) → ReadsAt m k f b o

abbrev pub AllRead : Memory → Typed → Type 0
AllRead m g = (k : CellKind) → Reads m k (g k)

-- ---- states

-- Each cell holds a value of the form of its kind, and every other address of a block with a number from 0 on holds 0 (C11 6.2.6.1p5). What stands in blocks
-- with negative numbers, the variables of the file that no pointer leads to, is no cell of the table.
pub record IsShaped (m : Memory) : Type 0 where
  pub cells : (k : CellKind) (b o : ℤ) → is_cell k m.blocks b o ≡ true → HasForm k (m.cells b o)
  pub elsewhere : (n : ℕ) (o : ℤ) → ((k : CellKind) → is_cell k m.blocks (pos n) o ≡ false) → m.cells (pos n) o ≡ number (pos 0)

-- what is held where no cell is
abbrev pub outside_by : (hidden : Cells) → Cells
outside_by h (pos n) o = number (pos 0)
outside_by h (negsuc n) o = h (negsuc n) o

abbrev pub cell_by : Typed → (hidden : Cells) → Option CellKind → Cells
cell_by g h None b o = outside_by h b o
cell_by g h (Some k) b o = g k b o

-- the state that a table and what is held for each kind are, beside these variables of the file that no pointer leads to
abbrev pub decoded : Table → Typed → (hidden : Cells) → Memory
decoded t g h = record { blocks = t; cells = λ b o. cell_by g h (kind_at t b o) b o }

-- ---- stores

-- one cell of this kind holds another value, and all other ones what they held
pub record IsStored (k : CellKind) (b o : ℤ) (v : Value) (before behind : Typed) : Type 0 where
  pub here : behind k ≡ with_cell b o v (before k)
  pub others : (l : CellKind) → same_cell k l ≡ false → behind l ≡ before l

-- ---- the memories of a state: they list the addresses of all cells

pub record Address : Type 0 where
  pub block : ℤ
  pub offset : ℤ

abbrev pub listed : ((block offset : ℤ) → ℤ) → List Address → goal.Memory
listed f [] = []
listed f (a ∷ more) = record { block = a.block; offset = a.offset; value = f a.block a.offset } ∷ listed f more

-- the addresses of the cells of a block from an offset on
abbrev pub row : (block : ℤ) → ℕ → List CellKind → List Address
row b n [] = []
row b n (k ∷ ks) = record { block = b; offset = pos n } ∷ row b (suc n) ks

-- those of the cells of blocks that follow so many other ones
abbrev pub rows : ℕ → Table → List Address
rows n [] = []
rows n (x ∷ t) = row (pos (suc n)) 0 (block_cells x) ++ rows (suc n) t

abbrev pub encoded : Memory → Memories
encoded m = record {
  numbers = λ k. listed (λ b o. number_of (read_in m (cell.Of k) b o)) (rows 0 m.blocks);
  blocks = listed (λ b o. block_of (read_in m cell.Ptr b o)) (rows 0 m.blocks);
  offsets = listed (λ b o. offset_of (read_in m cell.Ptr b o)) (rows 0 m.blocks);
}

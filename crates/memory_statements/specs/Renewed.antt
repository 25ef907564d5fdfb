-- Machine memories before and behind a renewal: what lists of slots read, which regions are left open, and which memory the renewed lists are of.
use Rattle.std.specs.Prelude.{◌≡◌, ℕ, Bool, true, false, ◌&&◌, ℤ, pos, int_le, List, [], ◌∷◌, ◌++◌, map, length, Some, slice_get}
use Rattle.std.specs.List.{list_all}
use Rattle.wp_base.specs.declared.kinds.Kind.{Kind}
use Rattle.wp_base.specs.declared.kinds.CellKind.{CellKind}
use Rattle.wp_base.specs.declared.kinds.CellKind.TheVariants as cell
use Rattle.wp_base.specs.Blocks.{Table, count, len, is_cell, has_layout}
use Rattle.c_kinds.specs.Models.{long_bits, high, difference_kind}
use Rattle.qed_terms.specs.Tree.{Tree}
use Rattle.qed_terms.specs.Memory as goal
use Rattle.qed_terms.specs.Memory.{Region}
use Rattle.qed_terms.specs.Meaning as sense
use Rattle.qed_terms.specs.Meaning.{Values, value}
use Rattle.c_runs.specs.Program.{Variable, Facts}
use Rattle.c_runs.specs.States.{Memory, global_home}
use Rattle.goal_segments.specs.Told.{IsGood}
use Rattle.typed_memories.specs.Cells.{read_in, lies_inside, FramedAt, Reads}
use Rattle.typed_memories.specs.Changes.{Sets, SameHidden, SameCells}
use Rattle.memory_steps.specs.State.{Datum, State}
use Rattle.memory_words.specs.Places.{Place, numbers, blocks, offsets, IsIn, slots_in, held}
use Rattle.memory_words.specs.Leaves.{is_closed, leaves_of, before_all}
use Rattle.memory_words.specs.Shapes.{FileCells, Shape, sizes}
use Rattle.memory_words.specs.Standing.{NumbersAre, PointersAre}
use Rattle.memory_words.specs.Regions.{RegionTree, of_kind}
use Rattle.memory_words.specs.Renewal.{Leave, of_all, of_regions}

-- ---- slots

-- the place of a memory that is renewed
abbrev pub is_renewed : (renewed : CellKind → Bool) → Place → Bool
is_renewed f (numbers k) = f (cell.Of k)
is_renewed f blocks = f cell.Ptr
is_renewed f offsets = f cell.Ptr
is_renewed f a = false

module _ (p : Facts) (s : Shape) (cells : FileCells) where
  -- the lists of all kinds that the file has read the memory
  pub record MemoriesStand (m : Memory) (st : State) : Type 0 where
    pub numbers_are : (k : Kind) → cells.has_kind (cell.Of k) ≡ true → NumbersAre m k (held (sizes p s) st (numbers k))
    pub pointers_are : cells.has_kind cell.Ptr ≡ true → PointersAre m (held (sizes p s) st blocks) (held (sizes p s) st offsets)

  -- each place but those of renewed memories holds what it held
  pub record SameBesides (renewed : CellKind → Bool) (old new : State) : Type 0 where
    pub table : new.table ≡ old.table
    pub size : length new.slots ≡ length old.slots
    pub places : (a : Place) → IsIn (sizes p s) a → is_renewed renewed a ≡ false → held (sizes p s) new a ≡ held (sizes p s) old a

-- ---- regions

-- the cells of a region by the values of its bounds
abbrev pub cells_at : sense.World → Values → RegionTree → Region
cells_at w env g = goal.cells (value w env g.block) (value w env g.low) (value w env g.high)

abbrev pub regions_at : sense.World → Values → (news : List Tree) → List RegionTree → List Region
regions_at w env news gs = map (cells_at w env) gs ++ map (λ t. goal.new (value w env t)) news

abbrev pub is_closed_region : RegionTree → Bool
is_closed_region g = is_closed [] g.block && is_closed [] g.low && is_closed [] g.high

-- The bounds are closed, and whatever the new lists and the present state are, the regions have in blocks from 0 on the cells of the set.
pub record BoundsAre (w : sense.World) (news : List Tree) (gs : List RegionTree) (st : State) (olds : List State) (set : Sets) : Type 0 where
  pub closed_news : list_all (is_closed []) news ≡ true
  pub closed_regions : list_all is_closed_region gs ≡ true
  pub inside : (k : CellKind) (d : Datum) (present : State) (i : ℕ) (o : ℤ)
      → lies_inside (regions_at w (leaves_of (before_all d (present ∷ st ∷ olds))) news (of_kind k gs)) (pos i) o ≡ lies_inside (set k) (pos i) o

-- what a renewal leaves open in this state; all is the blocks from 0 on
abbrev pub LeaveIs : sense.World → Leave → State → List State → Sets → Type 0
LeaveIs w of_all st olds set = (k : CellKind) (i : ℕ) (o : ℤ) → lies_inside (set k) (pos i) o ≡ true
LeaveIs w (of_regions news gs) st olds set = BoundsAre w news gs st olds set

-- ---- memories

module _ (p : Facts) (cells : FileCells) (renewed : CellKind → Bool) where
  -- A good memory with this table: kinds that are renewed hold outside of the set what they held, and the others of the file hold it everywhere.
  pub record IsRenewal (set : Sets) (t : Table) (m n : Memory) : Type 0 where
    pub good : IsGood p n
    pub table : n.blocks ≡ t
    pub framed : (k : CellKind) → renewed k ≡ true → (b o : ℤ) → FramedAt (set k) (read_in m k) (read_in n k) b o
    pub kept : (k : CellKind) → cells.has_kind k ≡ true → renewed k ≡ false → Reads n k (read_in m k)

  -- what no list tells of is as it was: cells of kinds that the file hasn't, and variables of the file that no pointer leads to
  pub record KeepsUntold (m n : Memory) : Type 0 where
    pub absent : (k : CellKind) → cells.has_kind k ≡ false → (b o : ℤ) → is_cell k n.blocks b o ≡ true → n.cells b o ≡ m.cells b o
    pub hidden : SameHidden m n

  -- The memory may get this table with no more than the renewal: cells of kinds that aren't renewed are those of before.
  pub record MayGet (m : Memory) (t : Table) : Type 0 where
    pub good : IsGood p m
    pub same_cells : (k : CellKind) → cells.has_kind k ≡ true → renewed k ≡ false → SameCells k m.blocks t
    pub no_newer : (k : CellKind) → cells.has_kind k ≡ false → (b o : ℤ) → is_cell k t b o ≡ true → is_cell k m.blocks b o ≡ true
    pub more : int_le (count m.blocks) (count t) ≡ true
    pub placed : (x : ℕ) (v : Variable) → slice_get p.globals x ≡ Some v → v.is_plain ≡ false → has_layout t (global_home p x) v.layout ≡ true
    pub short : (b : ℤ) → int_le (len t b) (high p.model (difference_kind p.model)) ≡ true

-- ---- what is asked of a state that is renewed

module _ (w : sense.World) (p : Facts) (s : Shape) (cells : FileCells) where
  -- the lists read the memory, whose table may be an older one
  pub record ListsRead (m : Memory) (st : State) : Type 0 where
    pub model : w.long_bits ≡ long_bits p.model
    pub size : length st.slots ≡ slots_in (sizes p s)
    pub stand : MemoriesStand p s cells m st

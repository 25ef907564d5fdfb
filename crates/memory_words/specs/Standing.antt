-- When slots stand for the world of a core program with memory.
use Rattle.std.specs.Prelude.{◌≡◌, ◌<◌, ◌||◌, ℕ, ℤ, pos, Bool, true, false, List, length, Some, slice_get}
use Rattle.wp_base.specs.declared.kinds.Kind.{Kind}
use Rattle.wp_base.specs.declared.kinds.CellKind.{CellKind}
use Rattle.wp_base.specs.declared.kinds.CellKind.TheVariants as cell
use Rattle.wp_base.specs.Blocks.{Table, count, has_layout}
use Rattle.typed_prog.specs.declared.operators.Variable.TheVariants as variables
use Rattle.qed_terms.specs.Memory as goal
use Rattle.qed_terms.specs.Memory.{load}
use Rattle.qed_terms.specs.Operators.{is_equal}
use Rattle.c_runs.specs.Told.{Value, number, pointer}
use Rattle.c_runs.specs.Program.{Variable, Facts}
use Rattle.c_runs.specs.States.{Local, plain, home, unset, Memory, global_home}
use Rattle.c_runs.specs.Entry.{leads_well}
use Rattle.c_runs.specs.Scopes.{is_content}
use Rattle.c_runs.specs.CoreRun.{CoreWorld}
use Rattle.goal_segments.specs.Told.{IsGood, IsFlag}
use Rattle.goal_segments.specs.Segments.{SameBlocks}
use Rattle.typed_memories.specs.Cells.{numbers_by, pointers_by, Reads}
use Rattle.memory_steps.specs.State.{Datum, number as number_datum, cells as memory_datum, State, HasSort, nothing}
use Rattle.memory_words.specs.Places.{Place, value, offset, flag, temporary, temporary_offset, numbers, blocks, offsets, IsIn, slots_in, held, number_at}
use Rattle.memory_words.specs.Shapes.{FileCells, Shape, sizes, kind_of, is_memory}
use Rattle.memory_words.specs.Readings.{InScope}

-- which temporaries are used
abbrev pub Temporaries : Type 0
Temporaries = ℕ → Bool

-- ---- values

-- a value of the kind, as one or two integers
abbrev pub IsHeldAs : CellKind → Value → (first second : ℤ) → Type 0
IsHeldAs (cell.Of k) v x y = v ≡ number x
IsHeldAs cell.Ptr v x y = v ≡ pointer x y

-- ---- variables

-- Of the function, with no pointer that leads to it; it holds a value of its kind where it was set, and where it is declared with a value.
pub record LocalIs (p : Facts) (t : Table) (v : Variable) (l : Local) (first second set : ℤ) : Type 0 where
  pub content : Value
  pub same : l ≡ plain content (is_equal (pos 1) set)
  pub is : IsHeldAs (kind_of v) content first second
  pub is_flag : IsFlag set
  pub fits : (v.has_value || is_equal (pos 1) set) ≡ true → is_content p (count t) (kind_of v) content ≡ true
  pub leads : leads_well content ≡ true

-- a temporary, of those that are still used
pub record TempIs (p : Facts) (t : Table) (k : CellKind) (v : Value) (first second : ℤ) : Type 0 where
  pub is : IsHeldAs k v first second
  pub fits : is_content p (count t) k v ≡ true

-- ---- memories

-- the list in a slot is what the cells of the kind hold
pub record NumbersAre (m : Memory) (k : Kind) (d : Datum) : Type 0 where
  pub list : goal.Memory
  pub same : d ≡ memory_datum list
  pub reads : Reads m (cell.Of k) (numbers_by (load list))

pub record PointersAre (m : Memory) (d e : Datum) : Type 0 where
  pub block_list : goal.Memory
  pub offset_list : goal.Memory
  pub same_blocks : d ≡ memory_datum block_list
  pub same_offsets : e ≡ memory_datum offset_list
  pub reads : Reads m cell.Ptr (pointers_by (load block_list) (load offset_list))

-- what slots hold of the file: the table, the memories, and the variables that no pointer leads to
pub record FileStands (p : Facts) (s : Shape) (cells : FileCells) (m : Memory) (st : State) : Type 0 where
  pub good : IsGood p m
  pub table_is : cells.has_blocks ≡ true → st.table ≡ m.blocks
  pub numbers_are : (k : Kind) → cells.has_kind (cell.Of k) ≡ true → NumbersAre m k (held (sizes p s) st (numbers k))
  pub pointers_are : cells.has_kind cell.Ptr ≡ true → PointersAre m (held (sizes p s) st blocks) (held (sizes p s) st offsets)
  pub globals : (x : ℕ) (v : Variable) → slice_get p.globals x ≡ Some v → v.is_plain ≡ true
      → IsHeldAs (kind_of v) (m.cells (global_home p x) (pos 0)) (number_at (sizes p s) st (value (variables.Global x)))
      (number_at (sizes p s) st (offset (variables.Global x)))

-- The places of parameters hold the arguments, those among them whose address is taken too: they have no block when the function is entered.
abbrev pub ParamsAre : Facts → Shape → Table → (is_param : InScope) → (arguments : List Value) → (entry : State) → Type 0
ParamsAre p s t i vs st =
    (x : ℕ) (v : Variable) → slice_get s.variables x ≡ Some v → i x ≡ true → (w : Value) × (slice_get vs x ≡ Some w)
    × TempIs p t (kind_of v) w (number_at (sizes p s) st (value (variables.Local x))) (number_at (sizes p s) st (offset (variables.Local x)))

-- ---- worlds

-- Which variables are in scope; the table that the innermost scope with blocks began with, whose live blocks are those there are; whose blocks live, and which
-- blocks variables have.
pub record Frame : Type 0 where
  pub in_scope : InScope
  pub table : Table
  pub lives : InScope
  pub homes : ℕ → ℤ

-- the blocks of all variables in scope live
abbrev pub AllLive : Frame → Type 0
AllLive fr = (x : ℕ) → fr.in_scope x ≡ true → fr.lives x ≡ true

module _ (p : Facts) (s : Shape) (cells : FileCells) where
  -- where these temporaries are used
  pub record StandsFor (fr : Frame) (used : Temporaries) (c : CoreWorld) (st : State) : Type 0 where
    pub size : length st.slots ≡ slots_in (sizes p s)
    pub sorted : (a : Place) → IsIn (sizes p s) a → is_memory cells a ≡ false → HasSort false (held (sizes p s) st a)
    pub good : IsGood p c.world.memory
    pub blocks_are : SameBlocks fr.table c.world.memory.blocks
    pub table_is : cells.has_blocks ≡ true → st.table ≡ c.world.memory.blocks
    pub numbers_are : (k : Kind) → cells.has_kind (cell.Of k) ≡ true → NumbersAre c.world.memory k (held (sizes p s) st (numbers k))
    pub pointers_are : cells.has_kind cell.Ptr ≡ true → PointersAre c.world.memory (held (sizes p s) st blocks) (held (sizes p s) st offsets)
    pub globals : (x : ℕ) (v : Variable) → slice_get p.globals x ≡ Some v → v.is_plain ≡ true
        → IsHeldAs (kind_of v) (c.world.memory.cells (global_home p x) (pos 0)) (number_at (sizes p s) st (value (variables.Global x)))
        (number_at (sizes p s) st (offset (variables.Global x)))
    pub locals : (x : ℕ) (v : Variable) → slice_get s.variables x ≡ Some v → v.is_plain ≡ true → fr.in_scope x ≡ true
        → LocalIs p c.world.memory.blocks v (c.world.locals x) (number_at (sizes p s) st (value (variables.Local x)))
        (number_at (sizes p s) st (offset (variables.Local x))) (number_at (sizes p s) st (flag (variables.Local x)))
    pub homes : (x : ℕ) (v : Variable) → slice_get s.variables x ≡ Some v → v.is_plain ≡ false → fr.in_scope x ≡ true
        → (c.world.locals x ≡ home (fr.homes x)) × (held (sizes p s) st (value (variables.Local x)) ≡ number_datum (fr.homes x))
    pub living : (x : ℕ) (v : Variable) → slice_get s.variables x ≡ Some v → v.is_plain ≡ false → fr.in_scope x ≡ true → fr.lives x ≡ true
        → has_layout fr.table (fr.homes x) v.layout ≡ true
    pub temporaries : (n : ℕ) → n < s.temporaries → used n ≡ true
        → TempIs p c.world.memory.blocks (s.temp_kind n) (c.temps n) (number_at (sizes p s) st (temporary n)) (number_at (sizes p s) st (temporary_offset n))
    pub unscoped : (x : ℕ) → x < length s.variables → fr.in_scope x ≡ false
        → (c.world.locals x ≡ unset) × (held (sizes p s) st (value (variables.Local x)) ≡ nothing)
        × (held (sizes p s) st (offset (variables.Local x)) ≡ nothing) × (held (sizes p s) st (flag (variables.Local x)) ≡ nothing)

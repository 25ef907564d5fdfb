-- What renewals do to machine memories, both ways.
use Rattle.std.specs.Prelude.{◌≡◌, ◌<◌, ℕ, Bool, true, false, ◌&&◌, ℤ, pos, int_le, List, [], length}
use Rattle.wp_base.specs.declared.kinds.CellKind.{CellKind}
use Rattle.wp_base.specs.Blocks.{count, cells_of, is_cell}
use Rattle.c_kinds.specs.Models.{high, difference_kind}
use Rattle.typed_prog.specs.declared.operators.Variable.TheVariants as variables
use Rattle.qed_terms.specs.Meaning as sense
use Rattle.c_runs.specs.Program.{Variable, Facts}
use Rattle.c_runs.specs.States.{Memory}
use Rattle.c_runs.specs.Scopes.{ended_since}
use Rattle.goal_segments.specs.Told.{IsGood}
use Rattle.goal_segments.specs.Segments.{SameBlocks}
use Rattle.typed_memories.specs.Cells.{lies_inside}
use Rattle.typed_memories.specs.Changes.{Sets, Makes, StillThere, LacksSince}
use Rattle.typed_memories.specs.ChangeLaws.{HoldsContents}
use Rattle.walk_steps.specs.State.{at_or}
use Rattle.memory_steps.specs.State.{State, state}
use Rattle.memory_steps.specs.Run.{End, goes_on, made_in, ended_to, Seg}
use Rattle.memory_words.specs.Places.{value, slot}
use Rattle.memory_words.specs.Shapes.{FileCells, Shape, sizes}
use Rattle.memory_words.specs.Points.{Open}
use Rattle.memory_words.specs.Renewal.{Leave, renewal}
use Rattle.memory_words.specs.Words.{has_cell_of, block_opened, scope_ends}
use Rattle.memory_statements.specs.Renewed.{MemoriesStand, SameBesides, LeaveIs, IsRenewal, KeepsUntold, MayGet, ListsRead}

-- ---- a renewal

-- the renewed lists are of this memory, and nothing else has changed
pub record ComesTo (p : Facts) (s : Shape) (cells : FileCells) (renewed : CellKind → Bool) (st : State) (n : Memory) (new : State) : Type 0 where
  pub memories : MemoriesStand p s cells n new
  pub besides : SameBesides p s cells renewed st new

-- Each good memory that is framed so is come to, and each run comes to such a one.
pub record Renews (w : sense.World) (p : Facts) (s : Shape) (cells : FileCells) (renewed : CellKind → Bool) (leave : Leave) (set : Sets) (olds : List State) (j : ℕ) (m : Memory)
    (st : State) : Type 0 where
  pub forth : (n : Memory) → IsRenewal p cells renewed set st.table m n
      → (new : State) × Seg olds j (renewal (sizes p s) renewed leave w) st (goes_on new) × ComesTo p s cells renewed st n new
  pub back : MayGet p cells renewed m st.table → (o : End) → Seg olds j (renewal (sizes p s) renewed leave w) st o
      → (new : State) × (goes_on new ≡ o) × (n : Memory) × IsRenewal p cells renewed set st.table m n × KeepsUntold p cells renewed m n × ComesTo p s cells renewed st n new

abbrev pub RenewalsChangeMemories : Type 0
RenewalsChangeMemories =
    (w : sense.World) (p : Facts) (s : Shape) (cells : FileCells) (renewed : CellKind → Bool) (leave : Leave) (set : Sets) (olds : List State) (j : ℕ) (m : Memory) (st : State)
    → ListsRead w p s cells m st → ((k : CellKind) → renewed k ≡ true → cells.has_kind k ≡ true) → LeaveIs w leave st olds set
    → Renews w p s cells renewed leave set olds j m st

-- ---- cells in a set that change, where the same blocks live

-- Cells of renewed kinds outside of the set hold what they held, and so do all cells of the other kinds of the file.
pub record ChangesRenewed (cells : FileCells) (renewed : CellKind → Bool) (set : Sets) (m n : Memory) : Type 0 where
  pub renewed_kinds : (k : CellKind) → renewed k ≡ true → (b o : ℤ) → is_cell k m.blocks b o ≡ true → lies_inside (set k) b o ≡ false → n.cells b o ≡ m.cells b o
  pub other_kinds : (k : CellKind) → cells.has_kind k ≡ true → renewed k ≡ false → (b o : ℤ) → is_cell k m.blocks b o ≡ true → n.cells b o ≡ m.cells b o

pub record RenewsSets (w : sense.World) (p : Facts) (s : Shape) (cells : FileCells) (renewed : CellKind → Bool) (leave : Leave) (set : Sets) (olds : List State) (j : ℕ) (m : Memory)
    (st : State) : Type 0 where
  pub forth : (n : Memory) → IsGood p n → n.blocks ≡ st.table → ChangesRenewed cells renewed set m n
      → (new : State) × Seg olds j (renewal (sizes p s) renewed leave w) st (goes_on new) × ComesTo p s cells renewed st n new
  pub back : (o : End) → Seg olds j (renewal (sizes p s) renewed leave w) st o
      → (new : State) × (goes_on new ≡ o) × (n : Memory) × IsGood p n × (n.blocks ≡ st.table) × ChangesRenewed cells renewed set m n × KeepsUntold p cells renewed m n
      × ComesTo p s cells renewed st n new

-- Behind a loop's head and behind a call.
abbrev pub SetsAreRenewed : Type 0
SetsAreRenewed =
    (w : sense.World) (p : Facts) (s : Shape) (cells : FileCells) (renewed : CellKind → Bool) (leave : Leave) (set : Sets) (olds : List State) (j : ℕ) (m : Memory) (st : State)
    → ListsRead w p s cells m st → ((k : CellKind) → renewed k ≡ true → cells.has_kind k ≡ true) → LeaveIs w leave st olds set → IsGood p m → SameBlocks m.blocks st.table
    → RenewsSets w p s cells renewed leave set olds j m st

-- ---- a block that is made (C11 6.2.4p5)

-- the kinds of a layout that the file has
abbrev pub file_kinds : FileCells → Variable → CellKind → Bool
file_kinds cells v k = cells.has_kind k && has_cell_of v.layout k

-- the state behind the step that makes the block of a variable of the function, before its lists are renewed
abbrev pub block_in : Facts → Shape → (variable : ℕ) → Variable → State → State
block_in p s x v st = made_in st (slot (sizes p s) (value (variables.Local x))) v.layout

pub record MakesBlock (w : sense.World) (p : Facts) (s : Shape) (cells : FileCells) (x : ℕ) (v : Variable) (olds : List State) (j : ℕ) (m : Memory) (st : State) : Type 0 where
  pub forth : (n : Memory) → IsGood p n → Makes v.layout m n
      → (new : State) × Seg olds j (block_opened w p s cells x v) st (goes_on new) × ComesTo p s cells (file_kinds cells v) (block_in p s x v st) n new
  pub back : (o : End) → Seg olds j (block_opened w p s cells x v) st o
      → (new : State) × (goes_on new ≡ o) × (n : Memory) × IsGood p n × Makes v.layout m n × HoldsContents p (count m.blocks) n
      × ComesTo p s cells (file_kinds cells v) (block_in p s x v st) n new

-- All kinds of its cells are kinds of the file, and it isn't too long (C11 6.5.6p9).
abbrev pub MadeIsRenewed : Type 0
MadeIsRenewed =
    (w : sense.World) (p : Facts) (s : Shape) (cells : FileCells) (x : ℕ) (v : Variable) (olds : List State) (j : ℕ) (m : Memory) (st : State)
    → ListsRead w p s cells m st → IsGood p m → st.table ≡ m.blocks → x < length s.variables → ((k : CellKind) → has_cell_of v.layout k ≡ true → cells.has_kind k ≡ true)
    → int_le (pos (length (cells_of v.layout))) (high p.model (difference_kind p.model)) ≡ true → MakesBlock w p s cells x v olds j m st

-- ---- blocks that end (C11 6.2.4p2)

-- the scope that was opened where the memory was this one, whose table is that of its level
pub record EndsFrom (cells : FileCells) (olds : List State) (o : Open) (before m : Memory) : Type 0 where
  pub level_there : o.level < length olds
  pub level_is : (at_or (state [] []) olds o.level).table ≡ before.blocks
  pub blocks : StillThere before.blocks m.blocks
  pub kinds : (k : CellKind) → cells.has_kind k ≡ true → o.has_kind k ≡ false → LacksSince k before.blocks m.blocks
  pub of_file : (k : CellKind) → o.has_kind k ≡ true → cells.has_kind k ≡ true

-- the state behind the step that ends the blocks, before their lists are renewed
abbrev pub ended_in : List State → Open → State → State
ended_in olds o st = ended_to (at_or st olds o.level) st

pub record EndsBlocks (w : sense.World) (p : Facts) (s : Shape) (cells : FileCells) (scope : Open) (before : Memory) (olds : List State) (j : ℕ) (m : Memory) (st : State) : Type 0 where
  pub forth : (new : State) × Seg olds j (scope_ends w p s cells scope) st (goes_on new) × ComesTo p s cells scope.has_kind (ended_in olds scope st) (ended_since before m) new
  pub back : (o : End) → Seg olds j (scope_ends w p s cells scope) st o
      → (new : State) × (goes_on new ≡ o) × ComesTo p s cells scope.has_kind (ended_in olds scope st) (ended_since before m) new

abbrev pub EndedIsRenewed : Type 0
EndedIsRenewed =
    (w : sense.World) (p : Facts) (s : Shape) (cells : FileCells) (scope : Open) (before : Memory) (olds : List State) (j : ℕ) (m : Memory) (st : State)
    → ListsRead w p s cells m st → IsGood p m → IsGood p (ended_since before m) → st.table ≡ m.blocks → EndsFrom cells olds scope before m
    → EndsBlocks w p s cells scope before olds j m st

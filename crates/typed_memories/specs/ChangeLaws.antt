-- What is so of changes. The memories are any that read the states: those that a state has, and those that decode to it.
use Rattle.std.specs.Prelude.{◌≡◌, ◌↔◌, ℕ, true, false, ℤ, pos, int_le, int_lt, List, [], ◌∷◌, Some}
use Rattle.wp_base.specs.declared.kinds.CellKind.{CellKind}
use Rattle.wp_base.specs.declared.kinds.Layout.{Layout}
use Rattle.wp_base.specs.Blocks.{Table, count, is_cell, cells_of, alloc, grow}
use Rattle.qed_terms.specs.Memory.{Region}
use Rattle.c_runs.specs.TruthStates.{Value, nothing_of}
use Rattle.c_runs.specs.TruthAllowed.{lies_in}
use Rattle.c_runs.specs.Program.{Variable, Facts}
use Rattle.c_runs.specs.States.{Memory, World}
use Rattle.c_runs.specs.Claims.{lets_cell}
use Rattle.c_runs.specs.Scopes.{is_content, block_made, param_made, ended_since}
use Rattle.goal_segments.specs.Segments.{SameBlocks}
use Rattle.typed_memories.specs.Cells.{Cells, Typed, lies_inside, FormedAt, FramedAt, HasForm, Reads, AllRead, IsShaped}
use Rattle.typed_memories.specs.Changes.{Sets, since, AllFramed, ChangesIn, Makes, SameHidden, StillThere, lacks, LacksSince, SameCells, AreRegions, set_of}

-- ---- two states, with memories that read them

pub record Both (m n : Memory) (g g' : Typed) : Type 0 where
  pub before : AllRead m g
  pub behind : AllRead n g'
  pub shaped_before : IsShaped m
  pub shaped_behind : IsShaped n

-- ---- changes in a set

-- Where the same blocks live, frames are that cells outside of the set hold what they held; so for each kind by itself.
pub record FramesAre (set : Sets) (m n : Memory) (g g' : Typed) : Type 0 where
  pub of_one : (k : CellKind) → SameBlocks m.blocks n.blocks
      → ((b o : ℤ) → FramedAt (set k) (g k) (g' k) b o)
      ↔ ((b o : ℤ) → is_cell k m.blocks b o ≡ true → lies_inside (set k) b o ≡ false → n.cells b o ≡ m.cells b o)
  pub of_all : (SameBlocks m.blocks n.blocks × AllFramed set g g') ↔ ChangesIn set m n

abbrev pub FramesAreChanges : Type 0
FramesAreChanges = (set : Sets) (m n : Memory) (g g' : Typed) → Both m n g g' → FramesAre set m n g g'

-- A table that is grown has the same live blocks, and each one that has them is grown to its count.
pub record GrownIs (t : Table) : Type 0 where
  pub grown : (z : ℤ) → SameBlocks t (grow t z)
  pub counted : (z : ℤ) → int_le (count t) z ≡ true → count (grow t z) ≡ z
  pub back : (u : Table) → SameBlocks t u → grow t (count u) ≡ u

abbrev pub GrownTablesHaveTheSameBlocks : Type 0
GrownTablesHaveTheSameBlocks = (t : Table) → GrownIs t

-- Regions that have the same cells as those of an annotation are its set: for cells that were there, and for all cells of blocks, newer ones among them.
pub record SetIs (vs : List Value) (rs : List Region) : Type 0 where
  pub cells : (n : ℤ) (k : CellKind) (b o : ℤ) → int_lt b n ≡ true → lies_inside (set_of n vs rs k) b o ≡ lies_in vs k b o
  pub granted : (n : ℤ) (declared : ℕ) (k : CellKind) (i : ℕ) (o : ℤ)
      → lies_inside (set_of n vs rs k) (pos i) o ≡ lets_cell k (pos i) o (record { regions = vs; count = n; declared = declared })
  -- so a change in it is what the annotation allows
  pub allowed : (m n : Memory)
      → ((k : CellKind) (b o : ℤ) → is_cell k m.blocks b o ≡ true → lies_inside (set_of (count m.blocks) vs rs k) b o ≡ false → n.cells b o ≡ m.cells b o)
      ↔ ((k : CellKind) (b o : ℤ) → is_cell k m.blocks b o ≡ true → lies_in vs k b o ≡ false → n.cells b o ≡ m.cells b o)

abbrev pub RegionsAreSets : Type 0
RegionsAreSets = (vs : List Value) (rs : List Region) → AreRegions vs rs → SetIs vs rs

-- ---- a block that is made

-- The table with the layout allocated, and frames but for its block, are that a block is made.
abbrev pub AllocationsMakeBlocks : Type 0
AllocationsMakeBlocks =
    (l : Layout) (m n : Memory) (g g' : Typed) → Both m n g g'
    → ((n.blocks ≡ alloc m.blocks l) × AllFramed (since (count m.blocks)) g g' × SameHidden m n) ↔ Makes l m n

-- each cell of a block holds a value of its kind
abbrev pub HoldsContents : Facts → (block : ℤ) → Memory → Type 0
HoldsContents p b m = (k : CellKind) (o : ℤ) → is_cell k m.blocks b o ≡ true → is_content p (count m.blocks) k (m.cells b o) ≡ true

-- each cell of a block holds 0 or null
abbrev pub HoldsNothing : (block : ℤ) → Memory → Type 0
HoldsNothing b m = (k : CellKind) (o : ℤ) → is_cell k m.blocks b o ≡ true → m.cells b o ≡ nothing_of k

-- The block of a variable that is entered is made. Where no value is given to it, any values of the kinds of its cells are some contents of it; else it holds
-- nothing yet.
pub record BlockIsMade (p : Facts) (x : ℕ) (v : Variable) (w : World) : Type 0 where
  pub makes : Makes v.layout w.memory (block_made p x v w).memory
  pub shaped : IsShaped w.memory → IsShaped (block_made p x v w).memory
  pub contents : HoldsContents p (count w.memory.blocks) (block_made p x v w).memory
  pub any : v.has_value ≡ false → (n : Memory) → IsShaped w.memory → IsShaped n → Makes v.layout w.memory n → HoldsContents p (count w.memory.blocks) n
      → (contents : List Value) × ((block_made p x v (record w { contents = contents })).memory ≡ n)
  pub nothing : v.has_value ≡ true → (n : Memory) → IsShaped w.memory → IsShaped n → Makes v.layout w.memory n
      → HoldsNothing (count w.memory.blocks) n ↔ ((block_made p x v w).memory ≡ n)

abbrev pub MadeBlocksHoldContents : Type 0
MadeBlocksHoldContents = (p : Facts) (x : ℕ) (v : Variable) (w : World) → BlockIsMade p x v w

-- A parameter that has a block is a block that is made, and its one cell holds the argument.
pub record ParameterIsMade (x : ℕ) (y : Variable) (v : Value) (k : CellKind) (w : World) : Type 0 where
  pub makes : Makes y.layout w.memory (param_made x (Some y) v w).memory
  pub holds : (param_made x (Some y) v w).memory.cells (count w.memory.blocks) (pos 0) ≡ v
  pub shaped : HasForm k v → IsShaped w.memory → IsShaped (param_made x (Some y) v w).memory
  pub back : (n : Memory) → IsShaped w.memory → IsShaped n → Makes y.layout w.memory n → n.cells (count w.memory.blocks) (pos 0) ≡ v
      → (param_made x (Some y) v w).memory ≡ n

abbrev pub ParametersHoldArguments : Type 0
ParametersHoldArguments =
    (x : ℕ) (y : Variable) (v : Value) (k : CellKind) (w : World) → y.is_plain ≡ false → cells_of y.layout ≡ k ∷ [] → ParameterIsMade x y v k w

-- ---- blocks that end

-- The table of before, grown to the count of now, and frames but for blocks that were made since, are that these have ended.
pub record EndsAre (m n r : Memory) (g g' : Typed) : Type 0 where
  pub ends : ((r.blocks ≡ grow m.blocks (count n.blocks)) × AllFramed (since (count m.blocks)) g g' × SameHidden n r) ↔ (r ≡ ended_since m n)

abbrev pub GrowingEndsBlocks : Type 0
GrowingEndsBlocks = (m n r : Memory) (g g' : Typed) → StillThere m.blocks n.blocks → Both n r g g' → EndsAre m n r g g'

-- Blocks stay where others are made, are changed, and where a scope ends that was entered later; a state whose newer blocks have ended is shaped, with the
-- same live blocks as before.
pub record BlocksStay (t u : Table) : Type 0 where
  pub changed : (w : Table) → SameBlocks u w → StillThere t w
  pub made : (l : Layout) → StillThere t (alloc u l)
  pub ended : (w : Table) → StillThere u w → StillThere t (grow u (count w))
  pub all_ended : SameBlocks t (grow t (count u)) × (count (grow t (count u)) ≡ count u)
  pub shaped : (m n : Memory) → m.blocks ≡ t → n.blocks ≡ u → IsShaped n → IsShaped (ended_since m n)

abbrev pub StandingBlocksStay : Type 0
StandingBlocksStay = (t u : Table) → StillThere t u → BlocksStay t u

-- ---- kinds that a change leaves alone

-- A memory of a kind that is left alone reads the state behind the change: where nothing of the kind may change, where a block without it is made, and where
-- blocks without it end.
pub record IsLeftAlone (k : CellKind) (f : Cells) (m : Memory) : Type 0 where
  pub changed : (set : Sets) (n : Memory) → ChangesIn set m n → ((b o : ℤ) → lies_inside (set k) b o ≡ false) → Reads m k f → Reads n k f
  pub made : (l : Layout) (n : Memory) → Makes l m n → lacks k l ≡ true → Reads m k f → Reads n k f
  pub ended : (before : Memory) → StillThere before.blocks m.blocks → LacksSince k before.blocks m.blocks → Reads m k f → Reads (ended_since before m) k f
  -- and it stays formed
  pub formed : (p : Facts) (t u : Table) → SameCells k t u → int_le (count t) (count u) ≡ true → ((b o : ℤ) → FormedAt p t k f b o) → (b o : ℤ)
      → FormedAt p u k f b o

abbrev pub KindsLeftAloneAreRead : Type 0
KindsLeftAloneAreRead = (k : CellKind) (f : Cells) (m : Memory) → IsLeftAlone k f m

-- Newer blocks lack a kind as long as no block with it is made, and then its cells are the same ones.
pub record NewerLack (k : CellKind) (t u : Table) : Type 0 where
  pub changed : (w : Table) → SameBlocks u w → LacksSince k t w × SameCells k u w
  pub made : (l : Layout) → lacks k l ≡ true → LacksSince k t (alloc u l) × SameCells k u (alloc u l)
  pub ended : (w : Table) → StillThere u w → LacksSince k u w → LacksSince k t (grow u (count w)) × SameCells k w (grow u (count w))

pub record KindIsLacking (k : CellKind) : Type 0 where
  pub first : (t : Table) → LacksSince k t t
  pub later : (t u : Table) → LacksSince k t u → NewerLack k t u

abbrev pub NewerBlocksLackKinds : Type 0
NewerBlocksLackKinds = (k : CellKind) → KindIsLacking k

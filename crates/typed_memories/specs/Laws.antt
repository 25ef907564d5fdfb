-- What is so of memories by kind and of states.
use Rattle.std.specs.Prelude.{◌≡◌, ◌↔◌, ℕ, true, false, ℤ, pos, negsuc, int_le, List, Some, slice_get}
use Rattle.wp_base.specs.declared.kinds.Kind.{Kind}
use Rattle.wp_base.specs.declared.kinds.CellKind.{CellKind}
use Rattle.wp_base.specs.declared.kinds.CellKind.TheVariants as cell
use Rattle.wp_base.specs.Blocks.{Table, count, len, is_cell}
use Rattle.c_kinds.specs.Models.{long_bits, high, difference_kind}
use Rattle.qed_terms.specs.Memory as goal
use Rattle.qed_terms.specs.Memory.{load, store, same_memory, is_well_formed, are_well_formed, Region, agree_outside}
use Rattle.c_runs.specs.TruthStates.{Value, number, pointer, held}
use Rattle.c_runs.specs.Program.{Variable, Facts}
use Rattle.c_runs.specs.States.{Local, Memory, global_home, with_cell, stored_in, seen_with}
use Rattle.c_runs.specs.Scopes.{is_content}
use Rattle.c_runs.specs.Entry.{leads_well, is_value, is_placed, is_home, IsWellFormed}
use Rattle.typed_memories.specs.Cells.{Cells, Typed, numbers_by, pointers_by, typed, encoded, CleanAt, InRangeAt, FormedAt, FramedAt, HasForm, AllTyped, AllClean, AllFormed, Reads, AllRead, IsShaped, decoded, IsStored}

-- ---- what terms and formulas say of each address

-- A store is a store of one cell, and two memories are the same where they hold the same at each address.
pub record MapsAre : Type 0 where
  pub number : (m : goal.Memory) (b o z : ℤ) → numbers_by (load (store m b o z)) ≡ with_cell b o (number z) (numbers_by (load m))
  pub pointer : (ms ns : goal.Memory) (b o x y : ℤ)
      → pointers_by (load (store ms b o x)) (load (store ns b o y)) ≡ with_cell b o (pointer x y) (pointers_by (load ms) (load ns))
  pub same : (m n : goal.Memory) → (same_memory m n ≡ true) ↔ (load m ≡ load n)

-- `wf` says of each address that the memory is formed there.
pub record WellFormedIs (p : Facts) (t : Table) : Type 0 where
  pub numbers : (k : Kind) (m : goal.Memory)
      → (is_well_formed (long_bits p.model) k t m ≡ true) ↔ ((b o : ℤ) → FormedAt p t (cell.Of k) (numbers_by (load m)) b o)
  pub pointers : (ms ns : goal.Memory) → (are_well_formed t ms ns ≡ true) ↔ ((b o : ℤ) → FormedAt p t cell.Ptr (pointers_by (load ms) (load ns)) b o)

abbrev pub WellFormedSays : Type 0
WellFormedSays = (p : Facts) (t : Table) → WellFormedIs p t

-- `frame` says of each address that it is framed; of pointers both frames say it.
pub record FrameIs (rs : List Region) : Type 0 where
  pub numbers : (m n : goal.Memory) → (agree_outside m n rs ≡ true) ↔ ((b o : ℤ) → FramedAt rs (numbers_by (load m)) (numbers_by (load n)) b o)
  pub pointers : (ms ns ms' ns' : goal.Memory)
      → ((agree_outside ms ms' rs ≡ true) × (agree_outside ns ns' rs ≡ true)) ↔
      ((b o : ℤ) → FramedAt rs (pointers_by (load ms) (load ns)) (pointers_by (load ms') (load ns')) b o)

abbrev pub FramesSay : Type 0
FramesSay = (rs : List Region) → FrameIs rs

-- What is formed is clean, with values in the ranges of their kinds; so what is held is such a value at each address.
pub record FormedIs (p : Facts) (t : Table) (k : CellKind) (f : Cells) (b o : ℤ) : Type 0 where
  pub parts : FormedAt p t k f b o ↔ (CleanAt t k f b o × InRangeAt p t k f b o)
  pub value : FormedAt p t k f b o → is_content p (count t) k (f b o) ≡ true

abbrev pub FormedIsCleanAndInRange : Type 0
FormedIsCleanAndInRange = (p : Facts) (t : Table) (k : CellKind) (f : Cells) (b o : ℤ) → FormedIs p t k f b o

-- ---- states

-- What clean memories decode to is shaped as states are, and is what they read.
pub record DecodedIsState (t : Table) (g : Typed) (h : Cells) : Type 0 where
  pub shaped : IsShaped (decoded t g h)
  pub read : AllClean t g → AllRead (decoded t g h) g
  pub hidden : (n : ℕ) (o : ℤ) → (decoded t g h).cells (negsuc n) o ≡ h (negsuc n) o

abbrev pub DecodedStatesAreShaped : Type 0
DecodedStatesAreShaped = (t : Table) (g : Typed) (h : Cells) → AllTyped g → DecodedIsState t g h

-- Each state has memories that read it, whatever reads it is clean, and of a shaped state decodes to it.
pub record HasMemories (m : Memory) : Type 0 where
  pub some : AllRead m (typed (encoded m))
  pub clean : (g : Typed) → AllRead m g → AllClean m.blocks g
  pub typed : (g : Typed) → AllRead m g → AllTyped g
  pub decode : IsShaped m → (g : Typed) → AllRead m g → decoded m.blocks g m.cells ≡ m

abbrev pub StatesHaveMemories : Type 0
StatesHaveMemories = (m : Memory) → HasMemories m

-- What is clean in some table is what some memory holds.
pub record CleanIsHeld (t : Table) : Type 0 where
  pub numbers : (k : Kind) (f : (block offset : ℤ) → ℤ) → ((b o : ℤ) → CleanAt t (cell.Of k) (numbers_by f) b o) → (m : goal.Memory) × (load m ≡ f)
  pub pointers : (f g : (block offset : ℤ) → ℤ) → ((b o : ℤ) → CleanAt t cell.Ptr (pointers_by f g) b o)
      → (m : goal.Memory) × (n : goal.Memory) × (load m ≡ f) × (load n ≡ g)

abbrev pub CleanHasMemories : Type 0
CleanHasMemories = (t : Table) → CleanIsHeld t

-- ---- loads

-- What reads a shaped state gives at a cell what the cell holds, and at each address what annotations read there; what is clean, and gives at each cell what it
-- holds, reads the state.
pub record LoadIs (m : Memory) (k : CellKind) (f : Cells) : Type 0 where
  pub cell : Reads m k f → (b o : ℤ) → is_cell k m.blocks b o ≡ true → f b o ≡ m.cells b o
  pub annotation : Reads m k f → (p : Facts) (ls : ℕ → Local) (n : ℕ) (o : ℤ) → f (pos n) o ≡ held k (seen_with p ls m) (pos n) o
  pub back : ((b o : ℤ) → CleanAt m.blocks k f b o) → ((b o : ℤ) → is_cell k m.blocks b o ≡ true → f b o ≡ m.cells b o) → Reads m k f

abbrev pub LoadsAgree : Type 0
LoadsAgree = (m : Memory) (k : CellKind) (f : Cells) → IsShaped m → LoadIs m k f

-- ---- stores

-- A store of a value of the kind at one of its cells is a store in the state, and the other way round; what is clean stays so, and so does the shape.
pub record StoreIs (m : Memory) (k : CellKind) (b o : ℤ) (v : Value) (g g' : Typed) : Type 0 where
  pub state : AllRead m g → IsStored k b o v g g' → AllRead (stored_in b o v m) g'
  pub back : AllRead m g → AllRead (stored_in b o v m) g' → IsStored k b o v g g'
  pub decode : (h : Cells) → IsStored k b o v g g' → decoded m.blocks g' h ≡ stored_in b o v (decoded m.blocks g h)
  pub clean : AllClean m.blocks g → IsStored k b o v g g' → AllClean m.blocks g'
  pub formed : (p : Facts) → is_content p (count m.blocks) k v ≡ true → AllFormed p m.blocks g → IsStored k b o v g g' → AllFormed p m.blocks g'
  pub shaped : IsShaped m → IsShaped (stored_in b o v m)

abbrev pub StoresAgree : Type 0
StoresAgree = (m : Memory) (k : CellKind) (b o : ℤ) (v : Value) (g g' : Typed) → is_cell k m.blocks b o ≡ true → HasForm k v → StoreIs m k b o v g g'

-- ---- well formed states

-- A well formed state is shaped, and memories that read it are formed where its pointers lead to blocks of programs. The other way round, each cell of a state
-- that formed memories read holds a value of its kind.
pub record WellFormedIsFormed (p : Facts) (m : Memory) (g : Typed) : Type 0 where
  pub shaped : IsWellFormed p m → IsShaped m
  pub formed : IsWellFormed p m → ((b o : ℤ) → leads_well (m.cells b o) ≡ true) → AllRead m g → AllFormed p m.blocks g
  pub back : IsShaped m → AllRead m g → AllFormed p m.blocks g → (k : CellKind) (b o : ℤ) → is_cell k m.blocks b o ≡ true
      → (is_value p m.blocks k (m.cells b o) ≡ true) × (leads_well (m.cells b o) ≡ true)

abbrev pub WellFormedStatesAreFormed : Type 0
WellFormedStatesAreFormed = (p : Facts) (m : Memory) (g : Typed) → WellFormedIsFormed p m g

-- So it is for each kind by itself: its memory is formed where its cells hold values that a cell may hold.
abbrev pub FormedIsOfContents : Type 0
FormedIsOfContents =
    (p : Facts) (m : Memory) (k : CellKind) (f : Cells) → IsShaped m → Reads m k f
    → ((b o : ℤ) → FormedAt p m.blocks k f b o) ↔ ((b o : ℤ) → is_cell k m.blocks b o ≡ true → is_content p (count m.blocks) k (m.cells b o) ≡ true)

-- What formed memories decode to is well formed, if the variables of the file are in order, and no block is too large. No pointer leads to a variable of the
-- file that has no address, if those that are held in such variables don't.
pub record DecodedIsWellFormed (p : Facts) (t : Table) (g : Typed) (h : Cells) : Type 0 where
  pub well : ((x : ℕ) (v : Variable) → slice_get p.globals x ≡ Some v → is_placed p (decoded t g h) (global_home p x) v ≡ true)
      → ((n : ℕ) (o : ℤ) → is_home p (negsuc n) o ≡ false → h (negsuc n) o ≡ number (pos 0))
      → ((b : ℤ) → int_le (len t b) (high p.model (difference_kind p.model)) ≡ true) → IsWellFormed p (decoded t g h)
  pub leads : ((n : ℕ) (o : ℤ) → leads_well (h (negsuc n) o) ≡ true) → (b o : ℤ) → leads_well ((decoded t g h).cells b o) ≡ true

abbrev pub FormedDecodeWell : Type 0
FormedDecodeWell = (p : Facts) (t : Table) (g : Typed) (h : Cells) → AllTyped g → AllFormed p t g → DecodedIsWellFormed p t g h

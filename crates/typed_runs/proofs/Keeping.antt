-- What is kept adds up.
use Rattle.std.proofs.Common.{◌≡◌, ℕ, zero, suc, Bool, true, false, ◌&&◌, ◌||◌, if◌then◌else◌, ℤ, pos, negsuc, List, [], ◌∷◌, ◌++◌, map, length, Option, Some, None, refl, sym, ap, ◌∙◌, arith}
use Rattle.std.specs.Prelude.{int_le, int_lt}
use Rattle.std.proofs.lemmas.Int.{ints}
use Rattle.std.proofs.lemmas.Bool.{false≢true}
use Rattle.wp_base.specs.declared.kinds.CellKind.{CellKind}
use Rattle.wp_base.specs.declared.kinds.CellKind.TheVariants as cell
use Rattle.wp_base.specs.Blocks.{Table, count, block_cells, has_cell, is_cell}
use Rattle.c_kinds.proofs.Converting.{test_le, le_test}
use Rattle.c_runs.specs.TruthStates.{number}
use Rattle.c_runs.specs.TruthAllowed.{lies_in}
use Rattle.c_runs.specs.Program.{Facts}
use Rattle.c_runs.specs.States.{Local, Memory, Granted}
use Rattle.c_runs.specs.Claims.{Stop, lets_cell, may_change, may_change_local, of_caller}
use Rattle.c_runs.specs.Scopes.{ended_since}
use Rattle.c_runs.specs.CoreRun.{CoreWorld, Ending, goes_on, exits, returns, stopped, then_do, unless, block_end}
use Rattle.goal_segments.specs.Segments.{SameBlocks}
use Rattle.plain_runs.proofs.Sets.{all_behind}
use Rattle.typed_memories.proofs.Tests.{chosen}
use Rattle.typed_memories.specs.Changes.{StillThere}
use Rattle.typed_memories.proofs.Tables.{cell_below, grown_same}
use Rattle.typed_memories.proofs.Making.{hidden_before}
use Rattle.program_steps.specs.Temporaries.{Temporaries}
use Rattle.typed_runs.specs.Fitting.{Shape, InScope}
use Rattle.typed_runs.specs.Kept.{Holds, AllCounted, NewHomes, KeptMemory, Kept, LeavesMemory, Ends}

-- ---- tables

pub le_then : (a b c : ℤ) → int_le a b ≡ true → int_le b c ≡ true → int_le a c ≡ true
le_then a b c h k = let x = test_le a b h in let y = test_le b c k in le_test a c (omega (arith, ints, x, y))

pub le_same : (a : ℤ) → int_le a a ≡ true
le_same a = le_test a a (omega (arith, ints))

pub blocks_same : (t : Table) → SameBlocks t t
blocks_same t = record { live = λ b. refl; more = le_same (count t) }

pub blocks_then : (t u w : Table) → SameBlocks t u → SameBlocks u w → SameBlocks t w
blocks_then t u w a b = record { live = λ x. b.live x ∙ a.live x; more = le_then (count t) (count u) (count w) a.more b.more }

pub cell_same : (t u : Table) → SameBlocks t u → (k : CellKind) (b o : ℤ) → is_cell k u b o ≡ is_cell k t b o
cell_same t u s k b o = ap (λ x. has_cell k (block_cells x) o) (s.live b)

pub cell_still : (t u : Table) → StillThere t u → (k : CellKind) (b o : ℤ) → is_cell k t b o ≡ true → is_cell k u b o ≡ true
cell_still t u s k b o is = ap (λ x. has_cell k (block_cells x) o) (s.blocks b (cell_below k t b o is)) ∙ is

-- ---- sets

pub counted_more : (gs : List Granted) (n m : ℤ) → int_le n m ≡ true → AllCounted n gs → AllCounted m gs
counted_more [] n m le h = tt
counted_more (g ∷ gs) n m le h = (le_then g.count n m h.0 le, counted_more gs n m le h.1)

pub counted_both : (gs hs : List Granted) (n : ℤ) → AllCounted n gs → AllCounted n hs → AllCounted n (gs ++ hs)
counted_both [] hs n a b = b
counted_both (g ∷ gs) hs n a b = (a.0, counted_both gs hs n a.1 b)

pub counted_callers : (gs : List Granted) (n : ℤ) → AllCounted n gs → AllCounted n (map of_caller gs)
counted_callers [] n h = tt
counted_callers (g ∷ gs) n h = (h.0, counted_callers gs n h.1)

-- blocks that are newer than all sets may change
pub new_may : (gs : List Granted) (k : CellKind) (b o : ℤ) → AllCounted b gs → int_le (pos 0) b ≡ true → may_change gs k b o ≡ true
new_may [] k b o h at = refl
new_may (g ∷ gs) k (pos n) o h at = ap (λ t. (t || lies_in g.regions k (pos n) o) && may_change gs k (pos n) o) h.0 ∙ new_may gs k (pos n) o h.1 at
new_may (g ∷ gs) k (negsuc n) o h at = absurd (false≢true at)

-- the sets of a caller let the same cells change
pub callers_cells : (gs : List Granted) (k : CellKind) (b o : ℤ) → may_change (map of_caller gs) k b o ≡ may_change gs k b o
callers_cells [] k b o = refl
callers_cells (g ∷ gs) k b o = ap (λ t. lets_cell k b o g && t) (callers_cells gs k b o)

-- sets that let no more change than these
pub record Fewer (gs hs : List Granted) : Type 0 where
  pub cells : (k : CellKind) (b o : ℤ) → may_change gs k b o ≡ false → may_change hs k b o ≡ false

pub fewer_same : (gs : List Granted) → Fewer gs gs
fewer_same gs = record { cells = λ k b o h. h }

pub fewer_behind : (own gs : List Granted) → Fewer gs (own ++ gs)
fewer_behind own gs = record { cells = λ k b o h. all_behind (lets_cell k b o) own gs h }

pub fewer_callers : (own gs : List Granted) → Fewer gs (own ++ map of_caller gs)
fewer_callers own gs = record { cells = λ k b o h. all_behind (lets_cell k b o) own (map of_caller gs) (callers_cells gs k b o ∙ h) }

-- ---- memories

pub memory_same : (gs : List Granted) (m : Memory) → KeptMemory gs m m
memory_same gs m = record { blocks = blocks_same m.blocks; cells = λ k b o is h. refl; hidden = λ x o h. refl }

pub memory_then : (gs : List Granted) (m n r : Memory) → KeptMemory gs m n → KeptMemory gs n r → KeptMemory gs m r
memory_then gs m n r a b = record {
  blocks = blocks_then m.blocks n.blocks r.blocks a.blocks b.blocks;
  cells = λ k x o is h. b.cells k x o (cell_same m.blocks n.blocks a.blocks k x o ∙ is) h ∙ a.cells k x o is h;
  hidden = λ x o h. b.hidden x o h ∙ a.hidden x o h;
}

pub memory_more : (gs hs : List Granted) (m n : Memory) → Fewer gs hs → KeptMemory hs m n → KeptMemory gs m n
memory_more gs hs m n f a = record {
  blocks = a.blocks;
  cells = λ k b o is h. a.cells k b o is (f.cells k b o h);
  hidden = λ x o h. a.hidden x o (f.cells cell.Ptr (negsuc x) (pos 0) h);
}

-- blocks were made, what was there was kept, and then they ended
pub memory_ended : (gs : List Granted) (m n r : Memory) → StillThere m.blocks n.blocks → ((b o : ℤ) → int_lt b (count m.blocks) ≡ true → n.cells b o ≡ m.cells b o)
    → KeptMemory gs n r → KeptMemory gs m (ended_since m r)
memory_ended gs m n r there made a = record {
  blocks = grown_same m.blocks (count r.blocks);
  cells = λ k b o is h.
      let below = cell_below k m.blocks b o is in
      chosen (int_lt b (count m.blocks)) (r.cells b o) (number (pos 0)) below ∙ a.cells k b o (cell_still m.blocks n.blocks there k b o is) h ∙ made b o below;
  hidden = λ x o h.
      let below = hidden_before x (suc (length m.blocks)) in chosen (int_lt (negsuc x) (count m.blocks)) (r.cells (negsuc x) o) (number (pos 0)) below ∙ a.hidden x o h ∙ made (negsuc x) o below;
}

-- ---- worlds

module _ (p : Facts) (s : Shape) (f : InScope) where
  -- where fewer temporaries are used
  pub holds_less : (t u : Temporaries) (c : CoreWorld) → ((n : ℕ) → u n ≡ true → t n ≡ true) → Holds p s f t c → Holds p s f u c
  holds_less t u c less h = record { good = h.good; locals = h.locals; homes = h.homes; scoped = h.scoped; temporaries = λ n used. h.temporaries n (less n used) }

module _ (p : Facts) where
  pub kept_none : (gs : List Granted) (t : InScope) (u : Temporaries) (c : CoreWorld) → Kept p gs t u c c
  kept_none gs t u c = record {
    memory = memory_same gs c.world.memory;
    allowed = λ x h. refl;
    untouched = λ x h. refl;
    rises = λ x h. h;
    homes = λ x. refl;
    temporaries = λ n h. refl;
  }

  pub kept_then : (gs : List Granted) (t : InScope) (u : Temporaries) (c d e : CoreWorld) → Kept p gs t u c d → Kept p gs t u d e → Kept p gs t u c e
  kept_then gs t u c d e a b = record {
    memory = memory_then gs c.world.memory d.world.memory e.world.memory a.memory b.memory;
    allowed = λ x h. b.allowed x h ∙ a.allowed x h;
    untouched = λ x h. b.untouched x h ∙ a.untouched x h;
    rises = λ x h. b.rises x (a.rises x h);
    homes = λ x. b.homes x ∙ a.homes x;
    temporaries = λ n h. b.temporaries n h ∙ a.temporaries n h;
  }

  -- where less is set, under more sets
  pub kept_more : (gs hs : List Granted) (t t' : InScope) (u u' : Temporaries) (c d : CoreWorld) → Fewer gs hs
      → ((x : ℕ) → may_change_local p gs x ≡ false → may_change_local p hs x ≡ false) → ((x : ℕ) → t x ≡ false → t' x ≡ false) → ((n : ℕ) → u n ≡ false → u' n ≡ false)
      → Kept p hs t' u' c d → Kept p gs t u c d
  kept_more gs hs t t' u u' c d fewer l a b k = record {
    memory = memory_more gs hs c.world.memory d.world.memory fewer k.memory;
    allowed = λ x h. k.allowed x (l x h);
    untouched = λ x h. k.untouched x (a x h);
    rises = k.rises;
    homes = k.homes;
    temporaries = λ n h. k.temporaries n (b n h);
  }

  pub leaves_then : (gs : List Granted) (t : InScope) (u : Temporaries) (c d e : CoreWorld) → Kept p gs t u c d → LeavesMemory p gs d e → LeavesMemory p gs c e
  leaves_then gs t u c d e a b = record { good = b.good; memory = memory_then gs c.world.memory d.world.memory e.world.memory a.memory b.memory }

  pub leaves_more : (gs hs : List Granted) (c d : CoreWorld) → Fewer gs hs → LeavesMemory p hs c d → LeavesMemory p gs c d
  leaves_more gs hs c d fewer b = record { good = b.good; memory = memory_more gs hs c.world.memory d.world.memory fewer b.memory }

  -- new homes stay so
  pub homes_stay : (low : ℕ) (touched : InScope) (gs hs : List Granted) (t : InScope) (u : Temporaries) (c d : CoreWorld) → Kept p hs t u c d → NewHomes low touched gs c.world.locals
      → NewHomes low touched gs d.world.locals
  homes_stay low touched gs hs t u c d k new x b on le at = new x b on le (sym (k.homes x) ∙ at)

pub homes_less : (low : ℕ) (t u : InScope) (gs : List Granted) (ls : ℕ → Local) → ((x : ℕ) → u x ≡ true → t x ≡ true) → NewHomes low t gs ls → NewHomes low u gs ls
homes_less low t u gs ls less new x b on le at = new x b (less x on) le at

-- ---- ends of statements

module _ (p : Facts) (s : Shape) (f : InScope) (os : List Temporaries) where
  pub ends_more : (t : Temporaries) (gs hs : List Granted) (tx tx' : InScope) (u u' : Temporaries) (c : CoreWorld) → Fewer gs hs
      → ((x : ℕ) → may_change_local p gs x ≡ false → may_change_local p hs x ≡ false) → ((x : ℕ) → tx x ≡ false → tx' x ≡ false) → ((n : ℕ) → u n ≡ false → u' n ≡ false)
      → (o : Ending) → Ends p s f os t hs tx' u' c o → Ends p s f os t gs tx u c o
  ends_more t gs hs tx tx' u u' c fewer l a b (goes_on d) h = (h.0, kept_more p gs hs tx tx' u u' c d fewer l a b h.1)
  ends_more t gs hs tx tx' u u' c fewer l a b (exits k d) h = (h.0, kept_more p gs hs tx tx' u u' c d fewer l a b h.1)
  ends_more t gs hs tx tx' u u' c fewer l a b (returns v d) h = (h.0, leaves_more p gs hs c d fewer h.1)
  ends_more t gs hs tx tx' u u' c fewer l a b (stopped e) h = tt

  -- less is set, under the same sets
  pub ends_sub : (t : Temporaries) (gs : List Granted) (tx tx' : InScope) (u u' : Temporaries) (c : CoreWorld) → ((x : ℕ) → tx x ≡ false → tx' x ≡ false) → ((n : ℕ) → u n ≡ false → u' n ≡ false)
      → (o : Ending) → Ends p s f os t gs tx' u' c o → Ends p s f os t gs tx u c o
  ends_sub t gs tx tx' u u' c a b o h = ends_more t gs gs tx tx' u u' c (fewer_same gs) (λ x h. h) a b o h

  pub ends_after : (t : Temporaries) (gs : List Granted) (tx : InScope) (u : Temporaries) (c d : CoreWorld) → Kept p gs tx u c d → (o : Ending) → Ends p s f os t gs tx u d o
      → Ends p s f os t gs tx u c o
  ends_after t gs tx u c d k (goes_on e) h = (h.0, kept_then p gs tx u c d e k h.1)
  ends_after t gs tx u c d k (exits i e) h = (h.0, kept_then p gs tx u c d e k h.1)
  ends_after t gs tx u c d k (returns v e) h = (h.0, leaves_then p gs tx u c d e k h.1)
  ends_after t gs tx u c d k (stopped e) h = tt

  pub ends_then : (t t' : Temporaries) (gs : List Granted) (tx : InScope) (u : Temporaries) (c : CoreWorld) (go : CoreWorld → Ending)
      → ((d : CoreWorld) → Holds p s f t d → Kept p gs tx u c d → Ends p s f os t' gs tx u d (go d)) → (o : Ending) → Ends p s f os t gs tx u c o → Ends p s f os t' gs tx u c (then_do o go)
  ends_then t t' gs tx u c go next (goes_on d) h = ends_after t' gs tx u c d h.1 (go d) (next d h.0 h.1)
  ends_then t t' gs tx u c go next (exits k d) h = h
  ends_then t t' gs tx u c go next (returns v d) h = h
  ends_then t t' gs tx u c go next (stopped e) h = tt

  pub ends_unless : (t : Temporaries) (gs : List Granted) (tx : InScope) (u : Temporaries) (c : CoreWorld) (x : Option Stop) (o : Ending) → Ends p s f os t gs tx u c o
      → Ends p s f os t gs tx u c (unless x o)
  ends_unless t gs tx u c None o h = h
  ends_unless t gs tx u c (Some x) o h = tt

  pub ends_if : (t : Temporaries) (gs : List Granted) (tx : InScope) (u : Temporaries) (c : CoreWorld) (b : Bool) (x y : Ending) → Ends p s f os t gs tx u c x → Ends p s f os t gs tx u c y
      → Ends p s f os t gs tx u c (if b then x else y)
  ends_if t gs tx u c true x y h k = h
  ends_if t gs tx u c false x y h k = k

  pub block_ends : (t : Temporaries) (gs : List Granted) (tx : InScope) (u : Temporaries) (c : CoreWorld) (o : Ending) → Ends p s f (t ∷ os) t gs tx u c o → Ends p s f os t gs tx u c (block_end o)
  block_ends t gs tx u c (goes_on d) h = h
  block_ends t gs tx u c (exits zero d) h = h
  block_ends t gs tx u c (exits (suc k) d) h = h
  block_ends t gs tx u c (returns v d) h = h
  block_ends t gs tx u c (stopped e) h = tt

-- What is so of havoc: from slots that stand for a world, its runs come to the worlds that a run may go on in.
use Rattle.std.specs.Prelude.{◌≡◌, ◌↔◌, ◌≤◌, ℕ, true, false, ◌&&◌, ℤ, pos, negsuc, List, [], ◌∷◌, length, Option, Some, None, slice_get}
use Rattle.std.specs.List.{list_all}
use Rattle.wp_base.specs.declared.kinds.CellKind.{CellKind}
use Rattle.wp_base.specs.Blocks.{is_cell}
use Rattle.typed_prog.specs.declared.operators.Variable.TheVariants as variables
use Rattle.acsl_trees.specs.Tree as acsl
use Rattle.acsl_encode.specs.Readings as annotation
use Rattle.qed_terms.specs.Tree.{Tree}
use Rattle.qed_terms.specs.Meaning as sense
use Rattle.qed_terms.specs.Meaning.{truth}
use Rattle.c_runs.specs.Program.{Variable, Behavior, Facts}
use Rattle.c_runs.specs.States.{Memory, global_home}
use Rattle.c_runs.specs.CoreRun.{CoreWorld}
use Rattle.goal_segments.specs.Told.{IsGood}
use Rattle.goal_segments.specs.Segments.{SameBlocks, LocalGoesOn}
use Rattle.typed_memories.specs.Cells.{lies_inside}
use Rattle.typed_memories.specs.Changes.{Sets}
use Rattle.memory_steps.specs.State.{State}
use Rattle.memory_steps.specs.Run.{End, goes_on, Seg}
use Rattle.program_steps.specs.Temporaries.{Temporaries}
use Rattle.memory_words.specs.Leaves.{leaves_of, is_closed, closed}
use Rattle.memory_words.specs.Shapes.{FileCells, Shape}
use Rattle.memory_words.specs.Readings.{Texts}
use Rattle.memory_words.specs.Standing.{Frame, StandsFor, FileStands}
use Rattle.memory_words.specs.Seen.{InSetting}
use Rattle.memory_words.specs.Regions.{of_kind, regions_in}
use Rattle.memory_words.specs.Sets.{lacks}
use Rattle.memory_words.specs.Typed.{AllOf}
use Rattle.memory_statements.specs.Renewed.{regions_at, is_closed_region, LeaveIs}
use Rattle.memory_calls.specs.Havoc.{Havoc, havoc_word}
use Rattle.memory_calls.specs.Stays.{all_stay}

-- ---- worlds

-- The world that a run goes on in. Cells of a kind whose memories are renewed change in the set alone, and those of any other kind of the file don't; only
-- variables that no pointer leads to may change among variables, what was set stays set, and only temporaries that no one uses change.
pub record GoesOn (p : Facts) (xs : List Variable) (cells : FileCells) (h : Havoc) (set : Sets) (used : Temporaries) (c d : CoreWorld) : Type 0 where
  pub good : IsGood p d.world.memory
  pub blocks : SameBlocks c.world.memory.blocks d.world.memory.blocks
  pub renewed : (k : CellKind) (b o : ℤ) → cells.has_kind k && h.kinds k ≡ true → is_cell k c.world.memory.blocks b o ≡ true → lies_inside (set k) b o ≡ false
      → d.world.memory.cells b o ≡ c.world.memory.cells b o
  pub kept : (k : CellKind) (b o : ℤ) → cells.has_kind k ≡ true → h.kinds k ≡ false → is_cell k c.world.memory.blocks b o ≡ true
      → d.world.memory.cells b o ≡ c.world.memory.cells b o
  pub globals : (x : ℕ) (v : Variable) → slice_get p.globals x ≡ Some v → v.is_plain ≡ true → h.variables (variables.Global x) ≡ false
      → d.world.memory.cells (global_home p x) (pos 0) ≡ c.world.memory.cells (global_home p x) (pos 0)
  pub locals : (x : ℕ) (v : Variable) → slice_get xs x ≡ Some v → v.is_plain ≡ true → h.variables (variables.Local x) ≡ false → d.world.locals x ≡ c.world.locals x
  pub changed : (x : ℕ) (v : Variable) → slice_get xs x ≡ Some v → v.is_plain ≡ true → h.variables (variables.Local x) ≡ true
      → LocalGoesOn p d.world.memory.blocks v (c.world.locals x) (d.world.locals x)
  pub homes : (x : ℕ) (v : Variable) → slice_get xs x ≡ Some v → v.is_plain ≡ false → d.world.locals x ≡ c.world.locals x
  pub temporaries : (n : ℕ) → used n ≡ true → d.temps n ≡ c.temps n

-- What no slot tells of is as it was: cells of kinds that the file hasn't, hidden blocks at other offsets than 0 or of no variable of the file, all
-- temporaries, and what is no variable of the function.
pub record SameUntold (p : Facts) (xs : List Variable) (cells : FileCells) (c d : CoreWorld) : Type 0 where
  pub kinds : (k : CellKind) (b o : ℤ) → cells.has_kind k ≡ false → is_cell k c.world.memory.blocks b o ≡ true → d.world.memory.cells b o ≡ c.world.memory.cells b o
  pub hidden : (n : ℕ) (o : ℤ) → ((x : ℕ) (v : Variable) → slice_get p.globals x ≡ Some v → v.is_plain ≡ true → global_home p x ≡ negsuc n → o ≡ pos 0 → ⊥)
      → d.world.memory.cells (negsuc n) o ≡ c.world.memory.cells (negsuc n) o
  pub temporaries : (n : ℕ) → d.temps n ≡ c.temps n
  pub others : (x : ℕ) → length xs ≤ x → d.world.locals x ≡ c.world.locals x

-- ---- runs

pub record HavocIs (m : sense.World) (p : Facts) (s : Shape) (cells : FileCells) (h : Havoc) (set : Sets) (fr : Frame) (used : Temporaries) (olds : List State) (n : ℕ)
    (c : CoreWorld) (st : State) : Type 0 where
  pub forth : (d : CoreWorld) → GoesOn p s.variables cells h set used c d
      → (new : State) × Seg olds n (havoc_word m p s cells h) st (goes_on new) × StandsFor p s cells fr used d new
  pub back : (e : End) → Seg olds n (havoc_word m p s cells h) st e
      → (new : State) × (goes_on new ≡ e)
      × ((d : CoreWorld) × GoesOn p s.variables cells h set used c d × SameUntold p s.variables cells c d × StandsFor p s cells fr used d new)

-- Where the bounds of the regions are told by states that are remembered, and only variables in scope change.
abbrev pub HavocRuns : Type 0
HavocRuns =
    (m : sense.World) (p : Facts) (s : Shape) (cells : FileCells) → InSetting m p s cells → (h : Havoc) (set : Sets) (olds : List State)
    → ((st : State) → LeaveIs m h.leave st olds set) → (fr : Frame)
    → ((x : ℕ) → h.variables (variables.Local x) ≡ true → fr.in_scope x ≡ true) → (used : Temporaries) (n : ℕ) (c : CoreWorld) (st : State)
    → StandsFor p s cells fr used c st → HavocIs m p s cells h set fr used olds n c st

-- ---- what stays by the sets of behaviors

-- The bounds of a clause's regions are closed, and in these states the regions, and the blocks from a number on, have in blocks from 0 on the cells of the set.
pub record ClauseIs (m : sense.World) (sts : List State) (r : acsl.Tree → annotation.Reading) (since : Tree) (clause : List acsl.Tree) (set : Sets) : Type 0 where
  pub closed_since : is_closed [] since ≡ true
  pub closed_regions : list_all is_closed_region (regions_in r clause) ≡ true
  pub inside : (k : CellKind) (i : ℕ) (o : ℤ)
      → lies_inside (regions_at m (leaves_of sts) (since ∷ []) (of_kind k (regions_in r clause))) (pos i) o ≡ lies_inside (set k) (pos i) o

-- Of what havoc changes, cells outside of the set stay, and variables of the file that the clause doesn't name.
pub record StaysBy (p : Facts) (file : FileCells) (h : Havoc) (clause : List acsl.Tree) (set : Sets) (c d : Memory) : Type 0 where
  pub cells : (k : CellKind) (b o : ℤ) → file.has_kind k && h.kinds k ≡ true → is_cell k c.blocks b o ≡ true → lies_inside (set k) b o ≡ false → d.cells b o ≡ c.cells b o
  pub globals : (x : ℕ) (v : Variable) → slice_get p.globals x ≡ Some v → v.is_plain ≡ true → h.variables (variables.Global x) ≡ true
      → lacks (Some clause) (variables.Global x) ≡ true → d.cells (global_home p x) (pos 0) ≡ c.cells (global_home p x) (pos 0)

module _ (m : sense.World) (sts : List State) (assumed : Behavior → Tree) (set : Behavior → Sets) where
  abbrev pub BehaviorFits : (acsl.Tree → annotation.Reading) → (since : Tree) → Behavior → Type 0
  BehaviorFits r e b = by b.assigns where
    by : Option (List acsl.Tree) → Type 0
    by None = Unit {0}
    by (Some clause) = (is_closed [] (assumed b) ≡ true) × ClauseIs m sts r e clause (set b)

  -- where it is assumed
  abbrev pub BehaviorStays : Facts → FileCells → Havoc → (c d : Memory) → Behavior → Type 0
  BehaviorStays p file h c d b = by b.assigns where
    by : Option (List acsl.Tree) → Type 0
    by None = Unit {0}
    by (Some clause) = truth m (leaves_of sts) (assumed b) ≡ true → StaysBy p file h clause (set b) c d

-- The slots stand for the file before, and in the present state, where the same blocks live: then the formulas are true where all of this stays.
abbrev pub StaysMean : Type 0
StaysMean =
    (m : sense.World) (p : Facts) (s : Shape) (cells : FileCells) (texts : Texts) (r : acsl.Tree → annotation.Reading) (assumed : Behavior → Tree) (since : Tree) (h : Havoc)
    (set : Behavior → Sets) (present before : State) (olds : List State) (c d : Memory) → FileStands p s cells c before → FileStands p s cells d present
    → SameBlocks c.blocks d.blocks → (bs : List Behavior) → AllOf (BehaviorFits m (present ∷ before ∷ olds) assumed set r since) bs
    → (list_all (λ f. truth m (leaves_of (present ∷ before ∷ olds)) (closed f)) (all_stay p s cells texts r assumed since h bs) ≡ true)
    ↔ AllOf (BehaviorStays m (present ∷ before ∷ olds) assumed set p cells h c d) bs

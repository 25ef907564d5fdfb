-- What a run of a statement leaves alone, in a program whose statements keep to the kinds (ACSL 2.3.2, 2.4.2).
use Rattle.std.specs.Prelude.{◌≡◌, ◌≤◌, ℕ, Bool, true, false, ℤ, negsuc, int_le, int_lt, List, [], ◌∷◌, Option, Some, None, slice_get}
use Rattle.wp_base.specs.declared.kinds.CellKind.{CellKind}
use Rattle.wp_base.specs.Blocks.{Table, count, block_at, block_of, is_cell}
use Rattle.c_runs.specs.TruthStates.{Value}
use Rattle.c_runs.specs.Program.{Variable, Facts}
use Rattle.c_runs.specs.States.{Local, plain, home, unset, Memory, Granted}
use Rattle.c_runs.specs.Claims.{may_change, may_change_local}
use Rattle.c_runs.specs.Scopes.{is_content}
use Rattle.c_runs.specs.Calls.{nought}
use Rattle.c_runs.specs.CoreRun.{CoreWorld, Ending, goes_on, exits, returns, stopped}
use Rattle.c_runs.specs.Tests.{is_set_by}
use Rattle.goal_segments.specs.Segments.{SameBlocks}
use Rattle.goal_segments.specs.Told.{may_change_global}
use Rattle.plain_runs.specs.Fitting.{IsGood}
use Rattle.program_steps.specs.Temporaries.{Temporaries, out_at}
use Rattle.typed_runs.specs.Fitting.{Shape, InScope, kind_of}

-- ---- worlds that fit

-- the block of a variable, if it has one
abbrev pub home_at : Local → Option ℤ
home_at (plain held is_set) = None
home_at (home b) = Some b

-- a variable that no pointer leads to: it holds a value of its kind, whether it is set or not
pub record HoldsValue (p : Facts) (blocks : ℤ) (v : Variable) (l : Local) : Type 0 where
  pub held : Value
  pub is_set : Bool
  pub same : l ≡ plain held is_set
  pub content : is_content p blocks (kind_of v) held ≡ true

-- any other one: it has a block of its layout
pub record HasHome (t : Table) (v : Variable) (l : Local) : Type 0 where
  pub block : ℤ
  pub same : l ≡ home block
  pub made : int_lt block (count t) ≡ true
  pub layout : block_at t block ≡ block_of v.layout

-- The state is good, variables in scope and temporaries that are used hold values of their kinds, and what isn't in scope is unset.
pub record Holds (p : Facts) (s : Shape) (f : InScope) (t : Temporaries) (c : CoreWorld) : Type 0 where
  pub good : IsGood p c.world.memory
  pub locals : (x : ℕ) (v : Variable) → slice_get s.variables x ≡ Some v → f x ≡ true → v.is_plain ≡ true → HoldsValue p (count c.world.memory.blocks) v (c.world.locals x)
  pub homes : (x : ℕ) (v : Variable) → slice_get s.variables x ≡ Some v → f x ≡ true → v.is_plain ≡ false → HasHome c.world.memory.blocks v (c.world.locals x)
  pub scoped : (x : ℕ) → f x ≡ false → c.world.locals x ≡ unset
  pub temporaries : (n : ℕ) → t n ≡ true → is_content p (count c.world.memory.blocks) (s.temp_kind n) (c.temps n) ≡ true

-- ---- sets in force

-- sets that were taken where there were at most so many blocks
abbrev pub AllCounted : ℤ → List Granted → Type 0
AllCounted n [] = Unit {0}
AllCounted n (g ∷ gs) = (int_le g.count n ≡ true) × AllCounted n gs

-- variables that a text sets and that are declared inside of the loops around have newer blocks
abbrev pub NewHomes : (low : ℕ) → (touched : InScope) → List Granted → (ℕ → Local) → Type 0
NewHomes low touched gs ls = (x : ℕ) (b : ℤ) → touched x ≡ true → low ≤ x → home_at (ls x) ≡ Some b → AllCounted b gs

-- ---- what stays

-- the same blocks live, and what these sets don't let change holds what it held
pub record KeptMemory (gs : List Granted) (m n : Memory) : Type 0 where
  pub blocks : SameBlocks m.blocks n.blocks
  pub cells : (k : CellKind) (b o : ℤ) → is_cell k m.blocks b o ≡ true → may_change gs k b o ≡ false → n.cells b o ≡ m.cells b o
  pub hidden : (x : ℕ) (o : ℤ) → may_change_global gs x ≡ false → n.cells (negsuc x) o ≡ m.cells (negsuc x) o

-- where a text sets these variables and these temporaries
pub record Kept (p : Facts) (gs : List Granted) (touched : InScope) (temped : Temporaries) (c d : CoreWorld) : Type 0 where
  pub memory : KeptMemory gs c.world.memory d.world.memory
  pub allowed : (x : ℕ) → may_change_local p gs x ≡ false → d.world.locals x ≡ c.world.locals x
  pub untouched : (x : ℕ) → touched x ≡ false → d.world.locals x ≡ c.world.locals x
  pub rises : (x : ℕ) → is_set_by (c.world.locals x) ≡ true → is_set_by (d.world.locals x) ≡ true
  pub homes : (x : ℕ) → home_at (d.world.locals x) ≡ home_at (c.world.locals x)
  pub temporaries : (n : ℕ) → temped n ≡ false → d.temps n ≡ c.temps n

-- ---- how a statement ends

-- a result of the kind; a function without result gives what is of no use
abbrev pub IsResult : Facts → (blocks : ℤ) → Option CellKind → Value → Type 0
IsResult p n (Some k) v = is_content p n k v ≡ true
IsResult p n None v = v ≡ nought

-- what a function leaves behind, however it ends
pub record LeavesMemory (p : Facts) (gs : List Granted) (c d : CoreWorld) : Type 0 where
  pub good : IsGood p d.world.memory
  pub memory : KeptMemory gs c.world.memory d.world.memory

-- Of a statement that began in the first world, behind which these temporaries are used, and those behind the blocks around.
abbrev pub Ends : (p : Facts) (s : Shape) (f : InScope) (os : List Temporaries) (t : Temporaries) (gs : List Granted) (touched : InScope) (temped : Temporaries)
    (c : CoreWorld) → Ending → Type 0
Ends p s f os t gs touched temped c (goes_on d) = Holds p s f t d × Kept p gs touched temped c d
Ends p s f os t gs touched temped c (exits k d) = Holds p s f (out_at os k) d × Kept p gs touched temped c d
Ends p s f os t gs touched temped c (returns v d) = IsResult p (count d.world.memory.blocks) s.result v × LeavesMemory p gs c d
Ends p s f os t gs touched temped c (stopped e) = Unit {0}

-- of a function
abbrev pub BodyEnds : (p : Facts) (s : Shape) (gs : List Granted) (c : CoreWorld) → Ending → Type 0
BodyEnds p s gs c (goes_on d) = LeavesMemory p gs c d
BodyEnds p s gs c (exits k d) = LeavesMemory p gs c d
BodyEnds p s gs c (returns v d) = IsResult p (count d.world.memory.blocks) s.result v × LeavesMemory p gs c d
BodyEnds p s gs c (stopped e) = Unit {0}

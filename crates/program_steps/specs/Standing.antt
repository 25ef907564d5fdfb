-- When slots stand for the world of a core program over plain integers, and how ends of runs of its statements and of their words go together.
use Rattle.std.specs.Prelude.{◌≡◌, ◌<◌, ◌⊎◌, ℕ, zero, suc, Bool, true, false, ◌||◌, ℤ, pos, negsuc, List, [], ◌∷◌, length, Option, Some, None, slice_get}
use Rattle.wp_base.specs.declared.kinds.CellKind.{CellKind}
use Rattle.wp_base.specs.Blocks.{Table}
use Rattle.c_kinds.specs.Models.{holds}
use Rattle.typed_prog.specs.declared.operators.Variable.TheVariants as variables
use Rattle.qed_terms.specs.Operators.{is_equal}
use Rattle.c_runs.specs.TruthStates.{Value, number}
use Rattle.c_runs.specs.TruthStates as labelled
use Rattle.c_runs.specs.Program.{Variable, Facts}
use Rattle.c_runs.specs.States.{Local, plain, hidden}
use Rattle.c_runs.specs.Claims.{Stop, struct_cells}
use Rattle.c_runs.specs.CoreRun as run
use Rattle.c_runs.specs.CoreRun.{CoreWorld, Ending}
use Rattle.plain_states.specs.Slots.{State, at, value_slot, local_value, local_flag, result_slot, temp_slot}
use Rattle.plain_states.specs.Scopes.{kind_of}
use Rattle.goal_segments.specs.Told.{IsGood, IsFlag, Shape, sizes, IsResult}
use Rattle.goal_segments.specs.Segments.{SameBlocks}
use Rattle.walk_steps.specs.State.{at_or}
use Rattle.walk_steps.specs.Forms.{Place}
use Rattle.walk_steps.specs.Run.{End, goes_on, leaves, fails}
use Rattle.program_steps.specs.Stops.{IsStop}
use Rattle.program_steps.specs.Temporaries.{Temporaries, no_temporaries, out_at}

-- ---- worlds

-- a variable of the function; it holds a value of its kind where it was set, and where it is declared with a value
pub record LocalIs (p : Facts) (v : Variable) (l : Local) (value flag : ℤ) : Type 0 where
  pub same : l ≡ plain (number value) (is_equal (pos 1) flag)
  pub is_flag : IsFlag flag
  pub fits : (v.has_value || is_equal (pos 1) flag) ≡ true → holds p.model (kind_of v) value ≡ true

-- a temporary, of those that are still used
pub record TempIs (p : Facts) (s : Shape) (n : ℕ) (v : Value) (z : ℤ) : Type 0 where
  pub same : v ≡ number z
  pub fits : holds p.model (s.temp_kind n) z ≡ true

-- Where these variables are in scope, and these temporaries are used; the live blocks are those of the table that the function found.
pub record StandsFor (p : Facts) (s : Shape) (table : Table) (in_scope : ℕ → Bool) (used : Temporaries) (c : CoreWorld) (st : State) : Type 0 where
  pub size : length st ≡ temp_slot (sizes p s) s.temporaries
  pub good : IsGood p c.world.memory
  pub blocks : SameBlocks table c.world.memory.blocks
  pub globals : (x : ℕ) (v : Variable) → slice_get p.globals x ≡ Some v → c.world.memory.cells (negsuc x) (pos 0) ≡ number (at st (value_slot x))
  pub locals : (x : ℕ) (v : Variable) → slice_get s.variables x ≡ Some v
      → LocalIs p v (c.world.locals x) (at st (local_value (sizes p s) x)) (at st (local_flag (sizes p s) x))
  pub temporaries : (n : ℕ) → n < s.temporaries → used n ≡ true → TempIs p s n (c.temps n) (at st (temp_slot (sizes p s) n))
  pub unscoped : (x : ℕ) → x < length s.variables → in_scope x ≡ false
      → (at st (local_value (sizes p s) x) ≡ pos 0) × (at st (local_flag (sizes p s) x) ≡ pos 0)

-- ---- states that annotations see

-- the slots of the file's variables are those of the first list, and those of the function's of the second one
pub record SeenAs (p : Facts) (s : Shape) (q : labelled.State) (file st : State) : Type 0 where
  pub file_homes : (x : ℕ) (v : Variable) → slice_get p.globals x ≡ Some v → q.home (variables.Global x) ≡ negsuc x
  pub globals : (x : ℕ) (v : Variable) → slice_get p.globals x ≡ Some v → q.cells (negsuc x) (pos 0) ≡ number (at file (value_slot x))
  pub file_fits : (x : ℕ) (v : Variable) → slice_get p.globals x ≡ Some v → holds p.model (kind_of v) (at file (value_slot x)) ≡ true
  pub homes : (x : ℕ) (v : Variable) → slice_get s.variables x ≡ Some v → q.home (variables.Local x) ≡ hidden p x
  pub locals : (x : ℕ) (v : Variable) → slice_get s.variables x ≡ Some v → q.cells (hidden p x) (pos 0) ≡ number (at st (local_value (sizes p s) x))
  pub fits : (x : ℕ) (v : Variable) → slice_get s.variables x ≡ Some v → (v.has_value || is_equal (pos 1) (at st (local_flag (sizes p s) x))) ≡ true
      → holds p.model (kind_of v) (at st (local_value (sizes p s) x)) ≡ true

-- by the states of these levels, the present one being 0
pub record SeenBy (p : Facts) (s : Shape) (w : labelled.World) (sts : List State) (here entry loop_entry : ℕ) : Type 0 where
  pub here_is : SeenAs p s w.here (at_or [] sts here) (at_or [] sts here)
  pub pre_is : SeenAs p s w.pre (at_or [] sts entry) (at_or [] sts entry)
  pub post_is : SeenAs p s w.post (at_or [] sts here) (at_or [] sts here)
  pub loop_entry_is : SeenAs p s w.loop_entry (at_or [] sts loop_entry) (at_or [] sts loop_entry)
  pub model : p.model ≡ w.model
  pub structs : (n : ℕ) → struct_cells p n ≡ w.structs n

-- ---- ends

-- the check with this number is of the place, where they are numbered from n
abbrev pub IsPlace : List Place → (n i : ℕ) → Place → Type 0
IsPlace [] n i a = ⊥
IsPlace (b ∷ bs) n i a = ((n ≡ i) × (b ≡ a)) ⊎ IsPlace bs (suc n) i a

-- a check that fails, and how the run stops
abbrev pub FailsAs : List Place → (n i : ℕ) → Stop → Type 0
FailsAs ps n i e = (a : Place) × IsPlace ps n i a × IsStop e a

module _ (p : Facts) (s : Shape) (table : Table) (in_scope : ℕ → Bool) where
  -- a value that is returned stands in its slot
  pub record ReturnsIt (v : Value) (c : CoreWorld) (st : State) : Type 0 where
    pub stands : StandsFor p s table in_scope no_temporaries c st
    pub result : IsResult p s.result v
    pub slot : (k : CellKind) → s.result ≡ Some k → v ≡ number (at st (result_slot (sizes p s)))

  -- behind the ends of the blocks around these temporaries are used, and those behind the statement's own end
  abbrev pub Ends : (outs : List Temporaries) → (after : Temporaries) → List Place → ℕ → Ending → End → Type 0
  Ends outs f ps n (run.goes_on c) (goes_on st) = StandsFor p s table in_scope f c st
  Ends outs f ps n (run.goes_on c) (leaves l st) = ⊥
  Ends outs f ps n (run.goes_on c) (fails i) = ⊥
  Ends outs f ps n (run.exits k c) (goes_on st) = ⊥
  Ends outs f ps n (run.exits k c) (leaves l st) = (k ≡ l) × (k < length outs) × StandsFor p s table in_scope (out_at outs k) c st
  Ends outs f ps n (run.exits k c) (fails i) = ⊥
  Ends outs f ps n (run.returns v c) (goes_on st) = ⊥
  Ends outs f ps n (run.returns v c) (leaves l st) = (l ≡ length outs) × ReturnsIt v c st
  Ends outs f ps n (run.returns v c) (fails i) = ⊥
  Ends outs f ps n (run.stopped e) (goes_on st) = ⊥
  Ends outs f ps n (run.stopped e) (leaves l st) = ⊥
  Ends outs f ps n (run.stopped e) (fails i) = FailsAs ps n i e

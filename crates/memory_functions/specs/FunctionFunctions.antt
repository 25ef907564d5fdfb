-- What is asked of a function with memory, the slots in which it is entered, and how it ends.
use Rattle.std.specs.Prelude.{◌≡◌, ◌<◌, ◌≤◌, ℕ, Bool, true, false, ℤ, pos, List, [], ◌∷◌, length, Option, Some, None, slice_get}
use Rattle.wp_base.specs.declared.kinds.CellKind.{CellKind}
use Rattle.wp_base.specs.declared.kinds.CellKind.TheVariants as cell
use Rattle.wp_base.specs.Blocks.{Table, cells_of}
use Rattle.typed_prog.specs.declared.operators.Variable.TheVariants as variables
use Rattle.qed_terms.specs.Meaning as sense
use Rattle.c_runs.specs.Told.{Value}
use Rattle.c_runs.specs.Program.{Variable, Claim, Behavior, Function, Facts}
use Rattle.c_runs.specs.States.{Memory, World}
use Rattle.c_runs.specs.Calls.{Eval, gives, stops}
use Rattle.c_runs.specs.Scopes.{arrived}
use Rattle.c_runs.specs.CoreRun.{CoreWorld, begun}
use Rattle.c_runs.specs.Tree.{Steps}
use Rattle.goal_segments.specs.Segments.{IsResult}
use Rattle.typed_memories.specs.Changes.{StillThere, SameCells}
use Rattle.walk_steps.specs.Forms.{Place as CheckPlace}
use Rattle.program_steps.specs.Temporaries.{no_temporaries, all_live}
use Rattle.memory_steps.specs.State.{State, HasSort, nothing}
use Rattle.memory_steps.specs.Step.{Step}
use Rattle.memory_steps.specs.Run.{End, goes_on, leaves, fails, Seg}
use Rattle.memory_words.specs.Places.{Place, value, offset, flag, result, result_offset, temporary, temporary_offset, IsIn, slots_in, held, number_at}
use Rattle.memory_words.specs.Shapes.{FileCells, Shape, sizes, kind_of, is_memory}
use Rattle.memory_words.specs.Readings.{Texts, entry_reading, return_reading}
use Rattle.memory_words.specs.Standing.{IsHeldAs, TempIs, FileStands, ParamsAre, Frame, StandsFor}
use Rattle.memory_words.specs.Seen.{ClaimFits}
use Rattle.memory_words.specs.Typed.{AllOf, DeclaredFits, OtherFits, AllFit, SetFits}
use Rattle.memory_words.specs.Words.{home_kinds, has_home}
use Rattle.memory_words.specs.Placed.{FailsAs}
use Rattle.memory_functions.specs.GoalFunctions.{is_param, numbers_from, body_point}

-- ---- what is asked of it

-- a parameter; one that has a block has one cell
pub record ParamFits (s : Shape) (cells : FileCells) (v : Variable) : Type 0 where
  pub declared : DeclaredFits s cells v
  pub one_cell : v.is_plain ≡ false → (cells_of v.layout ≡ kind_of v ∷ []) × (cells.has_kind (kind_of v) ≡ true)

module _ (m : sense.World) (p : Facts) (s : Shape) (cells : FileCells) (texts : Texts) (params : ℕ) where
  -- its claims have formulas that mean them, at its entry and where it returns, and so have its regions
  pub record BehaviorFits (b : Behavior) : Type 0 where
    pub assumes : AllOf (ClaimFits m p (entry_reading p s cells texts 1 (is_param params))) b.assumes
    pub ensures : AllOf (λ (c : Claim). ClaimFits m p (return_reading p s cells texts 1 (is_param params)) c.what) b.ensures
    pub assigns : SetFits m p s (entry_reading p s cells texts 1 (is_param params)) b.assigns

pub record FunctionFits (m : sense.World) (p : Facts) (s : Shape) (cells : FileCells) (texts : Texts) (fits : OtherFits) (own : ℕ) (f : Function Steps) : Type 0 where
  pub result : s.result ≡ Some cell.Ptr → cells.has_blocks ≡ true
  pub params_there : f.params ≤ length s.variables
  pub params : (x : ℕ) (v : Variable) → slice_get s.variables x ≡ Some v → is_param f.params x ≡ true → ParamFits s cells v
  pub assumes : f.contract.plain.assumes ≡ []
  pub plain : BehaviorFits m p s cells texts f.params f.contract.plain
  pub behaviors : AllOf (BehaviorFits m p s cells texts f.params) f.contract.behaviors
  pub body : AllFit m p s cells texts fits (body_point m p s cells texts f.params own) no_temporaries f.body

-- ---- where it is entered

-- Slots stand for the world in which it is entered with these arguments: before the blocks of parameters are made the places of all of them hold the arguments,
-- and no other variable is set.
pub record EntersAs (p : Facts) (s : Shape) (cells : FileCells) (f : Function Steps) (vs : List Value) (w : World) (st : State) : Type 0 where
  pub size : length st.slots ≡ slots_in (sizes p s)
  pub sorted : (a : Place) → IsIn (sizes p s) a → is_memory cells a ≡ false → HasSort false (held (sizes p s) st a)
  pub file : FileStands p s cells w.memory st
  pub count : length vs ≡ f.params
  pub arguments : ParamsAre p s w.memory.blocks (is_param f.params) vs st
  pub set : (x : ℕ) (v : Variable) → slice_get s.variables x ≡ Some v → is_param f.params x ≡ true → number_at (sizes p s) st (flag (variables.Local x)) ≡ pos 1
  pub unset : (x : ℕ) → x < length s.variables → is_param f.params x ≡ false
      → (held (sizes p s) st (value (variables.Local x)) ≡ nothing) × (held (sizes p s) st (offset (variables.Local x)) ≡ nothing)
      × (held (sizes p s) st (flag (variables.Local x)) ≡ nothing)
  pub temporaries : (n : ℕ) → n < s.temporaries → all_live f.body [] no_temporaries n ≡ true
      → TempIs p w.memory.blocks (s.temp_kind n) ((begun w).temps n) (number_at (sizes p s) st (temporary n)) (number_at (sizes p s) st (temporary_offset n))

-- the frame of its body, where the parameters' blocks have been made
abbrev pub body_frame : (params : ℕ) → Table → (homes : ℕ → ℤ) → Frame
body_frame n t homes = record { in_scope = is_param n; table = t; lives = is_param n; homes = homes }

-- The blocks of parameters have been made, and the slots stand for the world of the body (C11 6.9.1p10, 6.2.4p6).
pub record ArrivedAs (p : Facts) (s : Shape) (cells : FileCells) (f : Function Steps) (vs : List Value) (w : World) (st : State) : Type 0 where
  pub homes : ℕ → ℤ
  pub stands : StandsFor p s cells (body_frame f.params (arrived s.variables vs w).memory.blocks homes) (all_live f.body [] no_temporaries) (begun (arrived s.variables vs w)) st
  pub blocks : StillThere w.memory.blocks (arrived s.variables vs w).memory.blocks
  -- kinds that none of these blocks has have the same cells, and without blocks there is the same table
  pub kinds : (k : CellKind) → home_kinds s.variables (numbers_from 0 f.params) k ≡ false → SameCells k w.memory.blocks (arrived s.variables vs w).memory.blocks
  pub none : has_home s.variables (numbers_from 0 f.params) ≡ false → (arrived s.variables vs w).memory.blocks ≡ w.memory.blocks

-- ---- how it ends

-- The slots are those of the file behind it, and what it gives stands in its places.
pub record ReturnsAs (p : Facts) (s : Shape) (cells : FileCells) (v : Value) (m : Memory) (st : State) : Type 0 where
  pub file : FileStands p s cells m st
  pub given : IsResult p m.blocks s.result v
  pub slot : (k : CellKind) → s.result ≡ Some k → IsHeldAs k v (number_at (sizes p s) st result) (number_at (sizes p s) st result_offset)

-- a failing check is one of the same kind and line
abbrev pub FunctionEnds : Facts → Shape → FileCells → List CheckPlace → Eval → End → Type 0
FunctionEnds p s cells ps (gives v u) (goes_on st) = ReturnsAs p s cells v u.memory st
FunctionEnds p s cells ps (gives v u) (leaves k st) = ⊥
FunctionEnds p s cells ps (gives v u) (fails i) = ⊥
FunctionEnds p s cells ps (stops e) (goes_on st) = ⊥
FunctionEnds p s cells ps (stops e) (leaves k st) = ⊥
FunctionEnds p s cells ps (stops e) (fails i) = FailsAs ps 0 i e

-- Runs of a function and those of its word: for each of the ones there is one of the others that ends so.
pub record FunctionRuns (r : Eval → Type 0) (ends : Eval → End → Type 0) (a : Step) (st : State) : Type 0 where
  pub forth : (o : Eval) → r o → (e : End) × Seg [] 0 a st e × ends o e
  pub back : (e : End) → Seg [] 0 a st e → (o : Eval) × r o × ends o e

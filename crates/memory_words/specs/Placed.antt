-- Where a statement of a function stands in a run, as its word knows it; how ends of runs go together, and that runs of a statement and of its word do.
use Rattle.std.specs.Prelude.{◌≡◌, ◌<◌, ◌⊎◌, ℕ, zero, suc, Bool, true, false, ℤ, pos, negsuc, List, [], ◌∷◌, ◌++◌, map, length, Option, Some, None, slice_get}
use Rattle.std.specs.List.{list_all}
use Rattle.wp_base.specs.declared.kinds.CellKind.{CellKind}
use Rattle.wp_base.specs.Blocks.{Table, count, has_layout}
use Rattle.acsl_trees.specs.Tree as acsl
use Rattle.c_runs.specs.TruthStates as labelled
use Rattle.typed_prog.specs.declared.operators.Variable.TheVariants as variables
use Rattle.qed_terms.specs.Meaning as sense
use Rattle.qed_terms.specs.Meaning.{truth, value}
use Rattle.qed_terms.specs.Tree.{Tree}
use Rattle.c_runs.specs.Told.{Value}
use Rattle.c_runs.specs.Program.{Variable, Contract, Facts}
use Rattle.c_runs.specs.States.{Memory, Here, Granted, global_home, with_memory}
use Rattle.c_runs.specs.Claims.{Stop, measure_of, in_state, in_body, granted_in, parts_of, may_change, may_change_local, regions_of}
use Rattle.c_runs.specs.Scopes.{ended_since}
use Rattle.c_runs.specs.CoreRun as run
use Rattle.c_runs.specs.CoreRun.{CoreWorld, Ending, in_world}
use Rattle.goal_segments.specs.Told.{IsGood}
use Rattle.goal_segments.specs.Segments.{SameBlocks, IsResult}
use Rattle.typed_memories.specs.Cells.{IsShaped}
use Rattle.typed_memories.specs.Changes.{StillThere, LacksSince}
use Rattle.acsl_encode.specs.Meaning.{HasAddress}
use Rattle.walk_steps.specs.State.{at_or}
use Rattle.walk_steps.specs.Forms.{Place as CheckPlace}
use Rattle.memory_steps.specs.State.{State, state}
use Rattle.memory_steps.specs.Step.{Step}
use Rattle.memory_steps.specs.Run.{End, goes_on, leaves, fails, Seg}
use Rattle.memory_words.specs.Places.{result, result_offset, number_at}
use Rattle.memory_words.specs.Leaves.{leaves_of, is_closed, closed}
use Rattle.program_steps.specs.Stops.{IsStop}
use Rattle.program_steps.specs.Temporaries.{Temporaries, no_temporaries, out_at}
use Rattle.memory_words.specs.Shapes.{FileCells, Shape, sizes}
use Rattle.memory_words.specs.Readings.{InScope, Texts, Standpoint, body_reading}
use Rattle.memory_words.specs.Standing.{IsHeldAs, Frame, StandsFor}
use Rattle.memory_words.specs.Seen.{state_of, SeenInBody, SeenByContract, SeenAtLoop, BodySeen}
use Rattle.memory_words.specs.Points.{Open, Out, Force, of_function, of_loop, Point, uses_of}
use Rattle.memory_words.specs.Sets.{variable_trees, cell_trees}
use Rattle.memory_words.specs.Words.{own_kind}

-- ---- scopes that are open

-- the memory before the blocks of a scope were made, the table that the scope around it began with, and whose blocks live there
pub record Opening : Type 0 where
  pub before : Memory
  pub around : Table
  pub lives : InScope

-- those inside of the innermost block, and those directly around each block
pub record Openings : Type 0 where
  pub here : List Opening
  pub outs : List (List Opening)

abbrev pub left_of : (k : ℕ) → List Opening → List (List Opening) → List Opening
left_of zero here os = here
left_of (suc k) here [] = here
left_of (suc k) here (o ∷ os) = here ++ left_of k o os

abbrev pub all_of : List Opening → List (List Opening) → List Opening
all_of here [] = here
all_of here (o ∷ os) = here ++ all_of o os

-- where these have ended, the innermost first
abbrev pub ended_all : List Opening → Memory → Memory
ended_all [] n = n
ended_all (o ∷ os) n = ended_all os (ended_since o.before n)

abbrev pub table_behind : Table → List Opening → Table
table_behind t [] = t
table_behind t (o ∷ os) = table_behind o.around os

abbrev pub lives_behind : InScope → List Opening → InScope
lives_behind f [] = f
lives_behind f (o ∷ os) = lives_behind o.lives os

-- the frame there, where variables are in scope as before
abbrev pub frame_behind : Frame → List Opening → Frame
frame_behind fr os = record fr { table = table_behind fr.table os; lives = lives_behind fr.lives os }

module _ (p : Facts) (s : Shape) (cells : FileCells) (olds : List State) (in_scope : InScope) (homes : ℕ → ℤ) where
  -- A scope with blocks that was opened in a good state and began with this table.
  pub record IsOpen (table : Table) (o : Open) (q : Opening) : Type 0 where
    pub in_blocks : cells.has_blocks ≡ true
    pub level_there : o.level < length olds
    pub level_is : (at_or (state [] []) olds o.level).table ≡ q.before.blocks
    pub good : IsGood p q.before
    pub blocks : StillThere q.before.blocks table
    pub kinds : (k : CellKind) → cells.has_kind k ≡ true → o.has_kind k ≡ false → LacksSince k q.before.blocks table
    pub of_file : (k : CellKind) → o.has_kind k ≡ true → (cells.has_kind k ≡ true) × (own_kind s.variables k ≡ true)
    pub around : SameBlocks q.around q.before.blocks
    pub scoped : (x : ℕ) → q.lives x ≡ true → in_scope x ≡ true
    pub living : (x : ℕ) (v : Variable) → slice_get s.variables x ≡ Some v → v.is_plain ≡ false → q.lives x ≡ true → has_layout q.around (homes x) v.layout ≡ true

  -- the innermost first
  abbrev pub AreOpen : Table → List Open → List Opening → Type 0
  AreOpen t [] [] = Unit {0}
  AreOpen t [] (q ∷ qs) = ⊥
  AreOpen t (o ∷ os) [] = ⊥
  AreOpen t (o ∷ os) (q ∷ qs) = IsOpen t o q × AreOpen q.around os qs

  abbrev pub AllOpen : Table → List Out → List (List Opening) → Type 0
  AllOpen t [] [] = Unit {0}
  AllOpen t [] (q ∷ qs) = ⊥
  AllOpen t (o ∷ os) [] = ⊥
  AllOpen t (o ∷ os) (q ∷ qs) = AreOpen t o.scopes q × AllOpen (table_behind t q) os qs

-- ---- where a statement stands

-- these formulas are true in the states
abbrev pub all_told : sense.World → List State → List Tree → Bool
all_told m sts fs = list_all (λ f. truth m (leaves_of sts) (closed f)) fs

-- what a run carries along: which function runs, its measure, and the set in force
module _ (m : sense.World) (p : Facts) (s : Shape) (cells : FileCells) (texts : Texts) (contract : Contract) (here : Here) (olds : List State) where
  -- The clauses of the function that count, as they were read at its entry, which has this level, with the number of blocks there were.
  pub record OfFunction (entry : ℕ) : Type 0 where
    pub blocks : ℤ
    pub granted : here.granted ≡ granted_in p (in_state p here.entry) blocks (parts_of contract)
    pub since : cells.has_blocks ≡ true → (st : State) → blocks ≡ count (state_of (st ∷ olds) entry).table

  -- The set of a loop, by the world that its annotations saw where it was entered.
  pub record OfLoop (entered : Standpoint) (regions : List acsl.Tree) (declared : ℕ) : Type 0 where
    pub world : labelled.World
    pub blocks : ℤ
    pub seen : (st : State) → BodySeen m p s cells texts entered (st ∷ olds) world
    pub granted : here.granted ≡ record { regions = regions_of p world regions; count = blocks; declared = declared } ∷ []
    pub since : cells.has_blocks ≡ true → (st : State) → blocks ≡ count (state_of (st ∷ olds) entered.here).table

  abbrev pub GrantedBy : (entry : ℕ) → Force → Type 0
  GrantedBy e of_function = OfFunction e
  GrantedBy e (of_loop sp rs d) = OfLoop sp rs d

  pub record Carried (self entry : ℕ) (force : Force) : Type 0 where
    pub function : here.function ≡ self
    pub measure : here.measure ≡ measure_of p (in_state p here.entry) contract.decreases
    pub granted : GrantedBy entry force

-- a level that there is
abbrev pub IsLevel : List State → ℕ → Type 0
IsLevel sts l = l < length sts

abbrev pub SinceForce : CellKind → List State → Table → Force → Type 0
SinceForce k sts t of_function = Unit {0}
SinceForce k sts t (of_loop sp rs d) = IsLevel sts sp.here × LacksSince k (state_of sts sp.here).table t

-- The function's entry and that of the innermost loop are remembered, what is asked before a write says whether the sets in force let it, scopes are open as
-- they are known to be, and the run carries along what the word knows.
pub record Placed (m : sense.World) (p : Facts) (s : Shape) (cells : FileCells) (texts : Texts) (contract : Contract) (pt : Point) (here : Here) (olds : List State) (fr : Frame)
    (os : Openings) : Type 0 where
  pub present : pt.stands.here ≡ 0
  pub scope : (x : ℕ) → fr.in_scope x ≡ pt.stands.in_scope x
  pub lives : (x : ℕ) → fr.in_scope x ≡ true → fr.lives x ≡ true
  pub entry_there : (st : State) → IsLevel (st ∷ olds) pt.stands.entry
  pub entry : (st : State) → SeenByContract m p s cells texts pt.stands.is_param (state_of (st ∷ olds) pt.stands.entry) (state_of (st ∷ olds) pt.stands.entry) here.entry
  pub loop_entry : (st : State) → SeenAtLoop m p s cells texts pt.stands (st ∷ olds) pt.stands.loop_entry here.loop_entry
  pub locals : (x : ℕ) (v : Variable) → slice_get s.variables x ≡ Some v → v.is_plain ≡ true → (st : State)
      → all_told m (st ∷ olds) (variable_trees p s cells texts contract pt (variables.Local x)) ≡ may_change_local p here.granted x
  pub globals : (x : ℕ) (v : Variable) → slice_get p.globals x ≡ Some v → v.is_plain ≡ true → (k : CellKind) (st : State)
      → all_told m (st ∷ olds) (variable_trees p s cells texts contract pt (variables.Global x)) ≡ may_change here.granted k (global_home p x) (pos 0)
  pub written : cells.has_blocks ≡ true → (k : CellKind) (b o : Tree) → is_closed [] b ≡ true → is_closed [] o ≡ true → (st : State)
      → HasAddress (value m (leaves_of (st ∷ olds)) b)
      → all_told m (st ∷ olds) (cell_trees p s cells texts contract pt k b o)
      ≡ may_change here.granted k (value m (leaves_of (st ∷ olds)) b) (value m (leaves_of (st ∷ olds)) o)
  -- blocks that are newer than the function's entry, or than the loop whose set is in force, have cells of the kinds of the function's own blocks alone
  pub since_entry : (k : CellKind) → cells.has_kind k ≡ true → own_kind s.variables k ≡ false → (st : State)
      → LacksSince k (state_of (st ∷ olds) pt.stands.entry).table fr.table
  pub since_force : (k : CellKind) → cells.has_kind k ≡ true → own_kind s.variables k ≡ false → (st : State) → SinceForce k (st ∷ olds) fr.table pt.force
  pub opened : AreOpen p s cells olds fr.in_scope fr.homes fr.table pt.scopes os.here
  pub outs : AllOpen p s cells olds fr.in_scope fr.homes (table_behind fr.table os.here) pt.outs os.outs
  pub carried : Carried m p s cells texts contract here olds pt.self pt.stands.entry pt.force

-- ---- ends

-- the check with this number is of the place, where they are numbered from n
abbrev pub IsPlace : List CheckPlace → (n i : ℕ) → CheckPlace → Type 0
IsPlace [] n i a = ⊥
IsPlace (b ∷ bs) n i a = ((n ≡ i) × (b ≡ a)) ⊎ IsPlace bs (suc n) i a

-- a check that fails, and how the run stops
abbrev pub FailsAs : List CheckPlace → (n i : ℕ) → Stop → Type 0
FailsAs ps n i e = (a : CheckPlace) × IsPlace ps n i a × IsStop e a

module _ (p : Facts) (s : Shape) (cells : FileCells) (fr : Frame) (os : Openings) where
  -- where the scopes that are left have ended; variables are still in scope
  abbrev pub StandsBehind : List Opening → Temporaries → CoreWorld → State → Type 0
  StandsBehind left f c st = StandsFor p s cells (frame_behind fr left) f (in_world c (with_memory (ended_all left c.world.memory) c.world)) st

  -- a value that is returned stands in its places
  pub record ReturnsIt (v : Value) (c : CoreWorld) (st : State) : Type 0 where
    pub stands : StandsBehind (all_of os.here os.outs) no_temporaries c st
    pub given : IsResult p c.world.memory.blocks s.result v
    pub slot : (k : CellKind) → s.result ≡ Some k → IsHeldAs k v (number_at (sizes p s) st result) (number_at (sizes p s) st result_offset)

  -- behind the ends of the blocks around these temporaries are used, and those behind the statement's own end
  abbrev pub Ends : (outs : List Temporaries) → (after : Temporaries) → List CheckPlace → ℕ → Ending → End → Type 0
  Ends outs f ps n (run.goes_on c) (goes_on st) = StandsFor p s cells fr f c st
  Ends outs f ps n (run.goes_on c) (leaves l st) = ⊥
  Ends outs f ps n (run.goes_on c) (fails i) = ⊥
  Ends outs f ps n (run.exits k c) (goes_on st) = ⊥
  Ends outs f ps n (run.exits k c) (leaves l st) = (k ≡ l) × (k < length outs) × StandsBehind (left_of k os.here os.outs) (out_at outs k) c st
  Ends outs f ps n (run.exits k c) (fails i) = ⊥
  Ends outs f ps n (run.returns v c) (goes_on st) = ⊥
  Ends outs f ps n (run.returns v c) (leaves l st) = (l ≡ length outs) × ReturnsIt v c st
  Ends outs f ps n (run.returns v c) (fails i) = ⊥
  Ends outs f ps n (run.stopped e) (goes_on st) = ⊥
  Ends outs f ps n (run.stopped e) (leaves l st) = ⊥
  Ends outs f ps n (run.stopped e) (fails i) = FailsAs ps n i e

-- Runs of one kind and those of a word, from slots: for each of the ones there is one of the others that ends so.
pub record BothWays (r : Ending → Type 0) (ends : Ending → End → Type 0) (olds : List State) (n : ℕ) (a : Step) (st : State) : Type 0 where
  pub forth : (o : Ending) → r o → (e : End) × Seg olds n a st e × ends o e
  pub back : (e : End) → Seg olds n a st e → (o : Ending) × r o × ends o e

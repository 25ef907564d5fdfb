-- What is so of words.
use Rattle.std.specs.Prelude.{◌≡◌, ◌≤◌, ℕ, Bool, true, false, List, length}
use Rattle.std.specs.List.{list_all}
use Rattle.wp_base.specs.Blocks.{Table}
use Rattle.typed_prog.specs.Tree as t
use Rattle.qed_terms.specs.Meaning as sense
use Rattle.qed_terms.specs.Tree.{Tree}
use Rattle.wp_base.specs.declared.kinds.Kind.{Kind}
use Rattle.c_runs.specs.TruthStates.{Value}
use Rattle.c_runs.specs.Program.{Contract, Function, Loop, Facts, Program}
use Rattle.c_runs.specs.States.{World, Here}
use Rattle.c_runs.specs.Claims.{Stop}
use Rattle.c_runs.specs.Calls.{stops}
use Rattle.c_runs.specs.Entry.{Enters, are_arguments}
use Rattle.c_runs.specs.CoreRun.{CoreWorld}
use Rattle.c_runs.specs.Checks.{Check}
use Rattle.c_runs.specs.Tree.{Goal, Steps}
use Rattle.goal_segments.specs.Segments.{AllSeg, FunctionSeg}
use Rattle.plain_states.specs.Slots.{State}
use Rattle.plain_states.specs.Scopes.{is_integer}
use Rattle.goal_segments.specs.Told.{IsGood as IsGoodMemory, Shape, shape_of}
use Rattle.qed_terms.specs.Setting.{Setting, world_of, Valid}
use Rattle.walk_steps.specs.State.{In}
use Rattle.walk_steps.specs.World.{AreBases}
use Rattle.walk_steps.specs.Walk.{Goal as GoalOf, formula_of}
use Rattle.walk_steps.specs.Laws.{Starts, OwnDiffer, goals}
use Rattle.walk_steps.specs.Forms.{IsForm, IsNumber, IsFact}
use Rattle.walk_steps.specs.Step as steps
use Rattle.walk_steps.specs.Step.{IsGood, places}
use Rattle.program_steps.specs.Leaves.{form, number, fact}
use Rattle.program_steps.specs.Temporaries.{Temporaries, all_live}
use Rattle.program_steps.specs.Terms.{Texts}
use Rattle.program_steps.specs.Words as word
use Rattle.program_steps.specs.Words.{Point, Others}
use Rattle.program_steps.specs.Standing.{StandsFor, Ends, FailsAs}
use Rattle.program_steps.specs.Typed.{OtherFits, AllFit}
use Rattle.program_steps.specs.Placed.{InSetting, Placed, BothWays}
use Rattle.program_steps.specs.Others.{OthersRun}
use Rattle.program_steps.specs.Starting.{origins_of, start_of, StartFits}
use Rattle.program_steps.specs.Functions.{function_word, FunctionFits, EntersAs, FunctionEnds, FunctionRuns}

-- ---- forms

-- Whatever a term or a formula over leaves is, what is written says what is told.
pub record AreGood (m : sense.World) (t : Tree) : Type 0 where
  pub form : IsForm m (form m t)
  pub number : IsNumber m (number m t)
  pub fact : IsFact m (fact m t)

abbrev pub FormsAreGood : Type 0
FormsAreGood = (m : sense.World) (t : Tree) → AreGood m t

-- ---- words

-- what is asked of the words of loops and calls
pub record OthersAreGood (m : sense.World) (o : Others) : Type 0 where
  pub loop : (pt : Point) (l : Loop) (ss : Steps) (pass : steps.Step) → IsGood m pass → IsGood m (o.loop_word pt l ss pass)
  pub call : (pt : Point) (cs : List Check) (to : Goal) (n l : ℕ) (es : t.Values) → IsGood m (o.call_word pt cs to n l es)

-- All that stands in the word of a statement is good, so that its goals are exact.
abbrev pub WordsAreGood : Type 0
WordsAreGood =
    (m : sense.World) (p : Facts) (s : Shape) (texts : Texts) (contract : Contract) (others : Others) → OthersAreGood m others → (pt : Point) (ss : Steps) (after : Temporaries)
    → IsGood m (word.steps m p s texts contract others pt ss after)

abbrev pub FunctionsAreGood : Type 0
FunctionsAreGood =
    (m : sense.World) (p : Facts) (s : Shape) (texts : Texts) (others : Others) → OthersAreGood m others → (number : ℕ) (f : Function Steps)
    → IsGood m (function_word m p s texts others number f)

-- ---- runs

-- From slots that stand for a world, the segment runs of statements are the runs of their word, if those of loops and of calls are: for each of the ones there
-- is one of the others that ends so, and a failing check is one of the same kind at the same line.
abbrev pub StatementsRun : OtherFits → Type 0
StatementsRun fits =
    (m : sense.World) (q : Program Steps) (s : Shape) (texts : Texts) (contract : Contract) (others : Others)
    → OthersRun m q s texts contract others fits → InSetting m q.facts s → (table : Table) (here : Here) (pt : Point)
    (olds : List State) → Placed m q.facts s texts contract pt here olds → (in_scope : ℕ → Bool) (after : Temporaries) (ss : Steps)
    → AllFit m q.facts s texts fits in_scope pt.outs after ss → (n : ℕ) (c : CoreWorld) (st : State) → StandsFor q.facts s table in_scope (all_live ss pt.outs after) c st
    → BothWays (AllSeg q s.variables here ss c) (Ends q.facts s table in_scope pt.outs after (places (word.steps m q.facts s texts contract others pt ss after)) n) olds n
    (word.steps m q.facts s texts contract others pt ss after) st

-- The same of a whole function, entered with these arguments: of what its behaviors say of each other, its body and its promises.
abbrev pub FunctionsRun : OtherFits → Type 0
FunctionsRun fits =
    (m : sense.World) (q : Program Steps) (number : ℕ) (f : Function Steps) (temporaries : ℕ) (temp_kind : ℕ → Kind) (texts : Texts) (others : Others)
    → OthersRun m q (shape_of f temporaries temp_kind) texts f.contract others fits → InSetting m q.facts (shape_of f temporaries temp_kind)
    → FunctionFits m q.facts (shape_of f temporaries temp_kind) texts fits f → (vs : List Value) (w : World) (st : State)
    → EntersAs q.facts (shape_of f temporaries temp_kind) f vs w st
    → FunctionRuns (FunctionSeg q number f vs w)
    (FunctionEnds q.facts (shape_of f temporaries temp_kind) (places (function_word m q.facts (shape_of f temporaries temp_kind) texts others number f)))
    (function_word m q.facts (shape_of f temporaries temp_kind) texts others number f) st

-- Each world in which a function is entered with arguments of its kinds has slots that stand for it.
abbrev pub WorldsHaveSlots : Type 0
WorldsHaveSlots =
    (p : Facts) (f : Function Steps) (temporaries : ℕ) (temp_kind : ℕ → Kind) → list_all is_integer p.globals ≡ true → list_all is_integer f.variables ≡ true
    → f.params ≤ length f.variables → (w : World) → IsGoodMemory p w.memory → (vs : List Value) → are_arguments p w.memory.blocks f.params f.variables vs ≡ true
    → (st : State) × EntersAs p (shape_of f temporaries temp_kind) f vs w st

-- ---- starts and goals

-- Each world in which a function is entered as it asks for has slots that stand for it, in which its word may start.
abbrev pub EntriesStart : Type 0
EntriesStart =
    (m : sense.World) (q : Program Steps) (f : Function Steps) (temporaries : ℕ) (temp_kind : ℕ → Kind) (texts : Texts) → InSetting m q.facts (shape_of f temporaries temp_kind)
    → f.params ≤ length f.variables → StartFits m q.facts (shape_of f temporaries temp_kind) texts f.contract → (vs : List Value) (w : World) → Enters q f vs w.memory
    → (st : State) × (Starts (start_of m q.facts (shape_of f temporaries temp_kind) texts f) st × EntersAs q.facts (shape_of f temporaries temp_kind) f vs w st)

-- And slots in which it may start are those of such a world.
abbrev pub StartsEnter : Type 0
StartsEnter =
    (m : sense.World) (q : Program Steps) (f : Function Steps) (temporaries : ℕ) (temp_kind : ℕ → Kind) (texts : Texts) → InSetting m q.facts (shape_of f temporaries temp_kind)
    → f.params ≤ length f.variables → StartFits m q.facts (shape_of f temporaries temp_kind) texts f.contract → (st : State)
    → Starts (start_of m q.facts (shape_of f temporaries temp_kind) texts f) st
    → (vs : List Value) × ((w : World) × (Enters q f vs w.memory × EntersAs q.facts (shape_of f temporaries temp_kind) f vs w st))

-- Where all goals of its word are valid, no segment run of the function goes wrong from there. Own names at the start are to differ, as in walk_steps.
abbrev pub GoalsSuffice : OtherFits → Type 0
GoalsSuffice fits =
    (setting : Setting) (q : Program Steps) (number : ℕ) (f : Function Steps) (temporaries : ℕ) (temp_kind : ℕ → Kind) (texts : Texts) (others : Others)
    (bases : List (List ℕ)) → OthersRun (world_of setting) q (shape_of f temporaries temp_kind) texts f.contract others fits
    → InSetting (world_of setting) q.facts (shape_of f temporaries temp_kind) → FunctionFits (world_of setting) q.facts (shape_of f temporaries temp_kind) texts fits f
    → StartFits (world_of setting) q.facts (shape_of f temporaries temp_kind) texts f.contract → OthersAreGood (world_of setting) others → f.params ≤ length f.variables
    → length (origins_of (world_of setting) q.facts (shape_of f temporaries temp_kind) texts f.params) ≡ length bases → AreBases bases
    → OwnDiffer bases (origins_of (world_of setting) q.facts (shape_of f temporaries temp_kind) texts f.params)
    → ((g : GoalOf) → In g (goals bases (start_of (world_of setting) q.facts (shape_of f temporaries temp_kind) texts f)
    (function_word (world_of setting) q.facts (shape_of f temporaries temp_kind) texts others number f)) → Valid setting (formula_of g))
    → (vs : List Value) (w : World) → Enters q f vs w.memory → (e : Stop) → FunctionSeg q number f vs w (stops e) → ⊥

-- Values that falsify a goal are a world in which the function is entered, and a segment run of it goes wrong from there at the goal's check.
abbrev pub FalsifiedFail : OtherFits → Type 0
FalsifiedFail fits =
    (setting : Setting) (q : Program Steps) (number : ℕ) (f : Function Steps) (temporaries : ℕ) (temp_kind : ℕ → Kind) (texts : Texts) (others : Others)
    (bases : List (List ℕ)) → OthersRun (world_of setting) q (shape_of f temporaries temp_kind) texts f.contract others fits
    → InSetting (world_of setting) q.facts (shape_of f temporaries temp_kind) → FunctionFits (world_of setting) q.facts (shape_of f temporaries temp_kind) texts fits f
    → StartFits (world_of setting) q.facts (shape_of f temporaries temp_kind) texts f.contract → OthersAreGood (world_of setting) others → f.params ≤ length f.variables
    → length (origins_of (world_of setting) q.facts (shape_of f temporaries temp_kind) texts f.params) ≡ length bases → AreBases bases
    → OwnDiffer bases (origins_of (world_of setting) q.facts (shape_of f temporaries temp_kind) texts f.params)
    → (g : GoalOf) → In g (goals bases (start_of (world_of setting) q.facts (shape_of f temporaries temp_kind) texts f)
    (function_word (world_of setting) q.facts (shape_of f temporaries temp_kind) texts others number f))
    → (env : sense.Values) → sense.truth (world_of setting) env (formula_of g) ≡ false
    → (vs : List Value) × ((w : World) × (Enters q f vs w.memory × ((e : Stop) × (FunctionSeg q number f vs w (stops e)
    × FailsAs (places (function_word (world_of setting) q.facts (shape_of f temporaries temp_kind) texts others number f)) 0 g.number e))))

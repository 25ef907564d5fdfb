-- What is so of what is put into slots, of values, and of statements that need no more.
use Rattle.std.specs.Prelude.{◌≡◌, ◌<◌, ℕ, ◌+◌, Bool, true, false, pos, List, [], ◌∷◌, length, Some, None, slice_get}
use Rattle.std.specs.List.{list_all}
use Rattle.wp_base.specs.declared.kinds.CellKind.{CellKind}
use Rattle.wp_base.specs.Blocks.{count}
use Rattle.typed_prog.specs.declared.types.CoreType.{CoreType}
use Rattle.typed_prog.specs.declared.operators.Path.{Path}
use Rattle.typed_prog.specs.declared.operators.Root.TheVariants as root
use Rattle.typed_prog.specs.declared.operators.Variable.TheVariants as variables
use Rattle.typed_prog.specs.Tree as t
use Rattle.qed_terms.specs.Meaning as sense
use Rattle.qed_terms.specs.Meaning.{truth}
use Rattle.qed_terms.specs.Tree.{Tree}
use Rattle.c_runs.specs.Told.{Value}
use Rattle.c_runs.specs.Program.{Variable, Contract, Claim, Facts, Program}
use Rattle.c_runs.specs.States.{Local, plain, World, Here, with_local, with_memory, stored_in, global_home}
use Rattle.c_runs.specs.Truth.{value_at}
use Rattle.c_runs.specs.Objects.{cell_of}
use Rattle.c_runs.specs.Claims.{Stop}
use Rattle.c_runs.specs.Scopes.{is_content}
use Rattle.c_runs.specs.CoreRun.{CoreWorld, Ending, stopped, in_world, with_temp}
use Rattle.c_runs.specs.Checks.{Check, checks_of}
use Rattle.c_runs.specs.Tree as core
use Rattle.c_runs.specs.Tree.{Steps}
use Rattle.c_runs.specs.CheckedRun as exec
use Rattle.goal_segments.specs.RunSegments.{Asks}
use Rattle.goal_segments.specs.Segments as segs
use Rattle.goal_segments.specs.Segments.{no_deeper, is_single}
use Rattle.value_terms.specs.Readings.{Term, term_at}
use Rattle.value_terms.specs.Typed.{ObjectIsTyped}
use Rattle.value_terms.specs.Places.{TestsWay}
use Rattle.value_terms.specs.Terms.{address_term}
use Rattle.value_terms.specs.Words.{Item, checks_in}
use Rattle.value_terms.specs.Laws.{Says}
use Rattle.value_terms.specs.Worlds.{Means}
use Rattle.walk_steps.specs.Forms.{Place as CheckPlace}
use Rattle.memory_steps.specs.State.{State, number}
use Rattle.memory_steps.specs.Run.{End, goes_on, Seg}
use Rattle.memory_steps.specs.Step.{Step, seq, places, count as checks_count}
use Rattle.memory_words.specs.Places.{Place, value, offset, flag, result, result_offset, answer, temporary, temporary_offset, Sizes, IsIn, slots_in, held, with_held, number_at}
use Rattle.memory_words.specs.Leaves.{leaves_of}
use Rattle.memory_words.specs.Shapes.{FileCells, Shape, sizes, kind_of}
use Rattle.memory_words.specs.Readings.{Texts, reading, body_reading}
use Rattle.memory_words.specs.Standing.{IsHeldAs, LocalIs, Frame, AllLive, StandsFor}
use Rattle.memory_words.specs.Seen.{InSetting, scope_at, is_closed_item, is_closed_term, ValueFits, ClaimFits}
use Rattle.program_steps.specs.Stops.{IsStop}
use Rattle.program_steps.specs.Temporaries.{Temporaries, live, all_live}
use Rattle.memory_words.specs.Points.{Point, uses_of}
use Rattle.memory_words.specs.Words as word
use Rattle.memory_words.specs.Words.{Others, items_step, ask_all, set_value, assign, set_variable, set_temporary, plain_opened}
use Rattle.memory_words.specs.Typed.{ValuesFit, StoreFits}
use Rattle.memory_words.specs.Placed.{Openings, Placed, Ends, BothWays, all_told}
use Rattle.memory_words.specs.Puts.{Keeps, MakesLocal, NoPlace, IsOfTemporary, IsOfVariable, ScopeHas, first_value, second_value, with_two, Gives, OneEnd, Reaches}
use Rattle.memory_words.specs.Values.{Evaluates, AllEvaluate, LeadsThere}

-- ---- slots go on standing for a world

-- where they hold the same at each place that counts; fewer temporaries may be used
abbrev pub SlotsGoOn : Type 0
SlotsGoOn =
    (p : Facts) (s : Shape) (cells : FileCells) (fr : Frame) (f : Temporaries) (c : CoreWorld) (st : State) → StandsFor p s cells fr f c st
    → (g : Temporaries) → ((j : ℕ) → g j ≡ true → f j ≡ true) → (new : State) → Keeps (sizes p s) g NoPlace st new → StandsFor p s cells fr g c new

-- where a temporary has a value in both
abbrev pub TemporariesArePut : Type 0
TemporariesArePut =
    (p : Facts) (s : Shape) (cells : FileCells) (fr : Frame) (f : Temporaries) (c : CoreWorld) (st : State) → StandsFor p s cells fr f c st
    → (g : Temporaries) (n : ℕ) → ((j : ℕ) → (n ≡ j → ⊥) → g j ≡ true → f j ≡ true) → (v : Value) → is_content p (count c.world.memory.blocks) (s.temp_kind n) v ≡ true
    → (new : State) → Keeps (sizes p s) g (IsOfTemporary n) st new
    → IsHeldAs (s.temp_kind n) v (number_at (sizes p s) new (temporary n)) (number_at (sizes p s) new (temporary_offset n))
    → StandsFor p s cells fr g (with_temp n v c) new

-- where a plain variable of the function holds something in both, and is in scope now; the contents that are left don't count
abbrev pub LocalsArePut : Type 0
LocalsArePut =
    (p : Facts) (s : Shape) (cells : FileCells) (fr : Frame) (f : Temporaries) (c : CoreWorld) (st : State) → StandsFor p s cells fr f c st
    → (x : ℕ) (y : Variable) → slice_get s.variables x ≡ Some y → y.is_plain ≡ true → (behind : Frame) → ScopeHas x fr behind
    → (l : Local) (contents : List Value) (new : State) → Keeps (sizes p s) f (IsOfVariable (variables.Local x)) st new
    → LocalIs p c.world.memory.blocks y l (number_at (sizes p s) new (value (variables.Local x))) (number_at (sizes p s) new (offset (variables.Local x)))
    (number_at (sizes p s) new (flag (variables.Local x)))
    → StandsFor p s cells behind f (in_world c (with_local x l (record c.world { contents = contents }))) new

-- where a plain variable of the file has a value in both
abbrev pub GlobalsArePut : Type 0
GlobalsArePut =
    (p : Facts) (s : Shape) (cells : FileCells) (fr : Frame) (f : Temporaries) (c : CoreWorld) (st : State) → StandsFor p s cells fr f c st
    → (x : ℕ) (y : Variable) → slice_get p.globals x ≡ Some y → y.is_plain ≡ true → (v : Value) → is_content p (count c.world.memory.blocks) (kind_of y) v ≡ true
    → (new : State) → Keeps (sizes p s) f (IsOfVariable (variables.Global x)) st new
    → IsHeldAs (kind_of y) v (number_at (sizes p s) new (value (variables.Global x))) (number_at (sizes p s) new (offset (variables.Global x)))
    → StandsFor p s cells fr f (in_world c (with_memory (stored_in (global_home p x) (pos 0) v c.world.memory) c.world)) new

-- ---- words that set places

-- places that aren't read
abbrev pub ValuesAreSet : Type 0
ValuesAreSet =
    (m : sense.World) (z : Sizes) (olds : List State) (st : State) (k : CellKind) (a b : Place) (u : Term)
    → let x = first_value m (st ∷ olds) k u in
    OneEnd olds (set_value m z k a b u) st (with_two z k a b x (second_value m (with_held z a (number x) st ∷ olds) k u) st)

-- and places that may be
abbrev pub ValuesAreAssigned : Type 0
ValuesAreAssigned =
    (m : sense.World) (z : Sizes) (olds : List State) (st : State) → length st.slots ≡ slots_in z → (k : CellKind) (a b : Place) → IsIn z a → IsIn z b
    → (a ≡ answer → ⊥) → (b ≡ answer → ⊥) → (a ≡ b → ⊥) → (u : Term)
    → let x = first_value m (st ∷ olds) k u in
    OneEnd olds (assign m z k a b u) st (with_two z k a b x (second_value m (with_held z answer (number x) st ∷ olds) k u) st)

-- The slots stand for the world in which the temporary, or the variable, has the value of the term.
abbrev pub TemporariesAreSet : Type 0
TemporariesAreSet =
    (m : sense.World) (p : Facts) (s : Shape) (cells : FileCells) (fr : Frame) (f : Temporaries) (c : CoreWorld) (st : State) → StandsFor p s cells fr f c st
    → (olds : List State) (g : Temporaries) (n : ℕ) → n < s.temporaries → ((j : ℕ) → (n ≡ j → ⊥) → g j ≡ true → f j ≡ true) → (u : Term) (v : Value)
    → Gives m (sizes p s) olds answer (s.temp_kind n) u v st → is_content p (count c.world.memory.blocks) (s.temp_kind n) v ≡ true
    → Reaches olds (set_temporary m (sizes p s) (s.temp_kind n) n u) st (StandsFor p s cells fr g (with_temp n v c))

abbrev pub LocalsAreSet : Type 0
LocalsAreSet =
    (m : sense.World) (p : Facts) (s : Shape) (cells : FileCells) (fr : Frame) (f : Temporaries) (c : CoreWorld) (st : State) → StandsFor p s cells fr f c st
    → (olds : List State) (x : ℕ) (y : Variable) → slice_get s.variables x ≡ Some y → y.is_plain ≡ true → (behind : Frame) → ScopeHas x fr behind → (u : Term) (v : Value)
    → Gives m (sizes p s) olds answer (kind_of y) u v st → is_content p (count c.world.memory.blocks) (kind_of y) v ≡ true
    → Reaches olds (set_variable m (sizes p s) (kind_of y) (variables.Local x) u) st (StandsFor p s cells behind f (in_world c (with_local x (plain v true) c.world)))

abbrev pub GlobalsAreSet : Type 0
GlobalsAreSet =
    (m : sense.World) (p : Facts) (s : Shape) (cells : FileCells) (fr : Frame) (f : Temporaries) (c : CoreWorld) (st : State) → StandsFor p s cells fr f c st
    → (olds : List State) (x : ℕ) (y : Variable) → slice_get p.globals x ≡ Some y → y.is_plain ≡ true → (u : Term) (v : Value)
    → Gives m (sizes p s) olds answer (kind_of y) u v st → is_content p (count c.world.memory.blocks) (kind_of y) v ≡ true
    → Reaches olds (set_variable m (sizes p s) (kind_of y) (variables.Global x) u) st
    (StandsFor p s cells fr f (in_world c (with_memory (stored_in (global_home p x) (pos 0) v c.world.memory) c.world)))

-- What is returned stands in its places.
pub record HoldsResult (z : Sizes) (k : CellKind) (v : Value) (st : State) : Type 0 where
  pub is : IsHeldAs k v (number_at z st result) (number_at z st result_offset)

abbrev pub ResultsAreSet : Type 0
ResultsAreSet =
    (m : sense.World) (p : Facts) (s : Shape) (cells : FileCells) (fr : Frame) (f : Temporaries) (c : CoreWorld) (st : State) → StandsFor p s cells fr f c st
    → (olds : List State) (k : CellKind) (u : Term) (v : Value) → Gives m (sizes p s) olds result k u v st
    → Reaches olds (set_value m (sizes p s) k result result_offset u) st (λ new. StandsFor p s cells fr f c new × HoldsResult (sizes p s) k v new)

-- A plain variable of the function gets into scope in the slots as in the world, both ways.
pub record PlainOpens (m : sense.World) (p : Facts) (s : Shape) (cells : FileCells) (f : Temporaries) (c : CoreWorld) (st : State) (olds : List State) (x : ℕ)
    (y : Variable) (behind : Frame) : Type 0 where
  pub forth : (u : World) → MakesLocal y.has_value (kind_of y) x c.world u
      → (new : State) × ((n : ℕ) → Seg olds n (plain_opened m p s cells x y) st (goes_on new)) × StandsFor p s cells behind f (in_world c u) new
  pub back : (n : ℕ) (e : End) → Seg olds n (plain_opened m p s cells x y) st e
      → (new : State) × (goes_on new ≡ e) × (u : World) × MakesLocal y.has_value (kind_of y) x c.world u × StandsFor p s cells behind f (in_world c u) new

abbrev pub PlainsAreOpened : Type 0
PlainsAreOpened =
    (m : sense.World) (p : Facts) (s : Shape) (cells : FileCells) (fr : Frame) (f : Temporaries) (c : CoreWorld) (st : State) → StandsFor p s cells fr f c st
    → (olds : List State) (x : ℕ) (y : Variable) → slice_get s.variables x ≡ Some y → y.is_plain ≡ true → fr.in_scope x ≡ false → (behind : Frame) → ScopeHas x fr behind
    → PlainOpens m p s cells f c st olds x y behind

-- Temporaries that aren't used any more are put to 0, and what is returned stays.
abbrev pub TemporariesAreDropped : Type 0
TemporariesAreDropped =
    (m : sense.World) (p : Facts) (s : Shape) (cells : FileCells) (fr : Frame) (g : Temporaries) (c : CoreWorld) (st : State) → StandsFor p s cells fr g c st
    → (olds : List State) (f : Temporaries) → ((j : ℕ) → f j ≡ true → g j ≡ true → ⊥)
    → Reaches olds (word.drop m (sizes p s) s.temporaries f) st
    (λ new. StandsFor p s cells fr g c new × (held (sizes p s) new result ≡ held (sizes p s) st result) × (held (sizes p s) new result_offset ≡ held (sizes p s) st result_offset))

-- ---- values

abbrev pub ExpressionsEvaluate : Type 0
ExpressionsEvaluate =
    (m : sense.World) (p : Facts) (s : Shape) (cells : FileCells) → InSetting m p s cells → (fr : Frame) → AllLive fr → (f : Temporaries)
    → (c : CoreWorld) (st : State) → StandsFor p s cells fr f c st → (olds : List State) (e : t.Value) (k : CellKind) → ValueFits p s cells fr.in_scope f e k
    → Evaluates m p s cells c st olds e k

abbrev pub OperandsEvaluate : Type 0
OperandsEvaluate =
    (m : sense.World) (p : Facts) (s : Shape) (cells : FileCells) → InSetting m p s cells → (fr : Frame) → AllLive fr → (f : Temporaries)
    → (c : CoreWorld) (st : State) → StandsFor p s cells fr f c st → (olds : List State) (es : t.Values) → ValuesFit p s cells fr.in_scope f es
    → AllEvaluate m p s cells c st olds es

-- of operands whose terms mean their values
abbrev pub WaysLead : Type 0
WaysLead =
    (m : sense.World) (p : Facts) (s : Shape) (cells : FileCells) → InSetting m p s cells → (fr : Frame) → AllLive fr → (f : Temporaries)
    → (c : CoreWorld) (st : State) → StandsFor p s cells fr f c st → (olds : List State) (ts : List Term) (vs : List Value)
    → ((i : ℕ) → Means m (leaves_of (st ∷ olds)) (term_at ts i) (value_at vs i))
    → (type : CoreType) (path : Path) → cells.has_blocks ≡ true → ObjectIsTyped p s.variables (scope_at s cells fr.in_scope f) path.root path.steps (cell_of type)
    → is_closed_term (address_term p (reading p s cells) path ts) ≡ true → (met : Check → Bool) → TestsWay met p c.world type path vs
    → LeadsThere m p s cells c st olds type path ts vs met

-- ---- what is asked

-- The word of items and what comes behind runs as the checks do, and then as what comes behind, where formulas say what checks say.
abbrev pub ItemsRun : Type 0
ItemsRun =
    (m : sense.World) (p : Facts) (s : Shape) (cells : FileCells) (fr : Frame) (os : Openings) (outs : List Temporaries) (after : Temporaries) (z : Sizes)
    (olds : List State) (st : State) (met : Check → Bool) (is : List Item)
    → list_all is_closed_item is ≡ true → Says (truth m (leaves_of (st ∷ olds))) met is → (cs : List Check) → checks_in is ≡ cs → (n : ℕ) (b : Step) (behind : Ending)
    → (Asks met cs None → BothWays (λ o. behind ≡ o) (Ends p s cells fr os outs after (places b) (n + checks_count (items_step m z is))) olds
    (n + checks_count (items_step m z is)) b st)
    → BothWays (λ o. exec.asked cs met behind ≡ o) (Ends p s cells fr os outs after (places (seq (items_step m z is) b)) n) olds n (seq (items_step m z is) b) st

-- A run that goes on exactly where formulas are true, which are asked at one place.
abbrev pub AskedRun : Type 0
AskedRun =
    (m : sense.World) (p : Facts) (s : Shape) (cells : FileCells) (fr : Frame) (os : Openings) (outs : List Temporaries) (after : Temporaries) (z : Sizes)
    (olds : List State) (st : State) (fs : List Tree) (at : CheckPlace) (e : Stop) → IsStop e at → (so : Bool) → all_told m (st ∷ olds) fs ≡ so
    → (n : ℕ) (b : Step) (later whole : Ending) → (so ≡ true → whole ≡ later) → (so ≡ false → whole ≡ stopped e)
    → (so ≡ true → BothWays (λ o. later ≡ o) (Ends p s cells fr os outs after (places b) (n + checks_count (ask_all m z fs at))) olds (n + checks_count (ask_all m z fs at)) b st)
    → BothWays (λ o. whole ≡ o) (Ends p s cells fr os outs after (places (seq (ask_all m z fs at) b)) n) olds n (seq (ask_all m z fs at) b) st

-- What comes behind a word of one end, which asks for nothing.
abbrev pub BehindOneEnd : Type 0
BehindOneEnd =
    (p : Facts) (s : Shape) (cells : FileCells) (fr : Frame) (os : Openings) (outs : List Temporaries) (after : Temporaries) (olds : List State) (a b : Step)
    (st mid : State) → OneEnd olds a st mid → (n : ℕ) (behind : Ending)
    → BothWays (λ o. behind ≡ o) (Ends p s cells fr os outs after (places b) (n + checks_count a)) olds (n + checks_count a) b mid
    → BothWays (λ o. behind ≡ o) (Ends p s cells fr os outs after (places (seq a b)) n) olds n (seq a b) st

-- ---- single statements

-- A single statement's segment runs are what it does.
pub record SingleIs (q : Program Steps) (xs : List Variable) (here : Here) (a : core.Step) (c : CoreWorld) (o : Ending) : Type 0 where
  pub is : segs.Seg q xs here a c o → exec.exec q no_deeper xs here a c ≡ o
  pub runs : exec.exec q no_deeper xs here a c ≡ o → segs.Seg q xs here a c o

abbrev pub SinglesAreRuns : Type 0
SinglesAreRuns = (q : Program Steps) (xs : List Variable) (here : Here) (a : core.Step) (c : CoreWorld) (o : Ending) → is_single a ≡ true → SingleIs q xs here a c o

module _ (m : sense.World) (q : Program Steps) (s : Shape) (cells : FileCells) (texts : Texts) (contract : Contract) (others : Others) where
  abbrev pub word_at : Point → core.Step → Temporaries → Step
  word_at pt a after = word.step m q.facts s cells texts contract others pt a after

  -- segment runs of the statement are runs of its word, both ways, from slots that stand for a world
  abbrev pub SingleRuns : (here : Here) (pt : Point) (olds : List State) (fr : Frame) (os : Openings) → Temporaries → ℕ → CoreWorld → State → core.Step → Type 0
  SingleRuns here pt olds fr os after n c st a =
      StandsFor q.facts s cells fr (live a (uses_of pt.outs) after) c st
      → BothWays (segs.Seg q s.variables here a c) (Ends q.facts s cells fr os (uses_of pt.outs) after (places (word_at pt a after)) n) olds n (word_at pt a after) st

  pub record PlainStatementsRun (here : Here) (pt : Point) (olds : List State) (fr : Frame) (os : Openings) (after : Temporaries) (n : ℕ) (c : CoreWorld) (st : State)
      : Type 0 where
    pub set : (cs : List Check) (k : ℕ) (e : t.Value) → k < s.temporaries
        → ValueFits q.facts s cells pt.stands.in_scope (live (core.set cs k e) (uses_of pt.outs) after) e (s.temp_kind k) → cs ≡ checks_of s.variables e
        → SingleRuns here pt olds fr os after n c st (core.set cs k e)
    pub start : (cs : List Check) (x : ℕ) (e : t.Value) (k : CellKind) (y : Variable) → slice_get s.variables x ≡ Some y → y.is_plain ≡ true
        → pt.stands.in_scope x ≡ true → kind_of y ≡ k
        → ValueFits q.facts s cells pt.stands.in_scope (live (core.start cs x e) (uses_of pt.outs) after) e k → cs ≡ checks_of s.variables e
        → SingleRuns here pt olds fr os after n c st (core.start cs x e)
    pub store_to_local : (cs : List Check) (type : CoreType) (l : ℕ) (path : Path) (es : t.Values)
        → StoreFits q.facts s cells pt.stands.in_scope (live (core.store cs type l path es) (uses_of pt.outs) after) cs type path es
        → (x : ℕ) (y : Variable) → path.root ≡ root.Variable (variables.Local x) → slice_get s.variables x ≡ Some y → y.is_plain ≡ true → kind_of y ≡ cell_of type
        → pt.stands.in_scope x ≡ true → SingleRuns here pt olds fr os after n c st (core.store cs type l path es)
    pub store_to_global : (cs : List Check) (type : CoreType) (l : ℕ) (path : Path) (es : t.Values)
        → StoreFits q.facts s cells pt.stands.in_scope (live (core.store cs type l path es) (uses_of pt.outs) after) cs type path es
        → (x : ℕ) (y : Variable) → path.root ≡ root.Variable (variables.Global x) → path.steps ≡ [] → slice_get q.facts.globals x ≡ Some y → y.is_plain ≡ true
        → kind_of y ≡ cell_of type → SingleRuns here pt olds fr os after n c st (core.store cs type l path es)
    pub claim : (a : Claim) → ClaimFits m q.facts (body_reading q.facts s cells texts pt.stands) a.what → SingleRuns here pt olds fr os after n c st (core.claim a)

  abbrev pub AllStepsRun : (here : Here) (pt : Point) (olds : List State) (fr : Frame) (os : Openings) → Temporaries → ℕ → CoreWorld → State → Steps → Type 0
  AllStepsRun here pt olds fr os after n c st ss =
      StandsFor q.facts s cells fr (all_live ss (uses_of pt.outs) after) c st
      → BothWays (segs.AllSeg q s.variables here ss c) (Ends q.facts s cells fr os (uses_of pt.outs) after (places (word.steps m q.facts s cells texts contract others pt ss after)) n)
      olds n (word.steps m q.facts s cells texts contract others pt ss after) st

  -- a branch whose arms do so
  pub record BranchRuns (here : Here) (pt : Point) (olds : List State) (fr : Frame) (os : Openings) (after : Temporaries) (n : ℕ) (c : CoreWorld) (st : State)
      (cs : List Check) (e : t.Value) (k : CellKind) (a b : Steps) : Type 0 where
    pub runs : ValueFits q.facts s cells pt.stands.in_scope (live (core.branch cs e a b) (uses_of pt.outs) after) e k → cs ≡ checks_of s.variables e
        → ((n : ℕ) (st : State) → AllStepsRun here pt olds fr os after n c st a) → ((n : ℕ) (st : State) → AllStepsRun here pt olds fr os after n c st b)
        → SingleRuns here pt olds fr os after n c st (core.branch cs e a b)

abbrev pub SinglesRun : Type 0
SinglesRun =
    (m : sense.World) (q : Program Steps) (s : Shape) (cells : FileCells) (texts : Texts) (contract : Contract) (others : Others) → InSetting m q.facts s cells
    → (here : Here) (pt : Point) (olds : List State) (fr : Frame) (os : Openings) → Placed m q.facts s cells texts contract pt here olds fr os
    → (after : Temporaries) (n : ℕ) (c : CoreWorld) (st : State) → PlainStatementsRun m q s cells texts contract others here pt olds fr os after n c st

abbrev pub BranchesRun : Type 0
BranchesRun =
    (m : sense.World) (q : Program Steps) (s : Shape) (cells : FileCells) (texts : Texts) (contract : Contract) (others : Others) → InSetting m q.facts s cells
    → (here : Here) (pt : Point) (olds : List State) (fr : Frame) (os : Openings) → Placed m q.facts s cells texts contract pt here olds fr os
    → (after : Temporaries) (n : ℕ) (c : CoreWorld) (st : State) (cs : List Check) (e : t.Value) (k : CellKind) (a b : Steps)
    → BranchRuns m q s cells texts contract others here pt olds fr os after n c st cs e k a b

-- behind temporaries that are dropped between statements
abbrev pub BehindDropped : Type 0
BehindDropped =
    (m : sense.World) (q : Program Steps) (s : Shape) (cells : FileCells) (texts : Texts) (contract : Contract) (others : Others) (here : Here) (pt : Point)
    (olds : List State) (fr : Frame) (os : Openings) (f g after : Temporaries) (n : ℕ) (c : CoreWorld) (st : State) (ss : Steps)
    → let gone = word.dropped m q.facts s cells texts contract others f g in
    let rest = word.steps m q.facts s cells texts contract others pt ss after in
    StandsFor q.facts s cells fr g c st
    → ((st : State) → StandsFor q.facts s cells fr g c st
    → BothWays (segs.AllSeg q s.variables here ss c) (Ends q.facts s cells fr os (uses_of pt.outs) after (places rest) (n + checks_count gone)) olds (n + checks_count gone) rest st)
    → BothWays (segs.AllSeg q s.variables here ss c) (Ends q.facts s cells fr os (uses_of pt.outs) after (places (seq gone rest)) n) olds n (seq gone rest) st

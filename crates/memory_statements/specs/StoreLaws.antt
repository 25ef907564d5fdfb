-- What is so of stores to cells: of the store alone, of a write with the leave that it needs, of the way to the cell, and of whole statements.
use Rattle.std.specs.Prelude.{◌≡◌, ℕ, Bool, true, false, ℤ, List, [], None, slice_get}
use Rattle.std.specs.List.{list_all}
use Rattle.wp_base.specs.declared.kinds.CellKind.{CellKind}
use Rattle.wp_base.specs.Blocks.{count, is_cell}
use Rattle.typed_prog.specs.declared.types.CoreType.{CoreType}
use Rattle.typed_prog.specs.declared.operators.Path.{Path}
use Rattle.typed_prog.specs.Tree as t
use Rattle.qed_terms.specs.Meaning as sense
use Rattle.c_runs.specs.TruthStates.{pointer}
use Rattle.c_runs.specs.Told.{Value}
use Rattle.c_runs.specs.Program.{Contract, Facts, Program}
use Rattle.c_runs.specs.States.{Here, with_memory, stored_in}
use Rattle.c_runs.specs.Objects.{plain_root, cell_of}
use Rattle.c_runs.specs.Claims as broken
use Rattle.c_runs.specs.Effects.{wrote_act, cell_written, initial_act}
use Rattle.c_runs.specs.Scopes.{is_content}
use Rattle.c_runs.specs.CoreRun.{CoreWorld, Ending, goes_on, with_eval, in_world}
use Rattle.c_runs.specs.Checks.{Check, checks_of}
use Rattle.c_runs.specs.Tests.{totals}
use Rattle.c_runs.specs.Tree as core
use Rattle.c_runs.specs.Tree.{Steps}
use Rattle.c_runs.specs.CheckedRun as exec
use Rattle.c_runs.specs.CheckedRun.{asked, place_test}
use Rattle.goal_segments.specs.Segments as segs
use Rattle.value_terms.specs.Readings.{Term, block_term, offset_term, plain_global}
use Rattle.value_terms.specs.Terms.{term_of, terms_of, address_term}
use Rattle.value_terms.specs.Words.{words}
use Rattle.value_terms.specs.Places.{way_items}
use Rattle.value_terms.specs.Laws.{Stood}
use Rattle.walk_steps.specs.State.{at_or}
use Rattle.memory_steps.specs.State.{State, state}
use Rattle.memory_steps.specs.Step.{Step, seq, places}
use Rattle.memory_words.specs.Places.{answer}
use Rattle.memory_words.specs.Leaves.{leaves_of}
use Rattle.program_steps.specs.Stops.{broken_place}
use Rattle.program_steps.specs.Temporaries.{Temporaries, live}
use Rattle.memory_words.specs.Shapes.{FileCells, Shape, sizes}
use Rattle.memory_words.specs.Readings.{Texts, reading, reading_at}
use Rattle.memory_words.specs.Standing.{Frame, AllLive, StandsFor}
use Rattle.memory_words.specs.Seen.{InSetting, scope_at, is_closed_term, ValueFits}
use Rattle.memory_words.specs.Points.{Point, uses_of}
use Rattle.memory_words.specs.Sets.{cell_trees}
use Rattle.memory_words.specs.Typed.{StoreFits, Takes}
use Rattle.memory_words.specs.Words as word
use Rattle.memory_words.specs.Words.{Others, items_step, ask_all, store_cell, start_of}
use Rattle.memory_words.specs.Placed.{Openings, Placed, Ends, BothWays}
use Rattle.memory_words.specs.Puts.{Gives, Reaches}
use Rattle.memory_statements.specs.Stored.{LeadsAt, way_terms, values_of_way, IsWay, IsReached}

-- ---- terms, by the level of the state that they read

-- Where the slots of a level stand for a world, the reading of that level does.
abbrev pub LevelsRead : Type 0
LevelsRead =
    (m : sense.World) (p : Facts) (s : Shape) (cells : FileCells) → InSetting m p s cells → (fr : Frame) → AllLive fr → (f : Temporaries) (c : CoreWorld)
    (sts : List State) (l : ℕ) → StandsFor p s cells fr f c (at_or (state [] []) sts l)
    → Stood m (leaves_of sts) (reading_at p s cells l) p s.variables (scope_at s cells fr.in_scope f) c.temps c.world

-- Terms of expressions bind no name.
pub record AreClosed (p : Facts) (s : Shape) (cells : FileCells) (l : ℕ) : Type 0 where
  pub term : (e : t.Value) → is_closed_term (term_of p s.variables (reading_at p s cells l) e) ≡ true
  pub terms : (es : t.Values) → list_all is_closed_term (terms_of p s.variables (reading_at p s cells l) es) ≡ true
  pub address : (path : Path) (ts : List Term) → list_all is_closed_term ts ≡ true → is_closed_term (address_term p (reading_at p s cells l) path ts) ≡ true

abbrev pub TermsAreClosed : Type 0
TermsAreClosed = (p : Facts) (s : Shape) (cells : FileCells) (l : ℕ) → AreClosed p s cells l

-- ---- a store

-- Where an address term leads to a cell of the kind, and a term gives a value of it, the store has one end, in which slots stand for the world with the value
-- in the cell.
abbrev pub CellsAreStored : Type 0
CellsAreStored =
    (m : sense.World) (p : Facts) (s : Shape) (cells : FileCells) (fr : Frame) (f : Temporaries) (c : CoreWorld) (st : State) → StandsFor p s cells fr f c st
    → (k : CellKind) → cells.has_kind k ≡ true → (olds : List State) (a : ℕ → Term) (u : Term) (b o : ℤ) (v : Value) → LeadsAt m (sizes p s) olds st a b o
    → Gives m (sizes p s) olds answer k u v st → is_cell k c.world.memory.blocks b o ≡ true → is_content p (count c.world.memory.blocks) k v ≡ true
    → Reaches olds (store_cell m (sizes p s) k a u) st (StandsFor p s cells fr f (in_world c (with_memory (stored_in b o v c.world.memory) c.world)))

-- ---- a write, which needs the leave of the set in force

module _ (m : sense.World) (q : Program Steps) (s : Shape) (cells : FileCells) (texts : Texts) (contract : Contract) where
  abbrev pub write_word : Point → (line : ℕ) → CellKind → (address : (level : ℕ) → Term) → (stored : Term) → Step
  write_word pt l k a u =
      seq (ask_all m (sizes q.facts s) (cell_trees q.facts s cells texts contract pt k (block_term (a 0)) (offset_term (a 0))) (broken_place broken.assigns l))
      (store_cell m (sizes q.facts s) k a u)

  abbrev pub WritesRun : Type 0
  WritesRun =
      (here : Here) (pt : Point) (olds : List State) (fr : Frame) (os : Openings) → Placed m q.facts s cells texts contract pt here olds fr os
      → (after : Temporaries) (n : ℕ) (c : CoreWorld) (st : State) → StandsFor q.facts s cells fr after c st → cells.has_blocks ≡ true
      → (k : CellKind) → cells.has_kind k ≡ true → (l : ℕ) (a : ℕ → Term) (u : Term) (b o : ℤ) (v w : Value) → LeadsAt m (sizes q.facts s) olds st a b o
      → Gives m (sizes q.facts s) olds answer k u v st → is_cell k c.world.memory.blocks b o ≡ true → is_content q.facts (count c.world.memory.blocks) k v ≡ true
      → BothWays (λ e. with_eval (wrote_act w (cell_written here l k c.world (pointer b o) v)) (λ z x. goes_on (in_world c x)) ≡ e)
      (Ends q.facts s cells fr os (uses_of pt.outs) after (places (write_word pt l k a u)) n) olds n (write_word pt l k a u) st

abbrev pub CellsAreWritten : Type 0
CellsAreWritten = (m : sense.World) (q : Program Steps) (s : Shape) (cells : FileCells) (texts : Texts) (contract : Contract) → WritesRun m q s cells texts contract

-- ---- the way to a cell

-- The checks of operands and then of the way are asked, and what comes behind is run where they are met.
module _ (m : sense.World) (p : Facts) (s : Shape) (cells : FileCells) (stores_first : Bool) (type : CoreType) (path : Path) (es : t.Values) where
  abbrev pub way_word : Step → Step
  way_word b =
      seq (items_step m (sizes p s) (words p s.variables (reading p s cells) es))
      (seq (items_step m (sizes p s) (way_items p (reading p s cells) type path (way_terms stores_first (terms_of p s.variables (reading p s cells) es)))) b)

  abbrev pub asked_on_way : List Check → CoreWorld → Ending → Ending
  asked_on_way cs c behind =
      asked cs (place_test p s.variables c.temps c.world type path (values_of_way stores_first (totals p s.variables c.temps c.world es)) es) behind

abbrev pub WaysAreAsked : Type 0
WaysAreAsked =
    (m : sense.World) (p : Facts) (s : Shape) (cells : FileCells) → InSetting m p s cells → (fr : Frame) → AllLive fr → (f : Temporaries)
    → (c : CoreWorld) (st : State) → StandsFor p s cells fr f c st → (olds : List State) (os : Openings) (outs : List Temporaries) (after : Temporaries)
    → (stores_first : Bool) (cs : List Check) (type : CoreType) (path : Path) (es : t.Values) → IsWay p s cells fr.in_scope f stores_first cs type path es
    → (n : ℕ) (b : Step) (behind : Ending)
    → (IsReached p s cells m olds c st stores_first type path es → (n' : ℕ)
    → BothWays (λ e. behind ≡ e) (Ends p s cells fr os outs after (places b) n') olds n' b st)
    → BothWays (λ e. asked_on_way m p s cells stores_first type path es cs c behind ≡ e)
    (Ends p s cells fr os outs after (places (way_word m p s cells stores_first type path es b)) n) olds n (way_word m p s cells stores_first type path es b) st

-- ---- values of any term, as that of what a call has returned

module _ (m : sense.World) (q : Program Steps) (s : Shape) (cells : FileCells) (texts : Texts) (contract : Contract) (others : Others) where
  -- The word of a place that gets a value, whose operands are all of the way, runs as the machine puts the value there.
  abbrev pub place_word : Point → (line : ℕ) → CoreType → Path → t.Values → Term → Step
  place_word pt l type path es u =
      seq (word.values_step m q.facts s cells texts contract others es)
      (word.store_to m q.facts s cells texts contract others pt l type path (word.terms_at m q.facts s cells texts contract others es) u)

  abbrev pub CellReceives : Type 0
  CellReceives =
      InSetting m q.facts s cells → (here : Here) (pt : Point) (olds : List State) (fr : Frame) (os : Openings) → Placed m q.facts s cells texts contract pt here olds fr os
      → (used after : Temporaries) → ((j : ℕ) → after j ≡ true → used j ≡ true) → (cs : List Check) (type : CoreType) (l : ℕ) (path : Path) (es : t.Values)
      → IsWay q.facts s cells fr.in_scope used false cs type path es → (n : ℕ) (c : CoreWorld) (st : State) → StandsFor q.facts s cells fr used c st
      → (u : Term) (v : Value) → Gives m (sizes q.facts s) olds answer (cell_of type) u v st → is_content q.facts (count c.world.memory.blocks) (cell_of type) v ≡ true
      → BothWays (λ e. exec.result_to q segs.no_deeper s.variables here (core.place cs type l path es) v c ≡ e)
      (Ends q.facts s cells fr os (uses_of pt.outs) after (places (place_word pt l type path es u)) n) olds n (place_word pt l type path es u) st

abbrev pub CellsReceive : Type 0
CellsReceive =
    (m : sense.World) (q : Program Steps) (s : Shape) (cells : FileCells) (texts : Texts) (contract : Contract) (others : Others) → CellReceives m q s cells texts contract others

-- The first value of a variable that has a block, for which no leave is asked.
abbrev pub BlocksReceive : Type 0
BlocksReceive =
    (m : sense.World) (p : Facts) (s : Shape) (cells : FileCells) (texts : Texts) (contract : Contract) (others : Others) (fr : Frame) (f : Temporaries)
    (c : CoreWorld) (st : State) → StandsFor p s cells fr f c st → (olds : List State) (x : ℕ) (k : CellKind) (takes : Takes s cells fr.in_scope x k)
    → takes.variable.is_plain ≡ false → fr.lives x ≡ true → (u : Term) (v : Value) → Gives m (sizes p s) olds answer k u v st
    → is_content p (count c.world.memory.blocks) k v ≡ true
    → Reaches olds (start_of m p s cells texts contract others x (slice_get s.variables x) u) st
    (StandsFor p s cells fr f (in_world c (initial_act s.variables x v c.world)))

-- ---- whole statements

module _ (m : sense.World) (q : Program Steps) (s : Shape) (cells : FileCells) (texts : Texts) (contract : Contract) (others : Others) where
  -- from slots that stand for a world, where the statement stands
  abbrev pub StatementRuns : Point → core.Step → (after : Temporaries) → Type 0
  StatementRuns pt a after =
      InSetting m q.facts s cells → (here : Here) (olds : List State) (fr : Frame) (os : Openings) → Placed m q.facts s cells texts contract pt here olds fr os
      → (n : ℕ) (c : CoreWorld) (st : State) → StandsFor q.facts s cells fr (live a (uses_of pt.outs) after) c st
      → BothWays (segs.Seg q s.variables here a c)
      (Ends q.facts s cells fr os (uses_of pt.outs) after (places (word.step m q.facts s cells texts contract others pt a after)) n) olds n
      (word.step m q.facts s cells texts contract others pt a after) st

  -- an assignment that leads to a cell
  abbrev pub CellStoreRuns : Type 0
  CellStoreRuns =
      (pt : Point) (after : Temporaries) (cs : List Check) (type : CoreType) (l : ℕ) (path : Path) (es : t.Values)
      → StoreFits q.facts s cells pt.stands.in_scope (live (core.store cs type l path es) (uses_of pt.outs) after) cs type path es
      → plain_root s.variables path.root ≡ None → plain_global q.facts.globals path.root ≡ None → StatementRuns pt (core.store cs type l path es) after

  -- the first value of a variable that has a block, for which no leave is asked
  abbrev pub BlockStartRuns : Type 0
  BlockStartRuns =
      (pt : Point) (after : Temporaries) (cs : List Check) (x : ℕ) (e : t.Value)
      → (k : CellKind) (takes : Takes s cells pt.stands.in_scope x k) → takes.variable.is_plain ≡ false
      → ValueFits q.facts s cells pt.stands.in_scope (live (core.start cs x e) (uses_of pt.outs) after) e k → cs ≡ checks_of s.variables e
      → StatementRuns pt (core.start cs x e) after

abbrev pub StoresToCellsRun : Type 0
StoresToCellsRun =
    (m : sense.World) (q : Program Steps) (s : Shape) (cells : FileCells) (texts : Texts) (contract : Contract) (others : Others)
    → CellStoreRuns m q s cells texts contract others

abbrev pub StartsOfBlocksRun : Type 0
StartsOfBlocksRun =
    (m : sense.World) (q : Program Steps) (s : Shape) (cells : FileCells) (texts : Texts) (contract : Contract) (others : Others)
    → BlockStartRuns m q s cells texts contract others

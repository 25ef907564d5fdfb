-- What a cell that a way leads to, and a variable that has a block, get: the value of a term, whichever it is.
use Rattle.std.proofs.Common.{◌≡◌, ℕ, Bool, true, false, if◌then◌else◌, ℤ, pos, List, [], ◌∷◌, ◌++◌, length, refl, sym, ap, ◌∙◌, subst}
use Rattle.wp_base.specs.declared.kinds.CellKind.{CellKind}
use Rattle.wp_base.specs.Blocks.{block_of, is_block, is_cell, count}
use Rattle.typed_prog.specs.declared.operators.Variable.TheVariants as variables
use Rattle.qed_terms.specs.Tree.{num}
use Rattle.c_runs.specs.Told.{Value}
use Rattle.c_runs.specs.Program.{Variable, Facts, Program, Contract}
use Rattle.c_runs.specs.States.{Here, plain, with_local, with_memory, stored_in}
use Rattle.c_runs.specs.Objects.{cell_of}
use Rattle.c_runs.specs.Effects.{wrote_act, cell_written, initial_act, initial_by, initial_in}
use Rattle.c_runs.specs.CoreRun.{CoreWorld, Ending, with_eval, in_world}
use Rattle.c_runs.specs.CoreRun as run
use Rattle.c_runs.specs.Checks.{Check}
use Rattle.c_runs.specs.Tests.{totals}
use Rattle.c_runs.specs.Tree.{Steps}
use Rattle.c_runs.specs.CheckedRun as exec
use Rattle.c_runs.specs.CheckedRun.{put_by}
use Rattle.goal_segments.specs.Segments.{no_deeper}
use Rattle.value_terms.specs.Readings.{Term, as_pointer}
use Rattle.value_terms.specs.Terms.{terms_of}
use Rattle.memory_steps.specs.State.{State}
use Rattle.memory_steps.specs.Step.{Step, seq, places}
use Rattle.memory_words.specs.Places.{value, answer, number_in, number_at, Sizes}
use Rattle.memory_words.specs.Leaves.{leaf}
use Rattle.memory_words.proofs.Leaves.{leaf_closed}
use Rattle.memory_words.proofs.Lists.{found_below}
use Rattle.program_steps.specs.Temporaries.{Temporaries}
use Rattle.memory_words.specs.Shapes.{sizes, kind_of, FileCells, Shape}
use Rattle.memory_words.specs.Readings.{reading, reading_at, Texts}
use Rattle.memory_words.specs.Standing.{StandsFor, Frame}
use Rattle.memory_words.specs.Seen.{InSetting}
use Rattle.memory_words.specs.Points.{uses_of, Point}
use Rattle.memory_words.specs.Words as word
use Rattle.memory_words.specs.Words.{store_cell, store_by, start_of, Others}
use Rattle.memory_words.specs.Placed.{Ends, BothWays, Openings, Placed}
use Rattle.memory_words.specs.Puts.{NoPlace, Reaches, Gives}
use Rattle.memory_statements.specs.Stored.{LeadsAt, IsWay, way_address, IsReached, way_terms, values_of_way}
use Rattle.memory_statements.specs.StoreLaws.{write_word, way_word, asked_on_way, CellsReceive, BlocksReceive}
use Rattle.memory_words.proofs.PutStanding.{slots_go_on}
use Rattle.memory_statements.proofs.Telling.{keeps_all, leaf_told}
use Rattle.memory_statements.proofs.Homes.{home_cell}
use Rattle.memory_statements.proofs.Storing.{cells_are_stored}
use Rattle.memory_statements.proofs.Writing.{cells_are_written}
use Rattle.memory_statements.proofs.Ways.{at_behind, ToCell, cell_way, ways_are_asked}
use Rattle.std.specs.Prelude.{slice_get}
use Rattle.typed_prog.specs.declared.types.CoreType.{CoreType}
use Rattle.typed_prog.specs.declared.operators.Path.{Path}
use Rattle.typed_prog.specs.Tree as t
use Rattle.qed_terms.specs.Meaning as sense
use Rattle.c_runs.specs.Scopes.{is_content}

-- ---- cells

-- a write behind the checks of its operands and of its way
pub cell_gets : (m : sense.World) (q : Program Steps) (s : Shape) (cells : FileCells) (texts : Texts) (contract : Contract) (others : Others) → InSetting m q.facts s cells
    → (here : Here) (pt : Point) (olds : List State) (fr : Frame) (os : Openings) → Placed m q.facts s cells texts contract pt here olds fr os
    → (used after : Temporaries) → ((j : ℕ) → after j ≡ true → used j ≡ true) → (stores_first : Bool) (cs : List Check) (type : CoreType) (l : ℕ) (path : Path) (es : t.Values)
    → IsWay q.facts s cells fr.in_scope used stores_first cs type path es → (n : ℕ) (c : CoreWorld) (st : State) → StandsFor q.facts s cells fr used c st
    → (u : Term) (v : Value)
    → (IsReached q.facts s cells m olds c st stores_first type path es
    → Gives m (sizes q.facts s) olds answer (cell_of type) u v st × (is_content q.facts (count c.world.memory.blocks) (cell_of type) v ≡ true))
    → let word = seq (word.values_step m q.facts s cells texts contract others es)
    (word.store_to m q.facts s cells texts contract others pt l type path (λ l. way_terms stores_first (terms_of q.facts s.variables (reading_at q.facts s cells l) es)) u) in
    BothWays (λ e. asked_on_way m q.facts s cells stores_first type path es cs c
    (exec.put_to q no_deeper s.variables here type l path (values_of_way stores_first (totals q.facts s.variables c.temps c.world es)) v c) ≡ e)
    (Ends q.facts s cells fr os (uses_of pt.outs) after (places word) n) olds n word st
cell_gets m q s cells texts contract others setting here pt olds fr os placed used after less stores_first cs type l path es way n c st stands u v given_by =
    subst (λ w. BothWays (λ e. asked_on_way m p s cells stores_first type path es cs c behind ≡ e) (Ends p s cells fr os (uses_of pt.outs) after (places w) n) olds n w st) word_is
    (ways_are_asked m p s cells setting fr placed.lives used c st stands olds os (uses_of pt.outs) after stores_first cs type path es way n b behind tail) where
      p : Facts
      p = q.facts

      k : CellKind
      k = cell_of type

      a : ℕ → Term
      a = way_address p s cells stores_first path es

      b : Step
      b = write_word m q s cells texts contract pt l k a u

      word_is : way_word m p s cells stores_first type path es b
          ≡ seq (word.values_step m p s cells texts contract others es)
          (word.store_to m p s cells texts contract others pt l type path (λ l. way_terms stores_first (terms_of p s.variables (reading_at p s cells l) es)) u)
      word_is = λ i. seq (word.values_step m p s cells texts contract others es)
          (store_by m p s cells texts contract others (sym way.no_local i) (sym way.no_global i) pt l type path
          (λ l. way_terms stores_first (terms_of p s.variables (reading_at p s cells l) es)) u)

      to : ToCell p s cells fr.in_scope used type path (way_terms stores_first (terms_of p s.variables (reading p s cells) es))
      to = cell_way p s cells fr.in_scope used type path (way_terms stores_first (terms_of p s.variables (reading p s cells) es)) way.way way.no_local way.no_global

      vs : List Value
      vs = values_of_way stores_first (totals p s.variables c.temps c.world es)

      behind : Ending
      behind = exec.put_to q no_deeper s.variables here type l path vs v c

      later : StandsFor p s cells fr after c st
      later = slots_go_on p s cells fr used c st stands after less st (keeps_all (sizes p s) after NoPlace st stands.size)

      tail : IsReached p s cells m olds c st stores_first type path es → (n' : ℕ)
          → BothWays (λ e. behind ≡ e) (Ends p s cells fr os (uses_of pt.outs) after (places b) n') olds n' b st
      tail r n' =
          let given = given_by r in
          subst (λ x. BothWays (λ e. x ≡ e) (Ends p s cells fr os (uses_of pt.outs) after (places b) n') olds n' b st)
          (ap (λ a. with_eval (wrote_act v (cell_written here l k c.world a v)) (λ z w. run.goes_on (in_world c w))) (sym r.address_is)
          ∙ (λ i. with_eval (wrote_act v (put_by (sym way.no_local i) p here l type path c.world vs v)) (λ z w. run.goes_on (in_world c w))))
          (cells_are_written m q s cells texts contract here pt olds fr os placed after n' c st later to.has_blocks k to.has_kind l a u r.block r.offset v v r.leads
          given.0 r.cell given.1)

pub cells_receive : CellsReceive
cells_receive m q s cells texts contract others setting here pt olds fr os placed used after less cs type l path es way n c st stands u v gives content =
    cell_gets m q s cells texts contract others setting here pt olds fr os placed used after less false cs type l path es way n c st stands u v (λ r. (gives, content))

-- ---- variables that have blocks

pub blocks_receive : BlocksReceive
blocks_receive m p s cells texts contract others fr f c st stands olds x k takes block lives u v gives content =
    subst (λ w. Reaches olds w st (StandsFor p s cells fr f (in_world c (initial_act s.variables x v c.world)))) word_is
    (subst (λ w. Reaches olds b st (StandsFor p s cells fr f (in_world c w))) made stored) where
      z : Sizes
      z = sizes p s

      y : Variable
      y = takes.variable

      a : ℕ → Term
      a = λ l. as_pointer (leaf z l (value (variables.Local x))) (num (pos 0))

      b : Step
      b = store_cell m z (kind_of y) a u

      word_is : b ≡ start_of m p s cells texts contract others x (slice_get s.variables x) u
      word_is =
          (λ i. if sym block i then word.set_variable m z (kind_of y) (variables.Local x) u else store_cell m z (kind_of y) a u)
          ∙ (λ i. start_of m p s cells texts contract others x (sym takes.found i) u)

      home_block : ℤ
      home_block = fr.homes x

      leads : LeadsAt m z olds st a home_block (pos 0)
      leads = record {
        closed_block = λ l. leaf_closed [] z l (value (variables.Local x));
        closed_offset = λ l. refl;
        block = λ new spare sts.
            leaf_told m z (sts ++ new ∷ olds) (length sts) (value (variables.Local x)) ∙ ap (λ st. number_at z st (value (variables.Local x))) (at_behind sts new olds)
            ∙ ap number_in (spare.same (value (variables.Local x)) (found_below s.variables x y takes.found) refl (λ h. h) ∙ (stands.homes x y takes.found block takes.scoped).1);
        offset = λ new spare sts. refl;
      }

      is : is_cell k c.world.memory.blocks home_block (pos 0) ≡ true
      is =
          home_cell c.world.memory.blocks home_block y.layout k
          (ap (λ b. is_block b (block_of y.layout)) (stands.blocks_are.live home_block) ∙ stands.living x y takes.found block takes.scoped lives)
          (takes.one_cell block).0

      made : with_memory (stored_in home_block (pos 0) v c.world.memory) c.world ≡ initial_act s.variables x v c.world
      made =
          (λ i. with_memory (initial_in (sym (stands.homes x y takes.found block takes.scoped).0 i) v c.world.memory) c.world)
          ∙ (λ i. if sym block i then with_local x (plain v true) c.world else with_memory (initial_in (c.world.locals x) v c.world.memory) c.world)
          ∙ (λ i. initial_by (sym takes.found i) x (c.world.locals x) v c.world)

      stored : Reaches olds b st (StandsFor p s cells fr f (in_world c (with_memory (stored_in home_block (pos 0) v c.world.memory) c.world)))
      stored =
          subst (λ k. Reaches olds (store_cell m z k a u) st (StandsFor p s cells fr f (in_world c (with_memory (stored_in home_block (pos 0) v c.world.memory) c.world)))) (sym takes.kind)
          (cells_are_stored m p s cells fr f c st stands k (takes.one_cell block).2 olds a u home_block (pos 0) v leads gives is content)

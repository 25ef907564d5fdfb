-- A write to a cell: the set in force is asked for leave, and then the cell is stored to.
use Rattle.std.proofs.Common.{◌≡◌, ℕ, ◌+◌, Bool, true, ℤ, List, [], ◌∷◌, refl, sym, ap, ◌∙◌, subst}
use Rattle.std.specs.Option.{unwrap_or}
use Rattle.wp_base.specs.declared.kinds.CellKind.{CellKind}
use Rattle.wp_base.specs.Blocks.{is_cell}
use Rattle.qed_terms.specs.Meaning as sense
use Rattle.qed_terms.specs.Tree.{Tree}
use Rattle.c_runs.specs.TruthStates.{pointer, is_negative}
use Rattle.c_runs.specs.States.{World, with_memory, stored_in}
use Rattle.c_runs.specs.Claims as broken
use Rattle.c_runs.specs.Claims.{failed, may_change}
use Rattle.c_runs.specs.Effects.{wrote_act, granted, cell_written, kind_there}
use Rattle.c_runs.specs.CoreRun.{Ending, with_eval, in_world}
use Rattle.c_runs.specs.CoreRun as run
use Rattle.typed_memories.proofs.CellKinds.{kind_of_cell}
use Rattle.value_terms.specs.Readings.{block_term, offset_term}
use Rattle.memory_steps.specs.State.{State}
use Rattle.memory_steps.specs.Step.{Step, places, count as checks_count}
use Rattle.memory_steps.specs.Run.{End, goes_on, Seg}
use Rattle.memory_words.specs.Places.{Sizes}
use Rattle.memory_words.specs.Leaves.{leaves_of, or_false}
use Rattle.program_steps.specs.Stops.{broken_place}
use Rattle.memory_words.specs.Shapes.{sizes}
use Rattle.memory_words.specs.Standing.{StandsFor}
use Rattle.memory_words.specs.Points.{uses_of}
use Rattle.memory_words.specs.Sets.{cell_trees}
use Rattle.memory_words.specs.Words.{ask_all, store_cell}
use Rattle.memory_words.specs.Placed.{Ends, BothWays, all_told}
use Rattle.memory_words.specs.Puts.{NoPlace, Reaches}
use Rattle.memory_statements.specs.Stored.{SpareChanged}
use Rattle.memory_statements.specs.StoreLaws.{CellsAreWritten}
use Rattle.memory_words.proofs.Ends.{asked_run}
use Rattle.memory_statements.proofs.Reading.{cell_address}
use Rattle.memory_statements.proofs.Telling.{keeps_all}
use Rattle.memory_statements.proofs.Storing.{cells_are_stored}

-- a run that goes on, and a word with one end
pub one_end : {olds : List State} {n : ℕ} {b : Step} {st : State} (ends : Ending → End → Type 0) (behind : Ending) (e : End) → Seg olds n b st e
    → ((x : End) → Seg olds n b st x → e ≡ x) → ends behind e → BothWays (λ o. behind ≡ o) ends olds n b st
one_end ends behind e s only h = record {
  forth = λ o same. (e, s, subst (λ o. ends o e) same h);
  back = λ x k. (behind, refl, subst (ends behind) (only x k) h);
}

-- the kind of a cell that is there
there_kind : (t : _) (k : CellKind) (b o : ℤ) → is_cell k t b o ≡ true → kind_there t k (pointer b o) ≡ k
there_kind t k b o is = ap (λ c. unwrap_or c k) (kind_of_cell k t b o is)

pub cells_are_written : CellsAreWritten
cells_are_written m q s cells texts contract here pt olds fr os placed after n c st stands has_blocks k has l a u b o v w leads gives is content =
    asked_run m q.facts s cells fr os (uses_of pt.outs) after z olds st fs (broken_place broken.assigns l) (failed broken.assigns l) (refl, refl) so told n (store_cell m z k a u) later
    whole (λ e. whole_is ∙ ap written e) (λ e. whole_is ∙ ap written e) (λ e. tail) where
      z : Sizes
      z = sizes q.facts s

      fs : List Tree
      fs = cell_trees q.facts s cells texts contract pt k (block_term (a 0)) (offset_term (a 0))

      so : Bool
      so = may_change here.granted k b o

      w' : World
      w' = with_memory (stored_in b o v c.world.memory) c.world

      written : Bool → Ending
      written t = with_eval (wrote_act w (granted t l w')) (λ z x. run.goes_on (in_world c x))

      later : Ending
      later = run.goes_on (in_world c w')

      whole : Ending
      whole = with_eval (wrote_act w (cell_written here l k c.world (pointer b o) v)) (λ z x. run.goes_on (in_world c x))

      whole_is : whole ≡ written so
      whole_is = ap (λ k. written (may_change here.granted k b o)) (there_kind c.world.memory.blocks k b o is)

      spare : SpareChanged z st st
      spare = keeps_all z (λ n. true) NoPlace st stands.size

      block_is : sense.value m (leaves_of (st ∷ olds)) (block_term (a 0)) ≡ b
      block_is = ap (λ t. sense.value m (leaves_of (st ∷ olds)) (or_false t (block_term (a 0)))) (sym (leads.closed_block 0)) ∙ leads.block st spare []

      offset_is : sense.value m (leaves_of (st ∷ olds)) (offset_term (a 0)) ≡ o
      offset_is = ap (λ t. sense.value m (leaves_of (st ∷ olds)) (or_false t (offset_term (a 0)))) (sym (leads.closed_offset 0)) ∙ leads.offset st spare []

      told : all_told m (st ∷ olds) fs ≡ so
      told =
          placed.written has_blocks k (block_term (a 0)) (offset_term (a 0)) (leads.closed_block 0) (leads.closed_offset 0) st
          (ap is_negative block_is ∙ cell_address k c.world.memory.blocks b o is)
          ∙ (λ i. may_change here.granted k (block_is i) (offset_is i))

      stored : Reaches olds (store_cell m z k a u) st (StandsFor q.facts s cells fr after (in_world c w'))
      stored = cells_are_stored m q.facts s cells fr after c st stands k has olds a u b o v leads gives is content

      tail : BothWays (λ o. later ≡ o) (Ends q.facts s cells fr os (uses_of pt.outs) after (places (store_cell m z k a u)) (n + checks_count (ask_all m z fs (broken_place broken.assigns l))))
          olds (n + checks_count (ask_all m z fs (broken_place broken.assigns l))) (store_cell m z k a u) st
      tail =
          let n' = n + checks_count (ask_all m z fs (broken_place broken.assigns l)) in
          one_end (Ends q.facts s cells fr os (uses_of pt.outs) after (places (store_cell m z k a u)) n') later (goes_on stored.state) (stored.end.runs n') (stored.end.only n') stored.is

-- Assignments that lead to cells, and first values of variables that have blocks.
use Rattle.std.proofs.Common.{◌≡◌, ℕ, ◌+◌, Bool, true, false, ◌||◌, List, [], ◌∷◌, ◌++◌, refl, sym, ap, ◌∙◌, subst}
use Rattle.std.specs.List.{list_all}
use Rattle.wp_base.specs.Blocks.{count}
use Rattle.c_runs.specs.Truth.{value_at}
use Rattle.c_runs.specs.Told.{Value}
use Rattle.c_runs.specs.Program.{Variable, Facts, Program}
use Rattle.c_runs.specs.States.{Here}
use Rattle.c_runs.specs.Objects.{cell_of}
use Rattle.c_runs.specs.Effects.{initial_act}
use Rattle.c_runs.specs.CoreRun.{CoreWorld, Ending, in_world}
use Rattle.c_runs.specs.CoreRun as run
use Rattle.c_runs.specs.Checks.{Check, all_checks}
use Rattle.c_runs.specs.Tests.{total, totals, is_met}
use Rattle.c_runs.specs.Tree as core
use Rattle.c_runs.specs.Tree.{Steps}
use Rattle.c_runs.specs.CheckedRun as exec
use Rattle.c_runs.specs.CheckedRun.{stored_value}
use Rattle.goal_segments.specs.Segments as segs
use Rattle.goal_segments.specs.Segments.{is_single, no_deeper}
use Rattle.value_terms.specs.Readings.{Term, term_at}
use Rattle.value_terms.specs.Terms.{term_of, terms_of}
use Rattle.value_terms.specs.Words.{word_of}
use Rattle.memory_steps.specs.State.{State}
use Rattle.memory_steps.specs.Step.{Step, places, count as checks_count}
use Rattle.memory_steps.specs.Run.{End, goes_on}
use Rattle.memory_words.specs.Places.{answer, Sizes}
use Rattle.program_steps.specs.Temporaries.{Temporaries, some_use, uses, live}
use Rattle.memory_words.specs.Shapes.{sizes}
use Rattle.memory_words.specs.Readings.{reading, InScope}
use Rattle.memory_words.specs.Standing.{StandsFor}
use Rattle.memory_words.specs.Seen.{ValueFits}
use Rattle.memory_words.specs.Points.{uses_of}
use Rattle.memory_words.specs.Typed.{way_checks, Takes}
use Rattle.memory_words.specs.Words.{items_step, start_of}
use Rattle.memory_words.specs.Placed.{Ends, BothWays}
use Rattle.memory_words.specs.Puts.{NoPlace, Gives}
use Rattle.memory_words.specs.Values.{Evaluates, HasValue}
use Rattle.memory_statements.specs.Stored.{IsWay, IsReached}
use Rattle.memory_statements.specs.StoreLaws.{StoresToCellsRun, StartsOfBlocksRun}
use Rattle.memory_words.proofs.PutStanding.{slots_go_on}
use Rattle.memory_words.proofs.Valued.{expressions_evaluate}
use Rattle.memory_words.proofs.Ends.{items_run_well}
use Rattle.memory_words.proofs.Singles.{singles_are_runs}
use Rattle.memory_statements.proofs.Telling.{keeps_all}
use Rattle.memory_statements.proofs.Writing.{one_end}
use Rattle.memory_statements.proofs.Ways.{asks_all}
use Rattle.memory_statements.proofs.Receiving.{cell_gets, blocks_receive}
use Rattle.std.specs.Prelude.{slice_get}
use Rattle.c_runs.specs.Scopes.{is_content}

-- ---- runs of single statements

of_single : (q : Program Steps) (xs : List Variable) (here : Here) (a : core.Step) (c : CoreWorld) → is_single a ≡ true → {ends : Ending → End → Type 0} {olds : List State} {n : ℕ}
    {b : Step} {st : State} → BothWays (λ o. exec.exec q no_deeper xs here a c ≡ o) ends olds n b st → BothWays (segs.Seg q xs here a c) ends olds n b st
of_single q xs here a c is both = record {
  forth = λ o h. both.forth o ((singles_are_runs q xs here a c o is).is h);
  back = λ e k. let x = both.back e k in (x.0, (singles_are_runs q xs here a c x.0 is).runs x.1, x.2);
}

stored_is : (vs : List Value) → value_at vs 0 ≡ stored_value vs
stored_is [] = refl
stored_is (v ∷ vs) = refl

or_more : (a b : Bool) → b ≡ true → (a || b) ≡ true
or_more true b h = refl
or_more false b h = h

-- ---- assignments

pub stores_to_cells_run : StoresToCellsRun
stores_to_cells_run m q s cells texts contract others pt after cs type l path es fits no_local no_global setting here olds fr os placed n c st stands =
    of_single q s.variables here (core.store cs type l path es) c refl
    (cell_gets m q s cells texts contract others setting here pt olds fr os placed used after (λ j h. or_more (some_use es j) (after j) h) true cs type l path es way n c st stands u
    (stored_value vs) value_is) where
      p : Facts
      p = q.facts

      used : Temporaries
      used = live (core.store cs type l path es) (uses_of pt.outs) after

      u : Term
      u = term_at (terms_of p s.variables (reading p s cells) es) 0

      scope : fr.in_scope ≡ pt.stands.in_scope
      scope = λ i. λ x. placed.scope x i

      way_here : IsWay p s cells pt.stands.in_scope used true cs type path es
      way_here = record {
        values = fits.values;
        way = fits.way;
        no_local = no_local;
        no_global = no_global;
        checks = fits.checks ∙ (λ i. all_checks s.variables es ++ way_checks p s cells pt.stands.in_scope used (no_local i) (no_global i) path);
      }

      way : IsWay p s cells fr.in_scope used true cs type path es
      way = subst (λ i. IsWay p s cells i used true cs type path es) (sym scope) way_here

      vs : List Value
      vs = totals p s.variables c.temps c.world es

      value_is : IsReached p s cells m olds c st true type path es
          → Gives m (sizes p s) olds answer (cell_of type) u (stored_value vs) st × (is_content p (count c.world.memory.blocks) (cell_of type) (stored_value vs) ≡ true)
      value_is r =
          let first = subst (λ v. HasValue m p s cells c st olds (cell_of type) u v) (stored_is vs)
          (subst (λ k. HasValue m p s cells c st olds k u (value_at vs 0)) fits.stored (r.operands 0)) in
          (first.gives answer refl, first.fits)

-- ---- first values

pub starts_of_blocks_run : StartsOfBlocksRun
starts_of_blocks_run m q s cells texts contract others pt after cs x e k takes block fits same setting here olds fr os placed n c st stands =
    of_single q s.variables here (core.start cs x e) c refl
    (items_run_well m p s cells fr os (uses_of pt.outs) after z olds st met (word_of p s.variables (reading p s cells) e) fits.items ev.says cs (ev.checks ∙ sym same) n b
    behind (λ asks. tail (ev.value (ap (list_all met) (sym same) ∙ asks_all asks)) (n + checks_count (items_step m z (word_of p s.variables (reading p s cells) e))))) where
      p : Facts
      p = q.facts

      z : Sizes
      z = sizes p s

      used : Temporaries
      used = live (core.start cs x e) (uses_of pt.outs) after

      met : Check → Bool
      met = is_met p s.variables c.temps c.world e

      u : Term
      u = term_of p s.variables (reading p s cells) e

      b : Step
      b = start_of m p s cells texts contract others x (slice_get s.variables x) u

      scope : pt.stands.in_scope ≡ fr.in_scope
      scope = λ i. λ x. sym (placed.scope x) i

      ev : Evaluates m p s cells c st olds e k
      ev = expressions_evaluate m p s cells setting fr placed.lives used c st stands olds e k (subst (λ i. ValueFits p s cells i used e k) scope fits)

      v : Value
      v = total p s.variables c.temps c.world e

      behind : Ending
      behind = run.goes_on (in_world c (initial_act s.variables x v c.world))

      later : StandsFor p s cells fr after c st
      later = slots_go_on p s cells fr used c st stands after (λ j h. or_more (uses e j) (after j) h) st (keeps_all z after NoPlace st stands.size)

      -- where the variables in scope are told by the frame
      taken : (i : InScope) → pt.stands.in_scope ≡ i → Takes s cells i x k
      taken i e = record {
        variable = takes.variable;
        found = takes.found;
        scoped = (λ j. sym e j x) ∙ takes.scoped;
        kind = takes.kind;
        one_cell = takes.one_cell;
      }

      tail : HasValue m p s cells c st olds k u v → (n' : ℕ) → BothWays (λ o. behind ≡ o) (Ends p s cells fr os (uses_of pt.outs) after (places b) n') olds n' b st
      tail has n' =
          let r = blocks_receive m p s cells texts contract others fr after c st later olds x k (taken fr.in_scope scope) block (placed.lives x (placed.scope x ∙ takes.scoped)) u v
          (has.gives answer refl) has.fits in
          one_end (Ends p s cells fr os (uses_of pt.outs) after (places b) n') behind (goes_on r.state) (r.end.runs n') (r.end.only n') r.is

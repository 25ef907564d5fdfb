-- A value that is returned: it is asked for, put into its places, and the temporaries and open scopes are left.
use Rattle.std.proofs.Common.{◌≡◌, ◌⊎◌, ℕ, ◌+◌, Bool, true, false, List, [], ◌∷◌, Option, Some, None, refl, sym, ap, ◌∙◌, subst}
use Rattle.std.specs.List.{list_all}
use Rattle.std.proofs.lemmas.Bool.{false≢true}
use Rattle.wp_base.specs.declared.kinds.CellKind.{CellKind}
use Rattle.wp_base.specs.Blocks as blocks
use Rattle.typed_prog.specs.Tree as t
use Rattle.qed_terms.specs.Meaning as sense
use Rattle.c_runs.specs.Told.{Value}
use Rattle.c_runs.specs.Program.{Contract, Facts, Program}
use Rattle.c_runs.specs.States.{Here}
use Rattle.c_runs.specs.Scopes.{is_content}
use Rattle.c_runs.specs.CoreRun as run
use Rattle.c_runs.specs.CoreRun.{CoreWorld, Ending}
use Rattle.c_runs.specs.Checks.{Check, checks_of}
use Rattle.c_runs.specs.Tests.{total, is_met}
use Rattle.c_runs.specs.Tree as core
use Rattle.c_runs.specs.Tree.{Steps}
use Rattle.c_runs.specs.CheckedRun as exec
use Rattle.goal_segments.specs.RunSegments.{Asks}
use Rattle.goal_segments.specs.Segments as segs
use Rattle.goal_segments.specs.Segments.{no_deeper, IsResult}
use Rattle.value_terms.specs.Readings.{Term}
use Rattle.value_terms.specs.Terms.{term_of}
use Rattle.value_terms.specs.Words.{Item, word_of}
use Rattle.program_steps.specs.Temporaries.{Temporaries, no_temporaries, live}
use Rattle.memory_steps.specs.State.{State}
use Rattle.memory_steps.specs.Step.{Step, places, count}
use Rattle.memory_steps.specs.Step as step
use Rattle.memory_steps.specs.Run.{End}
use Rattle.memory_words.specs.Places.{result, result_offset, number_in, number_at}
use Rattle.memory_words.specs.Shapes.{FileCells, Shape, sizes}
use Rattle.memory_words.specs.Readings.{Texts, reading}
use Rattle.memory_words.specs.Standing.{IsHeldAs, Frame, StandsFor}
use Rattle.memory_words.specs.Seen.{InSetting, ValueFits}
use Rattle.memory_words.specs.Points.{Point, uses_of}
use Rattle.memory_words.specs.Words as word
use Rattle.memory_words.specs.Words.{Others, items_step}
use Rattle.memory_words.specs.Placed.{Openings, Placed, Ends, BothWays}
use Rattle.memory_words.specs.Puts.{Keeps, NoPlace}
use Rattle.memory_words.specs.Values.{HasValue, Evaluates}
use Rattle.memory_words.specs.PutLaws.{SingleRuns}
use Rattle.memory_words.proofs.PutStanding.{slots_go_on}
use Rattle.memory_words.proofs.Storing.{content_value, content_leads}
use Rattle.memory_words.proofs.Setting.{results_are_set, temporaries_are_dropped}
use Rattle.memory_words.proofs.Valued.{expressions_evaluate}
use Rattle.memory_words.proofs.Ends.{asks_all, behind_one_end, items_run_well}
use Rattle.memory_words.proofs.Singles.{singles_are_runs}
use Rattle.memory_statements.proofs.Leaving.{exits_run}

module _ (m : sense.World) (q : Program Steps) (s : Shape) (cells : FileCells) (texts : Texts) (contract : Contract) (others : Others) (setting : InSetting m q.facts s cells)
    (here : Here) (pt : Point) (olds : List State) (fr : Frame) (os : Openings) (placed : Placed m q.facts s cells texts contract pt here olds fr os)
    (after : Temporaries) where
  abbrev p : Facts
  p = q.facts

  abbrev EndsAt : Step → ℕ → Ending → End → Type 0
  EndsAt b n o e = Ends p s cells fr os (uses_of pt.outs) after (places b) n o e

  abbrev leave_word : Step
  leave_word = word.leave_all m p s cells texts contract others pt

  abbrev drop_word : Step
  drop_word = word.all_dropped m p s cells texts contract others

  abbrev left_word : Step
  left_word = step.seq drop_word leave_word

  -- an expression that fits where the statement stands does so in the frame
  pub fits_there : (f : Temporaries) (e : t.Value) (k : CellKind) → ValueFits p s cells pt.stands.in_scope f e k → ValueFits p s cells fr.in_scope f e k
  fits_there f e k fits = subst (λ i. ValueFits p s cells i f e k) (sym (λ i x. placed.scope x i)) fits

  -- a content is what a function may give
  result_given : (c : CoreWorld) (k : CellKind) (v : Value) → is_content p (blocks.count c.world.memory.blocks) k v ≡ true → (o : Option CellKind) → o ≡ Some k
      → IsResult p c.world.memory.blocks o v
  result_given c k v fits o is =
      subst (λ o. IsResult p c.world.memory.blocks o v) (sym is)
      (content_value p c.world.memory.blocks k v fits, content_leads p (blocks.count c.world.memory.blocks) k v fits)

  -- a kind that is the result's is this one
  kind_same : {j k : CellKind} → Some k ≡ Some j → k ≡ j
  kind_same e = cc

  module _ (c : CoreWorld) (st : State) (cs : List Check) (e : t.Value) (k : CellKind) (is_result : s.result ≡ Some k) where
    abbrev used : Temporaries
    used = live (core.give cs (Some e)) (uses_of pt.outs) after

    abbrev u : Term
    u = term_of p s.variables (reading p s cells) e

    abbrev v : Value
    v = total p s.variables c.temps c.world e

    abbrev met : Check → Bool
    met = is_met p s.variables c.temps c.world e

    abbrev is : List Item
    is = word_of p s.variables (reading p s cells) e

    -- behind the value that stands in its places
    behind_put : (w : State) → StandsFor p s cells fr used c w → IsHeldAs k v (number_at (sizes p s) w result) (number_at (sizes p s) w result_offset)
        → is_content p (blocks.count c.world.memory.blocks) k v ≡ true → (n : ℕ)
        → BothWays (λ o. run.returns v c ≡ o) (EndsAt left_word n) olds n left_word w
    behind_put w stands held_so fits n =
        let fewer = slots_go_on p s cells fr used c w stands no_temporaries (λ j h. absurd (false≢true h)) w
        (record { size = stands.size; table = refl; same = λ a is_in counts but. refl; sorted = λ a is_in was. was }) in
        let r = temporaries_are_dropped m p s cells fr no_temporaries c w fewer olds (λ j. true) (λ j h k. false≢true k) in
        let there : IsHeldAs k v (number_at (sizes p s) r.state result) (number_at (sizes p s) r.state result_offset) =
        subst (λ d. IsHeldAs k v (number_in d) (number_at (sizes p s) r.state result_offset)) (sym r.is.1)
        (subst (λ d. IsHeldAs k v (number_at (sizes p s) w result) (number_in d)) (sym r.is.2) held_so) in
        behind_one_end p s cells fr os (uses_of pt.outs) after olds drop_word leave_word w r.state r.end n (run.returns v c)
        ((exits_run m q s cells texts contract others setting here pt olds fr os placed after (n + count drop_word) c r.state).returned (places leave_word) v r.is.0
        (result_given c k v fits s.result is_result)
        (λ j same. subst (λ j. IsHeldAs j v (number_at (sizes p s) r.state result) (number_at (sizes p s) r.state result_offset)) (kind_same (sym is_result ∙ same)) there))

    -- the value is put into its places
    abbrev put_word : Option CellKind → Step
    put_word o = step.seq (word.result_set m p s cells texts contract others o u) left_word

    put_both : StandsFor p s cells fr used c st → HasValue m p s cells c st olds k u v → (o : Option CellKind) → o ≡ Some k → (n : ℕ)
        → BothWays (λ o. run.returns v c ≡ o) (EndsAt (put_word o) n) olds n (put_word o) st
    put_both stands has o same n =
        let r = results_are_set m p s cells fr used c st stands olds k u v (has.gives result refl) in
        subst (λ o. BothWays (λ o. run.returns v c ≡ o) (EndsAt (put_word o) n) olds n (put_word o) st) (sym same)
        (behind_one_end p s cells fr os (uses_of pt.outs) after olds (word.result_set m p s cells texts contract others (Some k) u) left_word st r.state r.end n (run.returns v c)
        (behind_put r.state r.is.0 r.is.1.is has.fits (n + count (word.result_set m p s cells texts contract others (Some k) u))))

    pub give_both : ValueFits p s cells pt.stands.in_scope used e k → cs ≡ checks_of s.variables e → (n : ℕ)
        → SingleRuns m q s cells texts contract others here pt olds fr os after n c st (core.give cs (Some e))
    give_both fits same n stands =
        let ev = expressions_evaluate m p s cells setting fr placed.lives used c st stands olds e k (fits_there used e k fits) in
        let listed = ev.checks ∙ sym same in
        let both = items_run_well m p s cells fr os (uses_of pt.outs) after (sizes p s) olds st met is fits.items ev.says cs listed n (put_word s.result) (run.returns v c)
        (λ asks. put_both stands (ev.value (subst (λ cs. list_all met cs ≡ true) same (asks_all asks))) s.result is_result (n + count (items_step m (sizes p s) is))) in
        record {
          forth = λ o h. both.forth o ((singles_are_runs q s.variables here (core.give cs (Some e)) c o refl).is h);
          back = λ e' h. let x = both.back e' h in (x.0, (singles_are_runs q s.variables here (core.give cs (Some e)) c x.0 refl).runs x.1, x.2);
        }

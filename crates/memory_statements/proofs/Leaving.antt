-- Exits and returns: the scopes that are left end, and then the word leaves.
use Rattle.std.proofs.Common.{◌≡◌, ◌⊎◌, ℕ, true, zero, suc, ◌+◌, ◌<◌, ℤ, List, [], ◌∷◌, ◌++◌, length, Some, None, refl, sym, ap, ◌∙◌, subst, inl, inr}
use Rattle.wp_base.specs.declared.kinds.CellKind.{CellKind}
use Rattle.wp_base.specs.Blocks.{Table}
use Rattle.qed_terms.specs.Meaning as sense
use Rattle.c_runs.specs.Told.{Value}
use Rattle.c_runs.specs.Calls.{nought}
use Rattle.c_runs.specs.Program.{Contract, Facts, Program}
use Rattle.c_runs.specs.States.{Here}
use Rattle.c_runs.specs.CoreRun as run
use Rattle.c_runs.specs.CoreRun.{CoreWorld, Ending}
use Rattle.c_runs.specs.Tree as core
use Rattle.c_runs.specs.Tree.{Steps}
use Rattle.c_runs.specs.CheckedRun as exec
use Rattle.goal_segments.specs.Segments as segs
use Rattle.goal_segments.specs.Segments.{IsResult, is_single, no_deeper}
use Rattle.walk_steps.specs.Forms.{Place as CheckPlace}
use Rattle.program_steps.specs.Temporaries.{Temporaries, no_temporaries, out_at}
use Rattle.memory_steps.specs.State.{State}
use Rattle.memory_steps.specs.Step as step
use Rattle.memory_steps.specs.Step.{Step, places, count as checks_in}
use Rattle.memory_steps.specs.Run.{End, goes_on, leaves, IsOver, Seg}
use Rattle.memory_steps.specs.Run as seg
use Rattle.memory_steps.proofs.Readings.{seq_ways, exit_way}
use Rattle.memory_words.specs.Places.{result, result_offset, number_in, number_at}
use Rattle.memory_words.specs.Shapes.{FileCells, Shape, sizes}
use Rattle.memory_words.specs.Readings.{InScope, Texts}
use Rattle.memory_words.specs.Standing.{IsHeldAs, Frame, StandsFor}
use Rattle.memory_words.specs.Seen.{InSetting}
use Rattle.memory_words.proofs.Files.{held_same}
use Rattle.memory_words.specs.Points.{Open, Out, Point, uses_of, left_by, all_open}
use Rattle.memory_words.specs.Words as word
use Rattle.memory_words.specs.Words.{Others, all_end}
use Rattle.memory_words.specs.Placed.{Opening, Openings, left_of, all_of, table_behind, AreOpen, AllOpen, Placed, Ends, BothWays}
use Rattle.memory_statements.specs.Scopes.{GoesTo, EndedAs}
use Rattle.memory_statements.specs.ScopeLaws.{ExitsRunBoth}
use Rattle.memory_words.proofs.Singles.{singles_are_runs}
use Rattle.memory_statements.proofs.Ending.{goes_parts, all_scopes_end}

-- ---- the scopes that are left

module _ (p : Facts) (s : Shape) (cells : FileCells) (olds : List State) (i : InScope) (homes : ℕ → ℤ) where
  both_open : (t : Table) (os os' : List Open) (qs qs' : List Opening) → AreOpen p s cells olds i homes t os qs → AreOpen p s cells olds i homes (table_behind t qs) os' qs'
      → AreOpen p s cells olds i homes t (os ++ os') (qs ++ qs')
  both_open t [] os' [] qs' h k = k
  both_open t [] os' (q ∷ qs) qs' h k = absurd h
  both_open t (o ∷ os) os' [] qs' h k = absurd h
  both_open t (o ∷ os) os' (q ∷ qs) qs' h k = (h.0, both_open q.around os os' qs qs' h.1 k)

  pub left_open : (k : ℕ) (t : Table) (here : List Open) (outs : List Out) (qs : List Opening) (qss : List (List Opening)) → AreOpen p s cells olds i homes t here qs
      → AllOpen p s cells olds i homes (table_behind t qs) outs qss → AreOpen p s cells olds i homes t (left_by k here outs) (left_of k qs qss)
  left_open zero t here outs qs qss h k = h
  left_open (suc n) t here [] qs [] h k = h
  left_open (suc n) t here [] qs (r ∷ qss) h k = absurd k
  left_open (suc n) t here (o ∷ outs) qs [] h k = absurd k
  left_open (suc n) t here (o ∷ outs) qs (r ∷ qss) h k =
      both_open t here (left_by n o.scopes outs) qs (left_of n r qss) h (left_open n (table_behind t qs) o.scopes outs r qss k.0 k.1)

  pub all_left_open : (t : Table) (here : List Open) (outs : List Out) (qs : List Opening) (qss : List (List Opening)) → AreOpen p s cells olds i homes t here qs
      → AllOpen p s cells olds i homes (table_behind t qs) outs qss → AreOpen p s cells olds i homes t (all_open here outs) (all_of qs qss)
  all_left_open t here [] qs [] h k = h
  all_left_open t here [] qs (r ∷ qss) h k = absurd k
  all_left_open t here (o ∷ outs) qs [] h k = absurd k
  all_left_open t here (o ∷ outs) qs (r ∷ qss) h k =
      both_open t here (all_open o.scopes outs) qs (all_of r qss) h (all_left_open (table_behind t qs) o.scopes outs r qss k.0 k.1)

uses_length : (os : List Out) → length os ≡ length (uses_of os)
uses_length [] = refl
uses_length (o ∷ os) = ap suc (uses_length os)

-- ---- what leaves behind a word that goes on

leave_both : (olds : List State) (a : Step) (k n : ℕ) (st : State) (so : State → Type 0) (ends : Ending → End → Type 0) (o : Ending) → GoesTo olds a st so
    → ((new : State) → so new → ends o (leaves k new)) → BothWays (λ u. o ≡ u) ends olds n (step.seq a (step.exit k)) st
leave_both olds a k n st so ends o goes end = record {
  forth = λ u e. let x = goes.forth n in (leaves k x.0, seg.goes_both x.1 seg.exits, subst (λ u. ends u (leaves k x.0)) e (end x.0 x.2));
  back = λ e r. (o, refl, by e (seq_ways r));
}
  where
    by : (e : End) → (IsOver e × Seg olds n a st e) ⊎ ((mid : State) × Seg olds n a st (goes_on mid) × Seg olds (n + checks_in a) (step.exit k) mid e) → ends o e
    by e (inl (over, r)) = absurd (subst IsOver (sym (goes.back n e r).1) over)
    by e (inr (mid, r, l)) = let x = goes.back n (goes_on mid) r in subst (ends o) (exit_way l) (end mid (subst so (goes_parts x.1) x.2))

none_some : {X : Type 0} {x : X} → None ≡ Some x → ⊥
none_some e = cc

module _ (m : sense.World) (q : Program Steps) (s : Shape) (cells : FileCells) (texts : Texts) (contract : Contract) (others : Others) (setting : InSetting m q.facts s cells)
    (here : Here) (pt : Point) (olds : List State) (fr : Frame) (os : Openings) (placed : Placed m q.facts s cells texts contract pt here olds fr os) (after : Temporaries) (n : ℕ)
    (c : CoreWorld) (st : State) where
  exit_both : (k : ℕ) → k < length pt.outs → (ps : List CheckPlace) → StandsFor q.facts s cells fr (out_at (uses_of pt.outs) k) c st
      → BothWays (λ o. run.exits k c ≡ o) (Ends q.facts s cells fr os (uses_of pt.outs) after ps n) olds n
      (step.seq (all_end m q.facts s cells (left_by k pt.scopes pt.outs)) (step.exit k)) st
  exit_both k l ps stands =
      let out = left_of k os.here os.outs in
      leave_both olds (all_end m q.facts s cells (left_by k pt.scopes pt.outs)) k n st (EndedAs q.facts s cells fr (out_at (uses_of pt.outs) k) out c st)
      (Ends q.facts s cells fr os (uses_of pt.outs) after ps n) (run.exits k c)
      (all_scopes_end m q.facts s cells setting olds fr (out_at (uses_of pt.outs) k) (left_by k pt.scopes pt.outs) out
      (left_open q.facts s cells olds fr.in_scope fr.homes k fr.table pt.scopes pt.outs os.here os.outs placed.opened placed.outs) c st stands)
      (λ new ended. (refl, subst (λ j. k < j) (uses_length pt.outs) l, ended.stands))

  return_both : (ps : List CheckPlace) (v : Value) → StandsFor q.facts s cells fr no_temporaries c st → IsResult q.facts c.world.memory.blocks s.result v
      → ((k : CellKind) → s.result ≡ Some k → IsHeldAs k v (number_at (sizes q.facts s) st result) (number_at (sizes q.facts s) st result_offset))
      → BothWays (λ o. run.returns v c ≡ o) (Ends q.facts s cells fr os (uses_of pt.outs) after ps n) olds n (word.leave_all m q.facts s cells texts contract others pt) st
  return_both ps v stands given slot =
      let out = all_of os.here os.outs in
      leave_both olds (all_end m q.facts s cells (all_open pt.scopes pt.outs)) (length pt.outs) n st (EndedAs q.facts s cells fr no_temporaries out c st)
      (Ends q.facts s cells fr os (uses_of pt.outs) after ps n) (run.returns v c)
      (all_scopes_end m q.facts s cells setting olds fr no_temporaries (all_open pt.scopes pt.outs) out
      (all_left_open q.facts s cells olds fr.in_scope fr.homes fr.table pt.scopes pt.outs os.here os.outs placed.opened placed.outs) c st stands)
      (λ new ended. (
        uses_length pt.outs,
        record {
          stands = ended.stands;
          given = given;
          slot = λ k e. held_same k v (number_at (sizes q.facts s) st result) (number_at (sizes q.facts s) st result_offset) (number_at (sizes q.facts s) new result)
              (number_at (sizes q.facts s) new result_offset) (ap number_in ended.result) (ap number_in ended.offset) (slot k e);
        },
      ))

  single_both : (a : core.Step) → is_single a ≡ true → (ends : Ending → End → Type 0) (b : Step) (u : Ending) → exec.exec q no_deeper s.variables here a c ≡ u
      → BothWays (λ o. u ≡ o) ends olds n b st → BothWays (segs.Seg q s.variables here a c) ends olds n b st
  single_both a single ends b u does both = record {
    forth = λ o r. both.forth o (sym does ∙ (singles_are_runs q s.variables here a c o single).is r);
    back = λ e r. let x = both.back e r in (x.0, (singles_are_runs q s.variables here a c x.0 single).runs (does ∙ x.1), x.2);
  }

pub exits_run : ExitsRunBoth
exits_run m q s cells texts contract others setting here pt olds fr os placed after n c st = record {
  exit = λ k l stands.
      single_both m q s cells texts contract others setting here pt olds fr os placed after n c st (core.exit k) refl
      (Ends q.facts s cells fr os (uses_of pt.outs) after (places (word.step m q.facts s cells texts contract others pt (core.exit k) after)) n)
      (word.step m q.facts s cells texts contract others pt (core.exit k) after) (run.exits k c) refl
      (exit_both m q s cells texts contract others setting here pt olds fr os placed after n c st k l
      (places (word.step m q.facts s cells texts contract others pt (core.exit k) after)) stands);
  give = λ cs none stands.
      single_both m q s cells texts contract others setting here pt olds fr os placed after n c st (core.give cs None) refl
      (Ends q.facts s cells fr os (uses_of pt.outs) after (places (word.step m q.facts s cells texts contract others pt (core.give cs None) after)) n)
      (word.step m q.facts s cells texts contract others pt (core.give cs None) after) (run.returns nought c) refl
      (return_both m q s cells texts contract others setting here pt olds fr os placed after n c st
      (places (word.step m q.facts s cells texts contract others pt (core.give cs None) after)) nought stands
      (subst (λ o. IsResult q.facts c.world.memory.blocks o nought) (sym none) refl) (λ k e. absurd (none_some (sym none ∙ e))));
  returned = λ ps v stands given slot. return_both m q s cells texts contract others setting here pt olds fr os placed after n c st ps v stands given slot;
}

-- Statements and their words, put together; what loops and calls do is given.
use Rattle.std.proofs.Common.{◌≡◌, ◌<◌, ◌⊎◌, ℕ, zero, suc, ◌+◌, Bool, true, false, ◌||◌, List, [], ◌∷◌, map, Option, Some, None, refl, sym, ap, ◌∙◌, subst, inl, inr}
use Rattle.std.specs.Prelude.{slice_get}
use Rattle.std.specs.List.{list_all}
use Rattle.std.proofs.lemmas.Bool.{false≢true}
use Rattle.wp_base.specs.declared.kinds.CellKind.{CellKind}
use Rattle.typed_prog.specs.declared.types.CoreType.{CoreType}
use Rattle.typed_prog.specs.declared.operators.Path.{Path}
use Rattle.typed_prog.specs.Tree as t
use Rattle.qed_terms.specs.Meaning as sense
use Rattle.c_runs.specs.Program.{Variable, Contract, Facts, Program}
use Rattle.c_runs.specs.States.{Here}
use Rattle.c_runs.specs.Objects.{cell_of}
use Rattle.c_runs.specs.CoreRun as run
use Rattle.c_runs.specs.CoreRun.{CoreWorld, Ending, block_end}
use Rattle.c_runs.specs.Checks.{Check, checks_of}
use Rattle.c_runs.specs.Tree as core
use Rattle.c_runs.specs.Tree.{Steps}
use Rattle.run_blocks.specs.Ends.{is_short}
use Rattle.goal_segments.specs.RunSegments.{BlockEnds, Leaves}
use Rattle.goal_segments.specs.Segments as segs
use Rattle.goal_segments.proofs.Following.{block_ends}
use Rattle.value_terms.specs.Terms.{terms_of}
use Rattle.goal_segments.specs.Told.{temps}
use Rattle.program_steps.specs.Temporaries.{Temporaries, no_temporaries, live, all_live}
use Rattle.memory_steps.specs.State.{State}
use Rattle.memory_steps.specs.Step.{Step, places, count}
use Rattle.memory_steps.specs.Step as step
use Rattle.memory_steps.specs.Run.{End, goes_on, out, IsOver, Seg}
use Rattle.memory_steps.specs.Run as seg
use Rattle.memory_steps.proofs.Readings.{seq_ways, block_way}
use Rattle.memory_words.specs.Shapes.{FileCells, Shape, kind_of}
use Rattle.memory_words.specs.Readings.{Texts, reading}
use Rattle.memory_words.specs.Standing.{Frame, StandsFor}
use Rattle.memory_words.specs.Seen.{InSetting, ValueFits}
use Rattle.memory_words.specs.Points.{Point, Out, in_block, deeper_out, uses_of}
use Rattle.memory_words.specs.Words as word
use Rattle.memory_words.specs.Words.{Others, in_pass, rest_of}
use Rattle.memory_words.specs.Typed.{OtherFits, WordFits, AllFit, LeadsTo, to_local, to_global, to_cell, StoreFits, Takes}
use Rattle.memory_words.specs.Placed.{Openings, Placed, Ends, BothWays}
use Rattle.memory_words.specs.Others.{OthersRun}
use Rattle.memory_words.specs.PutLaws.{SingleRuns, AllStepsRun}
use Rattle.memory_words.proofs.PutListing.{comes, fails_first, fails_second}
use Rattle.memory_words.proofs.Singles.{singles_run}
use Rattle.memory_words.proofs.Branches.{branches_run, behind_dropped}
use Rattle.memory_statements.proofs.StoreStatements.{stores_to_cells_run, starts_of_blocks_run}
use Rattle.memory_statements.specs.StatementLaws.{StatementsRun}
use Rattle.memory_statements.proofs.Leaving.{exits_run}
use Rattle.memory_statements.proofs.WithBlocks.{scopes_run}
use Rattle.memory_statements.proofs.Ends.{around_block, ends_more, over_ends, over_leaves, ends_else, goes_from, goes_to, block_out}
use Rattle.memory_statements.proofs.Givings.{give_both}

-- ---- segment runs of statements by what they do

module _ (q : Program Steps) (xs : List Variable) (here : Here) where
  pub block_ways : (ss : Steps) (c : CoreWorld) (u : Ending) → segs.Seg q xs here (core.around ss) c u → (o : Ending) × segs.AllSeg q xs here ss c o × BlockEnds o u
  block_ways ss c u (segs.single is h) = absurd (false≢true is)
  block_ways ss c u (segs.blocks {o = o} h ends) = (o, h, ends)

  pub all_ways : (a : core.Step) (ss : Steps) (c : CoreWorld) (o : Ending) → segs.AllSeg q xs here (core.then_ a ss) c o
      → ((d : CoreWorld) × segs.Seg q xs here a c (run.goes_on d) × segs.AllSeg q xs here ss d o) ⊎ (segs.Seg q xs here a c o × Leaves o)
  all_ways a ss c o (segs.goes {d = d} h k) = inl (d, h, k)
  all_ways a ss c o (segs.stays h l) = inr (h, l)

  pub none_left : (c : CoreWorld) (o : Ending) → segs.AllSeg q xs here core.end c o → run.goes_on c ≡ o
  none_left c _ segs.none = refl

skip_way : {olds : List State} {n : ℕ} {st : State} (e : End) → Seg olds n step.skip st e → goes_on st ≡ e
skip_way _ seg.skips = refl

-- what is used behind the blocks around a pass is used behind those around the loop
uses_deeper : (os : List Out) → uses_of (map deeper_out os) ≡ uses_of os
uses_deeper [] = refl
uses_deeper (o ∷ os) = ap (λ fs. o.uses ∷ fs) (uses_deeper os)

module _ (m : sense.World) (q : Program Steps) (s : Shape) (cells : FileCells) (texts : Texts) (contract : Contract) (others : Others) (asked : OtherFits)
    (run_so : OthersRun m q s cells texts contract others asked) (setting : InSetting m q.facts s cells) (short : list_all (is_short q.facts) s.variables ≡ true) where
  abbrev p : Facts
  p = q.facts

  abbrev step_word : Point → core.Step → Temporaries → Step
  step_word pt a f = word.step m p s cells texts contract others pt a f

  abbrev steps_word : Point → Steps → Temporaries → Step
  steps_word pt ss f = word.steps m p s cells texts contract others pt ss f

  abbrev PlacedAt : Point → Here → List State → Frame → Openings → Type 0
  PlacedAt pt here olds fr os = Placed m p s cells texts contract pt here olds fr os

  abbrev Both : Here → Point → List State → Frame → Openings → Temporaries → ℕ → CoreWorld → State → core.Step → Type 0
  Both here pt olds fr os f n c st a =
      BothWays (segs.Seg q s.variables here a c) (Ends p s cells fr os (uses_of pt.outs) f (places (step_word pt a f)) n) olds n (step_word pt a f) st

  abbrev AllBoth : Here → Point → List State → Frame → Openings → Temporaries → ℕ → CoreWorld → State → Steps → Type 0
  AllBoth here pt olds fr os f n c st ss =
      BothWays (segs.AllSeg q s.variables here ss c) (Ends p s cells fr os (uses_of pt.outs) f (places (steps_word pt ss f)) n) olds n (steps_word pt ss f) st

  -- ---- blocks

  -- scopes that are open directly around a block are the innermost ones of those that are left with it
  pub placed_in : (here : Here) (pt : Point) (olds : List State) (fr : Frame) (os : Openings) (f : Temporaries) → PlacedAt pt here olds fr os
      → PlacedAt (in_block f pt) here olds fr (around_block os)
  placed_in here pt olds fr os f placed = record {
    present = placed.present;
    scope = placed.scope;
    lives = placed.lives;
    entry_there = placed.entry_there;
    entry = placed.entry;
    loop_entry = placed.loop_entry;
    locals = placed.locals;
    globals = placed.globals;
    written = placed.written;
    since_entry = placed.since_entry;
    since_force = placed.since_force;
    opened = tt;
    outs = (placed.opened, placed.outs);
    carried = record { function = placed.carried.function; measure = placed.carried.measure; granted = placed.carried.granted };
  }

  module _ (here : Here) (pt : Point) (olds : List State) (fr : Frame) (os : Openings) (f : Temporaries) (n : ℕ) (c : CoreWorld) (st : State) where
    around_both : (ss : Steps) → AllBoth here (in_block f pt) olds fr (around_block os) f n c st ss → Both here pt olds fr os f n c st (core.around ss)
    around_both ss both = record { forth = λ u h. forth u (block_ways q s.variables here ss c u h); back = λ e k. back e (block_way k) } where
      forth : (u : Ending) → ((o : Ending) × segs.AllSeg q s.variables here ss c o × BlockEnds o u)
          → (e : End) × Seg olds n (step_word pt (core.around ss) f) st e
          × Ends p s cells fr os (uses_of pt.outs) f (places (step_word pt (core.around ss) f)) n u e
      forth u (o, h, ends) =
          let x = both.forth o h in
          (out x.0, seg.blocks x.1, block_out p s cells fr os (uses_of pt.outs) f (places (steps_word (in_block f pt) ss f)) n o u x.0 ends x.2)

      back : (e : End) → ((x : End) × Seg olds n (steps_word (in_block f pt) ss f) st x × (out x ≡ e))
          → (o : Ending) × segs.Seg q s.variables here (core.around ss) c o
          × Ends p s cells fr os (uses_of pt.outs) f (places (step_word pt (core.around ss) f)) n o e
      back e (x, k, same) =
          let y = both.back x k in (
            block_end y.0,
            segs.blocks y.1 (block_ends y.0),
            subst (Ends p s cells fr os (uses_of pt.outs) f (places (step_word pt (core.around ss) f)) n (block_end y.0)) same
                (block_out p s cells fr os (uses_of pt.outs) f (places (steps_word (in_block f pt) ss f)) n y.0 (block_end y.0) x (block_ends y.0) y.2),
          )

    -- ---- one statement after the other

    module _ (a : core.Step) (ss : Steps) (first : Both here pt olds fr os (all_live ss (uses_of pt.outs) f) n c st a)
        (for_rest : (n' : ℕ) (d : CoreWorld) (st' : State) → StandsFor p s cells fr (all_live ss (uses_of pt.outs) f) d st' → AllBoth here pt olds fr os f n' d st' ss) where
      abbrev used_then : Temporaries
      used_then = all_live ss (uses_of pt.outs) f

      abbrev word_one : Step
      word_one = step_word pt a used_then

      abbrev before : Temporaries
      before n = live a (uses_of pt.outs) used_then n || temps a n

      abbrev drop_word : Step
      drop_word = word.dropped m p s cells texts contract others before used_then

      abbrev rest_word : Step
      rest_word = step.seq drop_word (steps_word pt ss f)

      abbrev all_word : Step
      all_word = step.seq word_one rest_word

      abbrev EndsIn : Temporaries → Step → ℕ → Ending → End → Type 0
      EndsIn g b n o e = Ends p s cells fr os (uses_of pt.outs) g (places b) n o e

      rest_both : (n' : ℕ) (d : CoreWorld) (st' : State) → StandsFor p s cells fr used_then d st'
          → BothWays (segs.AllSeg q s.variables here ss d) (EndsIn f rest_word n') olds n' rest_word st'
      rest_both n' d st' stands =
          behind_dropped m q s cells texts contract others here pt olds fr os before used_then f n' d st' ss stands
          (λ st' stands. for_rest (n' + count drop_word) d st' stands)

      first_ends : (o : Ending) (e : End) → Leaves o → EndsIn used_then word_one n o e → EndsIn f all_word n o e
      first_ends o e l h = ends_more p s cells fr os (uses_of pt.outs) f (places word_one) (places all_word) n n (λ j x. fails_first word_one rest_word n j x) o e
          (ends_else p s cells fr os (uses_of pt.outs) used_then f (places word_one) n o e l h)

      later_ends : (mid : State) → Seg olds n word_one st (goes_on mid) → (o : Ending) (e : End) → EndsIn f rest_word (n + count word_one) o e → EndsIn f all_word n o e
      later_ends mid k o e h = ends_more p s cells fr os (uses_of pt.outs) f (places rest_word) (places all_word) (n + count word_one) n
          (λ j x. fails_second word_one rest_word n j x (comes k)) o e h

      then_both : AllBoth here pt olds fr os f n c st (core.then_ a ss)
      then_both = record { forth = λ o h. forth o (all_ways q s.variables here a ss c o h); back = λ e k. back e (seq_ways k) } where
        forth : (o : Ending) → ((d : CoreWorld) × segs.Seg q s.variables here a c (run.goes_on d) × segs.AllSeg q s.variables here ss d o)
            ⊎ (segs.Seg q s.variables here a c o × Leaves o) → (e : End) × Seg olds n all_word st e × EndsIn f all_word n o e
        forth o (inl (d, h, k)) =
            let x = first.forth (run.goes_on d) h in
            let g = goes_to p s cells fr os (uses_of pt.outs) used_then (places word_one) n d x.0 x.2 in
            let one = subst (Seg olds n word_one st) (sym g.is) x.1 in
            let y = (rest_both (n + count word_one) d g.state g.stands).forth o k in
            (y.0, seg.goes_both one y.1, later_ends g.state one o y.0 y.2)
        forth o (inr (h, l)) =
            let x = first.forth o h in
            (x.0, seg.ends_first x.1 (over_ends p s cells fr os (uses_of pt.outs) used_then (places word_one) n o x.0 l x.2), first_ends o x.0 l x.2)

        back : (e : End) → (IsOver e × Seg olds n word_one st e) ⊎ ((mid : State) × Seg olds n word_one st (goes_on mid) × Seg olds (n + count word_one) rest_word mid e)
            → (o : Ending) × segs.AllSeg q s.variables here (core.then_ a ss) c o × EndsIn f all_word n o e
        back e (inl (over, k)) =
            let x = first.back e k in
            let l = over_leaves p s cells fr os (uses_of pt.outs) used_then (places word_one) n x.0 e over x.2 in
            (x.0, segs.stays x.1 l, first_ends x.0 e l x.2)
        back e (inr (mid, k, l)) =
            let x = first.back (goes_on mid) k in
            let g = goes_from p s cells fr os (uses_of pt.outs) used_then (places word_one) n x.0 mid x.2 in
            let y = (rest_both (n + count word_one) g.world mid g.stands).back e l in
            (y.0, segs.goes (subst (segs.Seg q s.variables here a c) (sym g.is) x.1) y.1, later_ends mid k y.0 e y.2)

    end_both : StandsFor p s cells fr f c st → AllBoth here pt olds fr os f n c st core.end
    end_both stands = record {
      forth = λ o h. (goes_on st, seg.skips, subst (λ o. Ends p s cells fr os (uses_of pt.outs) f [] n o (goes_on st)) (none_left q s.variables here c o h) stands);
      back = λ e k. (run.goes_on c, segs.none, subst (Ends p s cells fr os (uses_of pt.outs) f [] n (run.goes_on c)) (skip_way e k) stands);
    }

    -- ---- stores and first values, by where they lead

    module _ (placed : PlacedAt pt here olds fr os) where
      store_both : (cs : List Check) (type : CoreType) (l : ℕ) (path : Path) (es : t.Values)
          → StoreFits p s cells pt.stands.in_scope (live (core.store cs type l path es) (uses_of pt.outs) f) cs type path es
          → LeadsTo p s cells pt.stands.in_scope (live (core.store cs type l path es) (uses_of pt.outs) f) type path (rest_of (terms_of p s.variables (reading p s cells) es))
          → StandsFor p s cells fr (live (core.store cs type l path es) (uses_of pt.outs) f) c st → Both here pt olds fr os f n c st (core.store cs type l path es)
      store_both cs type l path es fits (to_local x v root steps found plain kind scoped) stands =
          (singles_run m q s cells texts contract others setting here pt olds fr os placed f n c st).store_to_local cs type l path es fits x v root found plain kind scoped stands
      store_both cs type l path es fits (to_global x v root steps found plain kind) stands =
          (singles_run m q s cells texts contract others setting here pt olds fr os placed f n c st).store_to_global cs type l path es fits x v root steps found plain kind stands
      store_both cs type l path es fits (to_cell no_local no_global blocks kind typed items address) stands =
          stores_to_cells_run m q s cells texts contract others pt f cs type l path es fits no_local no_global setting here olds fr os placed n c st stands

      start_both : (cs : List Check) (x : ℕ) (e : t.Value) (k : CellKind) (takes : Takes s cells pt.stands.in_scope x k)
          → ValueFits p s cells pt.stands.in_scope (live (core.start cs x e) (uses_of pt.outs) f) e k → cs ≡ checks_of s.variables e
          → StandsFor p s cells fr (live (core.start cs x e) (uses_of pt.outs) f) c st → (plain : Bool) → takes.variable.is_plain ≡ plain
          → Both here pt olds fr os f n c st (core.start cs x e)
      start_both cs x e k takes fits same stands true plain =
          (singles_run m q s cells texts contract others setting here pt olds fr os placed f n c st).start cs x e k takes.variable takes.found plain takes.scoped takes.kind fits same stands
      start_both cs x e k takes fits same stands false block =
          starts_of_blocks_run m q s cells texts contract others pt f cs x e k takes block fits same setting here olds fr os placed n c st stands

  -- ---- all statements

  -- a loop's pass, whose blocks around are used behind as the loop's are
  in_turn : (l : _) (here : Here) (pt : Point) (olds : List State) (fr : Frame) (os : Openings) (n : ℕ) (c : CoreWorld) (st : State) (ss : Steps)
      → (StandsFor p s cells fr (all_live ss (uses_of (in_pass l pt).outs) no_temporaries) c st → AllBoth here (in_pass l pt) olds fr os no_temporaries n c st ss)
      → StandsFor p s cells fr (all_live ss (uses_of pt.outs) no_temporaries) c st
      → BothWays (segs.AllSeg q s.variables here ss c) (Ends p s cells fr os (uses_of pt.outs) no_temporaries (places (steps_word (in_pass l pt) ss no_temporaries)) n) olds n
      (steps_word (in_pass l pt) ss no_temporaries) st
  in_turn l here pt olds fr os n c st ss both =
      subst (λ outs. StandsFor p s cells fr (all_live ss outs no_temporaries) c st
      → BothWays (segs.AllSeg q s.variables here ss c) (Ends p s cells fr os outs no_temporaries (places (steps_word (in_pass l pt) ss no_temporaries)) n) olds n
      (steps_word (in_pass l pt) ss no_temporaries) st)
      (uses_deeper (map deeper_out pt.outs) ∙ uses_deeper pt.outs) both

  mutual
    pub step_both : (a : core.Step) (here : Here) (pt : Point) (olds : List State) (fr : Frame) (os : Openings) → PlacedAt pt here olds fr os
        → (f : Temporaries) (n : ℕ) (c : CoreWorld) (st : State) → WordFits m p s cells texts asked pt f a → StandsFor p s cells fr (live a (uses_of pt.outs) f) c st
        → Both here pt olds fr os f n c st a
    step_both (core.set cs k e) here pt olds fr os placed f n c st fits stands =
        (singles_run m q s cells texts contract others setting here pt olds fr os placed f n c st).set cs k e fits.0 fits.1 fits.2 stands
    step_both (core.store cs type l path es) here pt olds fr os placed f n c st fits stands =
        store_both here pt olds fr os f n c st placed cs type l path es fits fits.way stands
    step_both (core.start cs x e) here pt olds fr os placed f n c st fits stands =
        start_both here pt olds fr os f n c st placed cs x e fits.0 fits.1 fits.2 fits.3 stands fits.1.variable.is_plain refl
    step_both (core.call cs to k l es) here pt olds fr os placed f n c st fits stands =
        run_so.call setting here pt olds fr os placed f cs to k l es fits n c st stands
    step_both (core.branch cs e a b) here pt olds fr os placed f n c st fits stands =
        (branches_run m q s cells texts contract others setting here pt olds fr os placed f n c st cs e fits.0 a b).runs fits.1 fits.2
        (λ n' st' h. all_both a here pt olds fr os placed f n' c st' fits.3 h) (λ n' st' h. all_both b here pt olds fr os placed f n' c st' fits.4 h) stands
    step_both (core.repeat l ss) here pt olds fr os placed f n c st fits stands =
        run_so.loop setting here pt olds fr os placed f l ss fits.0 (steps_word (in_pass l pt) ss no_temporaries)
        (λ here olds fr placed n c st h. in_turn l here pt olds fr os n c st ss (λ h. all_both ss here (in_pass l pt) olds fr os placed no_temporaries n c st fits.1 h) h)
        n c st stands
    step_both (core.around ss) here pt olds fr os placed f n c st fits stands =
        around_both here pt olds fr os f n c st ss
        (all_both ss here (in_block f pt) olds fr (around_block os) (placed_in here pt olds fr os f placed) f n c st fits stands)
    step_both (core.exit k) here pt olds fr os placed f n c st fits stands =
        (exits_run m q s cells texts contract others setting here pt olds fr os placed f n c st).exit k fits stands
    step_both (core.give cs None) here pt olds fr os placed f n c st fits stands =
        (exits_run m q s cells texts contract others setting here pt olds fr os placed f n c st).give cs fits stands
    step_both (core.give cs (Some e)) here pt olds fr os placed f n c st fits stands =
        give_both m q s cells texts contract others setting here pt olds fr os placed f c st cs e fits.0 fits.1 fits.2 fits.3 n stands
    step_both (core.claim a) here pt olds fr os placed f n c st fits stands =
        (singles_run m q s cells texts contract others setting here pt olds fr os placed f n c st).claim a fits stands
    step_both (core.scope ys ss) here pt olds fr os placed f n c st fits stands =
        scopes_run m q s cells texts contract others setting short here pt olds fr os placed ys ss fits.0 f
        (λ olds fr os placed n c st h. all_both ss here _ olds fr os placed f n c st fits.1 h) n c st stands

    pub all_both : (ss : Steps) (here : Here) (pt : Point) (olds : List State) (fr : Frame) (os : Openings) → PlacedAt pt here olds fr os
        → (f : Temporaries) (n : ℕ) (c : CoreWorld) (st : State) → AllFit m p s cells texts asked pt f ss → StandsFor p s cells fr (all_live ss (uses_of pt.outs) f) c st
        → AllBoth here pt olds fr os f n c st ss
    all_both core.end here pt olds fr os placed f n c st fits stands = end_both here pt olds fr os f n c st stands
    all_both (core.then_ a ss) here pt olds fr os placed f n c st fits stands =
        then_both here pt olds fr os f n c st a ss (step_both a here pt olds fr os placed (all_live ss (uses_of pt.outs) f) n c st fits.0 stands)
        (λ n' d st' h. all_both ss here pt olds fr os placed f n' d st' fits.1 h)

pub statements_run : (asked : OtherFits) → StatementsRun asked
statements_run asked m q s cells texts contract others runs setting short here pt olds fr os placed after ss fits n c st stands =
    all_both m q s cells texts contract others asked runs setting short ss here pt olds fr os placed after n c st fits stands

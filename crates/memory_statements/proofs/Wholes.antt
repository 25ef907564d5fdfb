-- A scope as a whole: its variables are made, its statements went, and its blocks end.
use Rattle.std.proofs.Common.{◌≡◌, ◌⊎◌, ℕ, ◌+◌, true, false, List, [], ◌∷◌, map, refl, sym, ap, ◌∙◌, subst, inl, inr}
use Rattle.std.specs.List.{list_all}
use Rattle.qed_terms.specs.Meaning as sense
use Rattle.c_runs.specs.Program.{Contract, Facts, Program}
use Rattle.c_runs.specs.States.{Memory, World, Here}
use Rattle.c_runs.specs.Scopes.{ended_since}
use Rattle.c_runs.specs.CoreRun as run
use Rattle.c_runs.specs.CoreRun.{CoreWorld, Ending, in_world, scope_end, scope_left}
use Rattle.c_runs.specs.Tree as core
use Rattle.c_runs.specs.Tree.{Steps}
use Rattle.goal_segments.specs.Told.{with_names}
use Rattle.goal_segments.specs.Segments as segs
use Rattle.goal_segments.specs.Segments.{Opened, SameBlocks}
use Rattle.typed_memories.specs.Changes.{StillThere}
use Rattle.run_blocks.specs.Ends.{StillAt, is_short}
use Rattle.run_blocks.proofs.Standing.{standing_blocks}
use Rattle.run_blocks.proofs.Good.{good_shaped}
use Rattle.program_steps.specs.Temporaries.{Temporaries, all_live}
use Rattle.memory_steps.specs.State.{State}
use Rattle.memory_steps.specs.Step as step
use Rattle.memory_steps.specs.Step.{Step, places, count as checks_in}
use Rattle.memory_steps.specs.Run.{End, goes_on, leaves, fails, IsOver, on_state, put_back, Seg}
use Rattle.memory_steps.specs.Run as seg
use Rattle.memory_steps.proofs.Readings.{seq_ways, scope_way}
use Rattle.memory_words.specs.Shapes.{FileCells, Shape, sizes}
use Rattle.memory_words.specs.Readings.{Texts}
use Rattle.memory_words.specs.Standing.{Frame, StandsFor}
use Rattle.memory_words.specs.Seen.{InSetting}
use Rattle.memory_words.specs.Points.{Open, Out, Point, deeper_out, uses_of, left_by, all_open}
use Rattle.memory_words.specs.Words as word
use Rattle.memory_words.specs.Words.{Others, has_home, home_kinds, own_kind, slots_of, in_scope_of, open_scope}
use Rattle.memory_words.specs.Typed.{Declares}
use Rattle.memory_words.specs.Placed.{Opening, Openings, left_of, all_of, ended_all, table_behind, lives_behind, AreOpen, FailsAs, Placed, Ends, BothWays}
use Rattle.memory_words.specs.PutLaws.{AllStepsRun}
use Rattle.memory_words.proofs.PutListing.{comes, fails_second}
use Rattle.memory_statements.specs.Scopes.{frame_inside, OpenedAs}
use Rattle.memory_statements.specs.ScopeLaws.{OpeningIs}
use Rattle.memory_statements.proofs.Ending.{goes_parts, more_through, nothing_ends}
use Rattle.memory_statements.proofs.Leaving.{left_open, all_left_open}
use Rattle.memory_statements.proofs.Opening.{openings_run}
use Rattle.memory_statements.proofs.Framing.{in_names, names_same, retabled}
use Rattle.memory_statements.proofs.Outside.{ends_once}
use Rattle.memory_statements.proofs.Remembering.{open_inside, all_inside, place_inside}
use Rattle.memory_statements.proofs.Scoping.{scope_ways, still_before, lives_in, Behind, leave_all, over_out}

uses_same : (os : List Out) → uses_of (map deeper_out os) ≡ uses_of os
uses_same [] = refl
uses_same (o ∷ os) = ap (λ l. o.uses ∷ l) (uses_same os)

module _ (m : sense.World) (q : Program Steps) (s : Shape) (cells : FileCells) (texts : Texts) (contract : Contract) (others : Others) (setting : InSetting m q.facts s cells)
    (short : list_all (is_short q.facts) s.variables ≡ true) (here : Here) (pt : Point) (olds : List State) (fr : Frame) (os : Openings)
    (placed : Placed m q.facts s cells texts contract pt here olds fr os) (ys : List ℕ) (ss : Steps) (declares : Declares s cells pt.stands.in_scope ys) (after : Temporaries)
    (n : ℕ) (c : CoreWorld) (st : State) (stands : StandsFor q.facts s cells fr (all_live ss (uses_of pt.outs) after) c st) where
  abbrev p : Facts
  p = q.facts

  abbrev f0 : Temporaries
  f0 = all_live ss (uses_of pt.outs) after

  abbrev old : Memory
  old = c.world.memory

  declared : Declares s cells fr.in_scope ys
  declared = subst (λ i. Declares s cells i ys) (sym (λ i x. placed.scope x i)) declares

  abbrev opening : Step
  opening = word.all_opened m p s cells ys

  abbrev slots : List ℕ
  slots = slots_of m (sizes p s) ys

  still_at : (u : World) → StillThere old.blocks u.memory.blocks → (o : Ending) → segs.AllSeg q s.variables here ss (in_world c u) o → StillAt old.blocks o
  still_at u there o h = still_before old.blocks u.memory.blocks o there ((standing_blocks q s.variables).all here ss (in_world c u) o h)

  -- ---- a scope without blocks

  module _ (none : has_home s.variables ys ≡ false)
      (inner : (olds : List State) (fr : Frame) (os : Openings) → Placed m p s cells texts contract (in_scope_of s cells false pt ys) here olds fr os → (n : ℕ) (c : CoreWorld) (st : State)
      → AllStepsRun m q s cells texts contract others here (in_scope_of s cells false pt ys) olds fr os after n c st ss) where
    abbrev body : Step
    body = word.steps m p s cells texts contract others (in_scope_of s cells false pt ys) ss after

    abbrev whole : Step
    whole = step.scope slots (step.seq opening body)

    module _ (u : World) (st1 : State) (opened : OpenedAs p s cells fr f0 ys c u st1) where
      abbrev fr1 : Frame
      fr1 = frame_inside fr ys fr.table opened.homes

      stands1 : StandsFor p s cells fr1 f0 (in_world c u) st1
      stands1 = retabled p s cells f0 (in_world c u) st1 (frame_inside fr ys u.memory.blocks opened.homes) (λ x h. h) opened.stands fr.table
          (subst (SameBlocks fr.table) (sym (opened.none none)) stands.blocks_are)

      placed1 : Placed m p s cells texts contract (in_scope_of s cells false pt ys) here olds fr1 os
      placed1 =
          place_inside m p s cells texts contract pt here olds fr os placed (with_names ys pt.stands.in_scope) pt.scopes fr1 os (names_same ys fr.in_scope pt.stands.in_scope placed.scope)
          (λ x h. h) (λ k has own t h. h)
          (open_inside p s cells olds fr.in_scope fr.homes fr1.in_scope fr1.homes (in_names ys fr.in_scope) opened.kept fr.table pt.scopes os.here placed.opened)
          (all_inside p s cells olds fr.in_scope fr.homes fr1.in_scope fr1.homes (in_names ys fr.in_scope) opened.kept (table_behind fr.table os.here) pt.outs os.outs placed.outs)

      inner_both : (k : ℕ) → BothWays (segs.AllSeg q s.variables here ss (in_world c u)) (Ends p s cells fr1 os (uses_of pt.outs) after (places body) k) olds k body st1
      inner_both k = inner olds fr1 os placed1 k (in_world c u) st1 stands1

      -- memories where the scopes around end
      again : (opens : List Open) (qs : List Opening) → AreOpen p s cells olds fr.in_scope fr.homes fr.table opens qs → (f : Temporaries) (d : CoreWorld) (st' : State)
          → StillThere old.blocks d.world.memory.blocks → Behind m p s cells ys fr declared c f0 st stands opened.homes opened.kept fr1 qs f d st'
          → ended_all qs (ended_since old d.world.memory) ≡ ended_all qs d.world.memory
      again opens [] are_open f d st' there h =
          nothing_ends old d.world.memory (good_shaped p d.world.memory h.good)
          (record { live = λ b. h.blocks_are.live b ∙ sym (stands.blocks_are.live b); more = there.more })
      again [] (r ∷ qs) are_open f d st' there h = absurd are_open
      again (o ∷ opens) (r ∷ qs) are_open f d st' there h =
          ap (ended_all qs) (ends_once r.before old d.world.memory (more_through r.before.blocks fr.table old.blocks are_open.0.blocks.more stands.blocks_are.more) there.more)

      behind_out : (opens : List Open) (qs : List Opening) → AreOpen p s cells olds fr.in_scope fr.homes fr.table opens qs → (f : Temporaries) (d : CoreWorld) (st' : State)
          → StillThere old.blocks d.world.memory.blocks → Behind m p s cells ys fr declared c f0 st stands opened.homes opened.kept fr1 qs f d st'
          → Behind m p s cells ys fr declared c f0 st stands opened.homes opened.kept fr qs f (scope_left old ys d) (put_back slots st st')
      behind_out opens qs are_open f d st' there h =
          leave_all m p s cells ys fr declared c f0 st stands opened.homes opened.kept qs qs fr.table (lives_behind fr1.lives qs)
          (λ x scoped. lives_in fr fr1.lives x (in_names ys fr.in_scope x scoped) qs) f d st' (again opens qs are_open f d st' there h) h

      lift : Seg olds n opening st (goes_on st1) → (i : ℕ) (e : _) → FailsAs (places body) (n + checks_in opening) i e → FailsAs (places whole) n i e
      lift went i e h = fails_second opening body n i e (comes went) h

      left_out : Seg olds n opening st (goes_on st1) → (o : Ending) (e : End) → IsOver e → StillAt old.blocks o
          → Ends p s cells fr1 os (uses_of pt.outs) after (places body) (n + checks_in opening) o e
          → Ends p s cells fr os (uses_of pt.outs) after (places whole) n (scope_end old ys o) (on_state (put_back slots st) e)
      left_out went =
          over_out m p s cells ys fr declared c f0 st stands opened.homes opened.kept fr1 os os (uses_of pt.outs) after (places body) (places whole) (n + checks_in opening) n (lift went)
          (λ k f d st' l there h. behind_out (left_by k pt.scopes pt.outs) (left_of k os.here os.outs)
          (left_open p s cells olds fr.in_scope fr.homes k fr.table pt.scopes pt.outs os.here os.outs placed.opened placed.outs) f d st' there h)
          (λ f d st' there h. behind_out (all_open pt.scopes pt.outs) (all_of os.here os.outs)
          (all_left_open p s cells olds fr.in_scope fr.homes fr.table pt.scopes pt.outs os.here os.outs placed.opened placed.outs) f d st' there h)

      any_out : Seg olds n opening st (goes_on st1) → (o : Ending) (e : End) → StillAt old.blocks o
          → Ends p s cells fr1 os (uses_of pt.outs) after (places body) (n + checks_in opening) o e
          → Ends p s cells fr os (uses_of pt.outs) after (places whole) n (scope_end old ys o) (on_state (put_back slots st) e)
      any_out went (run.goes_on d) (goes_on st') there h = behind_out [] [] tt after d st' there h
      any_out went (run.exits k d) (goes_on st') there h = absurd h
      any_out went (run.returns v d) (goes_on st') there h = absurd h
      any_out went (run.stopped x) (goes_on st') there h = absurd h
      any_out went o (leaves l st') there h = left_out went o (leaves l st') tt there h
      any_out went o (fails i) there h = left_out went o (fails i) tt there h

    pub without_both : BothWays (segs.Seg q s.variables here (core.scope ys ss) c) (Ends p s cells fr os (uses_of pt.outs) after (places whole) n) olds n whole st
    without_both = record { forth = forth; back = back } where
      opens : OpeningIs m p s cells fr f0 ys olds n c st
      opens = openings_run m p s cells setting short fr placed.lives f0 ys declared olds n c st stands

      forth : (o : Ending) → segs.Seg q s.variables here (core.scope ys ss) c o → (e : End) × Seg olds n whole st e × Ends p s cells fr os (uses_of pt.outs) after (places whole) n o e
      forth o h =
          let x = scope_ways q s here ys ss c o h in
          let w = opens.forth x.world x.opens in
          let y = (inner_both x.world w.0 w.2 (n + checks_in opening)).forth x.ending x.runs in (
            on_state (put_back slots st) y.0,
            seg.scopes (seg.goes_both w.1 y.1),
            subst (λ o. Ends p s cells fr os (uses_of pt.outs) after (places whole) n o (on_state (put_back slots st) y.0)) x.is
                (any_out x.world w.0 w.2 w.1 x.ending y.0 (still_at x.world w.2.blocks x.ending x.runs) y.2),
          )

      mid_back : (e : End) (u : World) (mid : State) → Opened p s.variables ys c.world u → OpenedAs p s cells fr f0 ys c u mid → Seg olds n opening st (goes_on mid)
          → Seg olds (n + checks_in opening) body mid e
          → (o : Ending) × segs.Seg q s.variables here (core.scope ys ss) c o × Ends p s cells fr os (uses_of pt.outs) after (places whole) n o (on_state (put_back slots st) e)
      mid_back e u mid opened as_ went l =
          let y = (inner_both u mid as_ (n + checks_in opening)).back e l in
          (scope_end old ys y.0, segs.scopes opened y.1, any_out u mid as_ went y.0 e (still_at u as_.blocks y.0 y.1) y.2)

      seq_back : (e : End) → Seg olds n (step.seq opening body) st e
          → (o : Ending) × segs.Seg q s.variables here (core.scope ys ss) c o × Ends p s cells fr os (uses_of pt.outs) after (places whole) n o (on_state (put_back slots st) e)
      seq_back e r = by (seq_ways r) where
        by : (IsOver e × Seg olds n opening st e) ⊎ ((mid : State) × Seg olds n opening st (goes_on mid) × Seg olds (n + checks_in opening) body mid e)
            → (o : Ending) × segs.Seg q s.variables here (core.scope ys ss) c o × Ends p s cells fr os (uses_of pt.outs) after (places whole) n o (on_state (put_back slots st) e)
        by (inl (over, k)) = absurd (subst IsOver (sym (opens.back e k).2.1) over)
        by (inr (mid, k, l)) =
            let w = opens.back (goes_on mid) k in
            mid_back e w.0 mid w.1 (subst (OpenedAs p s cells fr f0 ys c w.0) (goes_parts w.2.1) w.2.2) k l

      back : (e : End) → Seg olds n whole st e → (o : Ending) × segs.Seg q s.variables here (core.scope ys ss) c o × Ends p s cells fr os (uses_of pt.outs) after (places whole) n o e
      back e r =
          let x = scope_way r in
          let y = seq_back x.0 x.1 in
          (y.0, y.1, subst (Ends p s cells fr os (uses_of pt.outs) after (places whole) n y.0) x.2 y.2)

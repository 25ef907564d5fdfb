-- A scope as a whole: its variables are made, its statements went, and its blocks end.
use Rattle.std.proofs.Common.{◌≡◌, ◌⊎◌, ℕ, zero, suc, ◌+◌, Bool, true, false, not, ◌&&◌, ◌||◌, List, [], ◌∷◌, map, Some, slice_get, refl, sym, ap, ◌∙◌, subst, inl}
use Rattle.std.proofs.Common.{inr, arith}
use Rattle.std.specs.List.{list_all}
use Rattle.std.proofs.lemmas.Bool.{false≢true, and_parts, or_cases}
use Rattle.std.proofs.lemmas.Option.{none-some, same_Some}
use Rattle.wp_base.specs.declared.kinds.CellKind.{CellKind}
use Rattle.wp_base.specs.Blocks.{Table, has_layout}
use Rattle.qed_terms.specs.Meaning as sense
use Rattle.c_runs.specs.Program.{Variable, Contract, Facts, Program}
use Rattle.c_runs.specs.States.{Memory, World, Here}
use Rattle.c_runs.specs.CoreRun as run
use Rattle.c_runs.specs.CoreRun.{CoreWorld, Ending, in_world, scope_end, scope_left}
use Rattle.c_runs.specs.Tree as core
use Rattle.c_runs.specs.Tree.{Steps}
use Rattle.goal_segments.specs.Told.{with_name, with_names}
use Rattle.goal_segments.specs.Segments as segs
use Rattle.goal_segments.specs.Segments.{Opened, SameBlocks}
use Rattle.typed_memories.proofs.Tests.{on_test, or_first, or_second}
use Rattle.typed_memories.specs.Changes.{StillThere, LacksSince}
use Rattle.typed_memories.proofs.Alone.{newer_blocks_lack_kinds}
use Rattle.run_blocks.specs.Ends.{StillAt, is_short}
use Rattle.run_blocks.proofs.Standing.{standing_blocks}
use Rattle.program_steps.specs.Temporaries.{Temporaries, all_live}
use Rattle.memory_steps.specs.State.{State}
use Rattle.memory_steps.specs.Step as step
use Rattle.memory_steps.specs.Step.{Step, places, count as checks_in}
use Rattle.memory_steps.specs.Run.{End, goes_on, leaves, fails, IsOver, on_state, put_back, Seg}
use Rattle.memory_steps.specs.Run as seg
use Rattle.memory_steps.proofs.Readings.{seq_ways, scope_way, remember_way}
use Rattle.memory_words.specs.Shapes.{FileCells, Shape, sizes}
use Rattle.memory_words.specs.Readings.{InScope, Texts}
use Rattle.memory_words.specs.Standing.{Frame, StandsFor}
use Rattle.memory_words.specs.Seen.{InSetting}
use Rattle.memory_words.specs.Points.{Out, Point, deeper, deeper_out, uses_of, remembered}
use Rattle.memory_words.specs.Words as word
use Rattle.memory_words.specs.Words.{Others, has_home, home_kinds, own_kind, has_cell_of, slots_of, in_scope_of, open_scope}
use Rattle.memory_words.specs.Typed.{Declares}
use Rattle.memory_words.specs.Placed.{Opening, Openings, left_of, all_of, table_behind, lives_behind, IsOpen, FailsAs, Placed, Ends, BothWays}
use Rattle.memory_words.specs.PutLaws.{AllStepsRun}
use Rattle.memory_words.proofs.PutListing.{comes, fails_first, fails_second}
use Rattle.memory_statements.specs.Scopes.{frame_inside, GoesTo, OpenedAs, EndedAs}
use Rattle.memory_statements.specs.ScopeLaws.{OpeningIs, ScopesRun}
use Rattle.memory_statements.proofs.Ending.{goes_parts, scopes_end}
use Rattle.memory_statements.proofs.Opening.{openings_run}
use Rattle.memory_statements.proofs.Block.{home_kinds_of, has_home_of}
use Rattle.memory_statements.proofs.Framing.{in_names, names_same}
use Rattle.memory_statements.proofs.Outside.{left_inner, all_inner}
use Rattle.memory_statements.proofs.Remembering.{open_inside, all_inside, place_remembered, place_inside}
use Rattle.memory_statements.proofs.Wholes.{without_both}
use Rattle.memory_statements.proofs.Scoping.{scope_ways, still_before, lives_in, Behind, leave_all, over_out}

-- ---- kinds of blocks

first_so : (a b : Bool) → a || false ≡ true → a ≡ true
first_so true b h = refl
first_so false b h = h

not_so : (a : Bool) → not a ≡ true → a ≡ false
not_so true h = absurd (false≢true h)
not_so false h = refl

home_own : (xs : List Variable) (y : ℕ) (k : CellKind) (v : Variable) → slice_get xs y ≡ Some v → (not v.is_plain && has_cell_of v.layout k) ≡ true → own_kind xs k ≡ true
home_own [] y k v e h = absurd (none-some v e)
home_own (x ∷ xs) zero k v e h =
    or_first (not x.is_plain && has_cell_of x.layout k) (own_kind xs k) (ap (λ (v : Variable). not v.is_plain && has_cell_of v.layout k) (same_Some x v e) ∙ h)
home_own (x ∷ xs) (suc y) k v e h = or_second (not x.is_plain && has_cell_of x.layout k) (own_kind xs k) (home_own xs y k v e h)

kinds_joined : (xs : List Variable) (y : ℕ) (ys : List ℕ) (k : CellKind) → home_kinds xs (y ∷ ys) k ≡ true → (home_kinds xs (y ∷ []) k ≡ true) ⊎ (home_kinds xs ys k ≡ true)
kinds_joined xs y ys k h = by (or_cases _ _ h) where
  by : {a : Bool} → (a ≡ true) ⊎ (home_kinds xs ys k ≡ true) → (a || false ≡ true) ⊎ (home_kinds xs ys k ≡ true)
  by (inl e) = inl (ap (λ t. t || false) e)
  by (inr e) = inr e

homes_joined : (xs : List Variable) (y : ℕ) (ys : List ℕ) → has_home xs (y ∷ ys) ≡ true → (has_home xs (y ∷ []) ≡ true) ⊎ (has_home xs ys ≡ true)
homes_joined xs y ys h = by (or_cases _ _ h) where
  by : {a : Bool} → (a ≡ true) ⊎ (has_home xs ys ≡ true) → (a || false ≡ true) ⊎ (has_home xs ys ≡ true)
  by (inl e) = inl (ap (λ t. t || false) e)
  by (inr e) = inr e

-- one that a variable of the block has is one that a variable of the function has
module _ (s : Shape) (cells : FileCells) where
  kinds_own : (ys : List ℕ) (i : InScope) → Declares s cells i ys → (k : CellKind) → home_kinds s.variables ys k ≡ true → own_kind s.variables k ≡ true
  kinds_own [] i d k h = absurd (false≢true h)
  kinds_own (y ∷ ys) i d k h = by (kinds_joined s.variables y ys k h) (λ e. kinds_own ys (with_name y i) d.2 k e) where
    by : (home_kinds s.variables (y ∷ []) k ≡ true) ⊎ (home_kinds s.variables ys k ≡ true) → (home_kinds s.variables ys k ≡ true → own_kind s.variables k ≡ true)
        → own_kind s.variables k ≡ true
    by (inl e) rest =
        home_own s.variables y k d.1.0 d.1.1 (first_so (not d.1.0.is_plain && has_cell_of d.1.0.layout k) false (sym (home_kinds_of s.variables y d.1.0 k d.1.1) ∙ e))
    by (inr e) rest = rest e

  blocks_so : (ys : List ℕ) (i : InScope) → Declares s cells i ys → has_home s.variables ys ≡ true → cells.has_blocks ≡ true
  blocks_so [] i d h = absurd (false≢true h)
  blocks_so (y ∷ ys) i d h = by (homes_joined s.variables y ys h) (λ e. blocks_so ys (with_name y i) d.2 e) where
    by : (has_home s.variables (y ∷ []) ≡ true) ⊎ (has_home s.variables ys ≡ true) → (has_home s.variables ys ≡ true → cells.has_blocks ≡ true) → cells.has_blocks ≡ true
    by (inl e) rest = d.1.2.blocks (not_so d.1.0.is_plain (first_so (not d.1.0.is_plain) false (sym (has_home_of s.variables y d.1.0 d.1.1) ∙ e)))
    by (inr e) rest = rest e

uses_same : (os : List Out) → uses_of (map deeper_out os) ≡ uses_of os
uses_same [] = refl
uses_same (o ∷ os) = ap (λ l. o.uses ∷ l) (uses_same os)

module _ (m : sense.World) (q : Program Steps) (s : Shape) (cells : FileCells) (texts : Texts) (contract : Contract) (others : Others) (setting : InSetting m q.facts s cells)
    (short : list_all (is_short q.facts) s.variables ≡ true) (here : Here) (pt : Point) (olds : List State) (fr : Frame) (os : Openings)
    (placed : Placed m q.facts s cells texts contract pt here olds fr os) (ys : List ℕ) (ss : Steps) (declares : Declares s cells pt.stands.in_scope ys) (after : Temporaries)
    (n : ℕ) (c : CoreWorld) (st : State) (stands : StandsFor q.facts s cells fr (all_live ss (uses_of pt.outs) after) c st) where
  abbrev p : Facts
  p = q.facts

  abbrev f0 : Temporaries
  f0 = all_live ss (uses_of pt.outs) after

  abbrev old : Memory
  old = c.world.memory

  declared : Declares s cells fr.in_scope ys
  declared = subst (λ i. Declares s cells i ys) (sym (λ i x. placed.scope x i)) declares

  abbrev opening : Step
  opening = word.all_opened m p s cells ys

  abbrev slots : List ℕ
  slots = slots_of m (sizes p s) ys

  still_at : (u : World) → StillThere old.blocks u.memory.blocks → (o : Ending) → segs.AllSeg q s.variables here ss (in_world c u) o → StillAt old.blocks o
  still_at u there o h = still_before old.blocks u.memory.blocks o there ((standing_blocks q s.variables).all here ss (in_world c u) o h)

  -- ---- a scope with blocks

  module _ (some : has_home s.variables ys ≡ true)
      (inner : (olds : List State) (fr : Frame) (os : Openings) → Placed m p s cells texts contract (in_scope_of s cells true pt ys) here olds fr os → (n : ℕ) (c : CoreWorld) (st : State)
      → AllStepsRun m q s cells texts contract others here (in_scope_of s cells true pt ys) olds fr os after n c st ss) where
    abbrev body : Step
    body = word.steps m p s cells texts contract others (in_scope_of s cells true pt ys) ss after

    abbrev ends : Step
    ends = word.scope_ends m p s cells (open_scope s cells ys)

    abbrev rest : Step
    rest = step.seq body ends

    abbrev whole : Step
    whole = step.remember (step.scope slots (step.seq opening rest))

    abbrev now : List State
    now = st ∷ olds

    has_blocks : cells.has_blocks ≡ true
    has_blocks = blocks_so s cells ys fr.in_scope declared some

    abbrev here_open : Opening
    here_open = record { before = old; around = fr.table; lives = fr.in_scope }

    abbrev os1 : Openings
    os1 = record { here = here_open ∷ os.here; outs = os.outs }

    module _ (u : World) (st1 : State) (opened : OpenedAs p s cells fr f0 ys c u st1) where
      abbrev fr1 : Frame
      fr1 = frame_inside fr ys u.memory.blocks opened.homes

      lacks_old : (k : CellKind) → home_kinds s.variables ys k ≡ false → (t : Table) → LacksSince k t old.blocks → LacksSince k t u.memory.blocks
      lacks_old k none t h b o above = opened.kinds k none b o ∙ h b o above

      scope_open : IsOpen p s cells now fr1.in_scope fr1.homes fr1.table (open_scope s cells ys) here_open
      scope_open = record {
        in_blocks = has_blocks;
        level_there = omega arith;
        level_is = stands.table_is has_blocks;
        good = stands.good;
        blocks = opened.blocks;
        kinds = λ k has none.
            lacks_old k (sym (ap (λ t. t && home_kinds s.variables ys k) has) ∙ none) old.blocks ((newer_blocks_lack_kinds k).first old.blocks);
        of_file = λ k h. let both = and_parts (cells.has_kind k) (home_kinds s.variables ys k) h in (both.0, kinds_own s cells ys fr.in_scope declared k both.1);
        around = stands.blocks_are;
        scoped = λ x h. in_names ys fr.in_scope x h;
        living = λ x v e plain h. ap (λ b. has_layout fr.table b v.layout) (opened.kept x h) ∙ stands.living x v e plain h (placed.lives x h);
      }

      placed_now : Placed m p s cells texts contract (remembered pt) here now fr os
      placed_now = place_remembered m p s cells texts contract pt here olds fr os placed st

      placed1 : Placed m p s cells texts contract (in_scope_of s cells true pt ys) here now fr1 os1
      placed1 =
          place_inside m p s cells texts contract (remembered pt) here now fr os placed_now (with_names ys pt.stands.in_scope) (open_scope s cells ys ∷ map deeper pt.scopes) fr1 os1
          (names_same ys fr.in_scope pt.stands.in_scope placed.scope) (λ x h. h)
          (λ k has own t h. lacks_old k (not_home k own) t (((newer_blocks_lack_kinds k).later t fr.table h).changed old.blocks stands.blocks_are).0)
          (scope_open, open_inside p s cells now fr.in_scope fr.homes fr1.in_scope fr1.homes (in_names ys fr.in_scope) opened.kept fr.table (map deeper pt.scopes) os.here placed_now.opened)
          (all_inside p s cells now fr.in_scope fr.homes fr1.in_scope fr1.homes (in_names ys fr.in_scope) opened.kept (table_behind fr.table os.here) (map deeper_out pt.outs) os.outs placed_now.outs)
        where
          not_home : (k : CellKind) → own_kind s.variables k ≡ false → home_kinds s.variables ys k ≡ false
          not_home k own = on_test (home_kinds s.variables ys k) (λ e. absurd (false≢true (sym own ∙ kinds_own s cells ys fr.in_scope declared k e))) (λ e. e)

      inner_both : (k : ℕ) → BothWays (segs.AllSeg q s.variables here ss (in_world c u)) (Ends p s cells fr1 os1 (uses_of pt.outs) after (places body) k) now k body st1
      inner_both k =
          subst (λ us. StandsFor p s cells fr1 (all_live ss us after) (in_world c u) st1
          → BothWays (segs.AllSeg q s.variables here ss (in_world c u)) (Ends p s cells fr1 os1 us after (places body) k) now k body st1) (uses_same pt.outs)
          (inner now fr1 os1 placed1 k (in_world c u) st1) opened.stands

      -- ---- its ends

      behind_out : (qs : List Opening) (f : Temporaries) (d : CoreWorld) (st' : State) → Behind m p s cells ys fr declared c f0 st stands opened.homes opened.kept fr1 (here_open ∷ qs) f d st'
          → Behind m p s cells ys fr declared c f0 st stands opened.homes opened.kept fr qs f (scope_left old ys d) (put_back slots st st')
      behind_out qs f d st' h =
          leave_all m p s cells ys fr declared c f0 st stands opened.homes opened.kept qs (here_open ∷ qs) fr.table (lives_behind fr.in_scope qs)
          (λ x scoped. lives_in fr fr.in_scope x scoped qs) f d st' refl h

      lift : Seg now n opening st (goes_on st1) → (i : ℕ) (e : _) → FailsAs (places body) (n + checks_in opening) i e → FailsAs (places whole) n i e
      lift went i e h = fails_second opening rest n i e (comes went) (fails_first body ends (n + checks_in opening) i e h)

      left_out : Seg now n opening st (goes_on st1) → (o : Ending) (e : End) → IsOver e → StillAt old.blocks o
          → Ends p s cells fr1 os1 (uses_of pt.outs) after (places body) (n + checks_in opening) o e
          → Ends p s cells fr os (uses_of pt.outs) after (places whole) n (scope_end old ys o) (on_state (put_back slots st) e)
      left_out went =
          over_out m p s cells ys fr declared c f0 st stands opened.homes opened.kept fr1 os1 os (uses_of pt.outs) after (places body) (places whole) (n + checks_in opening) n (lift went)
          (λ k f d st' l there h. behind_out (left_of k os.here os.outs) f d st'
          (subst (λ qs. Behind m p s cells ys fr declared c f0 st stands opened.homes opened.kept fr1 qs f d st') (left_inner k here_open os.here os.outs) h))
          (λ f d st' there h. behind_out (all_of os.here os.outs) f d st'
          (subst (λ qs. Behind m p s cells ys fr declared c f0 st stands opened.homes opened.kept fr1 qs f d st') (all_inner here_open os.here os.outs) h))

      -- where the statements come to their end
      blocks_end : (d : CoreWorld) (st' : State) → StandsFor p s cells fr1 after d st' → GoesTo now ends st' (EndedAs p s cells fr1 after (here_open ∷ []) d st')
      blocks_end d st' h = scopes_end m p s cells setting now fr1 after (open_scope s cells ys) here_open scope_open d st' h

    abbrev Done : Ending → End → Type 0
    Done o e = Ends p s cells fr os (uses_of pt.outs) after (places whole) n o e

    abbrev Found : End → Type 0
    Found e = (o : Ending) × segs.Seg q s.variables here (core.scope ys ss) c o × Done o (on_state (put_back slots st) e)

    with_both : BothWays (segs.Seg q s.variables here (core.scope ys ss) c) Done olds n whole st
    with_both = record { forth = forth; back = back } where
      opens : OpeningIs m p s cells fr f0 ys now n c st
      opens = openings_run m p s cells setting short fr placed.lives f0 ys declared now n c st stands

      -- what follows where the variables have been made
      finish : (u : World) (st1 : State) (opened : OpenedAs p s cells fr f0 ys c u st1) → Seg now n opening st (goes_on st1) → (o : Ending) (e : End) → StillAt old.blocks o
          → Seg now (n + checks_in opening) body st1 e → Ends p s cells (fr1 u st1 opened) os1 (uses_of pt.outs) after (places body) (n + checks_in opening) o e
          → (e' : End) × Seg now (n + checks_in opening) rest st1 e' × Done (scope_end old ys o) (on_state (put_back slots st) e')
      finish u st1 opened went (run.goes_on d) (goes_on st') there k h =
          let x = (blocks_end u st1 opened d st' h).forth (n + checks_in opening + checks_in body) in
          (goes_on x.0, seg.goes_both k x.1, behind_out u st1 opened [] after d x.0 x.2.stands)
      finish u st1 opened went (run.exits j d) (goes_on st') there k h = absurd h
      finish u st1 opened went (run.returns v d) (goes_on st') there k h = absurd h
      finish u st1 opened went (run.stopped x) (goes_on st') there k h = absurd h
      finish u st1 opened went o (leaves l st') there k h = (leaves l st', seg.ends_first k tt, left_out u st1 opened went o (leaves l st') tt there h)
      finish u st1 opened went o (fails i) there k h = (fails i, seg.ends_first k tt, left_out u st1 opened went o (fails i) tt there h)

      forth : (o : Ending) → segs.Seg q s.variables here (core.scope ys ss) c o → (e : End) × Seg olds n whole st e × Done o e
      forth o h =
          let x = scope_ways q s here ys ss c o h in
          let w = opens.forth x.world x.opens in
          let y = (inner_both x.world w.0 w.2 (n + checks_in opening)).forth x.ending x.runs in
          let r = finish x.world w.0 w.2 w.1 x.ending y.0 (still_at x.world w.2.blocks x.ending x.runs) y.1 y.2 in
          (on_state (put_back slots st) r.0, seg.remembers (seg.scopes (seg.goes_both w.1 r.1)), subst (λ o. Done o (on_state (put_back slots st) r.0)) x.is r.2)

      end_found : (u : World) (mid : State) → Opened p s.variables ys c.world u → (opened : OpenedAs p s cells fr f0 ys c u mid) → (mid' : State) (o : Ending)
          → segs.AllSeg q s.variables here ss (in_world c u) o → Ends p s cells (fr1 u mid opened) os1 (uses_of pt.outs) after (places body) (n + checks_in opening) o (goes_on mid')
          → (e : End) → Seg now (n + checks_in opening + checks_in body) ends mid' e → Found e
      end_found u mid made opened mid' (run.goes_on d) runs h e k =
          let x = (blocks_end u mid opened d mid' h).back (n + checks_in opening + checks_in body) e k in (
            run.goes_on (scope_left old ys d),
            segs.scopes made runs,
            subst (λ e. Done (run.goes_on (scope_left old ys d)) (on_state (put_back slots st) e)) x.1 (behind_out u mid opened [] after d x.0 x.2.stands),
          )
      end_found u mid made opened mid' (run.exits j d) runs h e k = absurd h
      end_found u mid made opened mid' (run.returns v d) runs h e k = absurd h
      end_found u mid made opened mid' (run.stopped x) runs h e k = absurd h

      rest_back : (e : End) (u : World) (mid : State) → Opened p s.variables ys c.world u → OpenedAs p s cells fr f0 ys c u mid → Seg now n opening st (goes_on mid)
          → Seg now (n + checks_in opening) rest mid e → Found e
      rest_back e u mid made opened went l = by (seq_ways l) where
        by : (IsOver e × Seg now (n + checks_in opening) body mid e)
            ⊎ ((mid' : State) × Seg now (n + checks_in opening) body mid (goes_on mid') × Seg now (n + checks_in opening + checks_in body) ends mid' e) → Found e
        by (inl (over, k)) =
            let y = (inner_both u mid opened (n + checks_in opening)).back e k in
            (scope_end old ys y.0, segs.scopes made y.1, left_out u mid opened went y.0 e over (still_at u opened.blocks y.0 y.1) y.2)
        by (inr (mid', k, k')) =
            let y = (inner_both u mid opened (n + checks_in opening)).back (goes_on mid') k in
            end_found u mid made opened mid' y.0 y.1 y.2 e k'

      seq_back : (e : End) → Seg now n (step.seq opening rest) st e → Found e
      seq_back e r = by (seq_ways r) where
        by : (IsOver e × Seg now n opening st e) ⊎ ((mid : State) × Seg now n opening st (goes_on mid) × Seg now (n + checks_in opening) rest mid e) → Found e
        by (inl (over, k)) = absurd (subst IsOver (sym (opens.back e k).2.1) over)
        by (inr (mid, k, l)) =
            let w = opens.back (goes_on mid) k in
            rest_back e w.0 mid w.1 (subst (OpenedAs p s cells fr f0 ys c w.0) (goes_parts w.2.1) w.2.2) k l

      back : (e : End) → Seg olds n whole st e → (o : Ending) × segs.Seg q s.variables here (core.scope ys ss) c o × Done o e
      back e r =
          let x = scope_way (remember_way r) in
          let y = seq_back x.0 x.1 in
          (y.0, y.1, subst (Done y.0) x.2 y.2)

-- ---- both kinds of scopes

pub scopes_run : ScopesRun
scopes_run m q s cells texts contract others setting short here pt olds fr os placed ys ss declares after inner n c st stands = by (has_home s.variables ys) refl inner where
  by : (b : Bool) → has_home s.variables ys ≡ b
      → ((olds : List State) (fr : Frame) (os : Openings) → Placed m q.facts s cells texts contract (in_scope_of s cells b pt ys) here olds fr os → (n : ℕ) (c : CoreWorld) (st : State)
      → AllStepsRun m q s cells texts contract others here (in_scope_of s cells b pt ys) olds fr os after n c st ss)
      → BothWays (segs.Seg q s.variables here (core.scope ys ss) c)
      (Ends q.facts s cells fr os (uses_of pt.outs) after
      (places (word.scope_word m q.facts s cells texts contract others b pt ys (λ pt'. word.steps m q.facts s cells texts contract others pt' ss after))) n) olds n
      (word.scope_word m q.facts s cells texts contract others b pt ys (λ pt'. word.steps m q.facts s cells texts contract others pt' ss after)) st
  by true some inner = with_both m q s cells texts contract others setting short here pt olds fr os placed ys ss declares after n c st stands some inner
  by false none inner = without_both m q s cells texts contract others setting short here pt olds fr os placed ys ss declares after n c st stands none inner

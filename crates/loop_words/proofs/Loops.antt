-- The segment runs of a loop are the runs of its word.
use Rattle.std.proofs.Common.{◌≡◌, ◌⊎◌, ℕ, suc, ◌+◌, ◌≤◌, Bool, true, ◌&&◌, List, ◌∷◌, ◌++◌, map, length, Some, None, refl, sym, ◌∙◌, subst, inl, inr, arith}
use Rattle.std.proofs.lemmas.Bool.{false≢true, and_parts}
use Rattle.wp_base.specs.Blocks.{Table}
use Rattle.qed_terms.specs.Meaning as sense
use Rattle.qed_terms.specs.Meaning.{truth}
use Rattle.qed_terms.specs.Tree.{Tree}
use Rattle.c_runs.specs.Program.{Contract, Loop, Facts, Program}
use Rattle.c_runs.specs.States.{Here, seen}
use Rattle.c_runs.specs.Claims as broken
use Rattle.c_runs.specs.Claims.{Stop, failed, claimed, in_body, measure_of}
use Rattle.c_runs.specs.CoreRun as run
use Rattle.c_runs.specs.CoreRun.{CoreWorld, Ending, stopped}
use Rattle.c_runs.specs.Tree.{Steps, repeat}
use Rattle.goal_segments.specs.RunSegments.{Leaves}
use Rattle.goal_segments.specs.Sets.{own_loop, loop_inside}
use Rattle.goal_segments.specs.Segments as segs
use Rattle.goal_segments.specs.Segments.{AtHead}
use Rattle.plain_states.specs.Slots.{State, double}
use Rattle.plain_runs.specs.Fitting.{Shape, sizes}
use Rattle.walk_steps.specs.State.{AllTrue, FirstFalse}
use Rattle.walk_steps.specs.Forms.{Check, forms, told_forms}
use Rattle.walk_steps.specs.Step.{Step, places, count, goes}
use Rattle.walk_steps.specs.Step as step
use Rattle.walk_steps.specs.Run.{End, goes_on, leaves, fails, IsOver, Changes, Seg}
use Rattle.walk_steps.specs.Run as seg
use Rattle.walk_steps.proofs.Readings.{seq_ways, asks_then, changes_then, knows_then, remember_way, last_asks}
use Rattle.program_steps.specs.Leaves.{closed, leaves_of, form}
use Rattle.program_steps.specs.Stops.{broken_place}
use Rattle.program_steps.specs.Temporaries.{Temporaries, no_temporaries, all_live}
use Rattle.program_steps.specs.Terms.{Texts}
use Rattle.program_steps.specs.Words.{Point, in_pass, check, ask_all}
use Rattle.program_steps.specs.Standing.{StandsFor, SeenAs, SeenBy, FailsAs, Ends}
use Rattle.program_steps.specs.Placed.{InSetting, all_told, Placed, BothWays}
use Rattle.program_steps.proofs.Listing.{comes, fails_first, fails_second}
use Rattle.program_steps.proofs.Asking.{behind}
use Rattle.program_steps.proofs.Tests.{Comes, ask_stops, ask_goes}
use Rattle.program_steps.proofs.Ends.{ends_more, first_is_false, first_place, asked_goes, asked_fails}
use Rattle.program_steps.proofs.Dropping.{over_ends, over_leaves, ends_else}
use Rattle.program_steps.proofs.Granting.{all_append}
use Rattle.program_steps.proofs.Seeing.{seen_as}
use Rattle.loop_words.specs.Sets.{inside_trees, file_changes, local_changes}
use Rattle.loop_words.specs.Words.{head_changes, stay_trees, head_tree, entry_check, end_checks, loop_word}
use Rattle.loop_words.specs.Fits.{LoopFits}
use Rattle.loop_words.specs.Laws.{LoopsRun}
use Rattle.loop_words.proofs.Inside.{inside_so, placed_in_pass}
use Rattle.loop_words.proofs.Renewing.{Renewed, renewed, renews}
use Rattle.loop_words.proofs.Worlds.{head_world, at_head, stands_there}
use Rattle.loop_words.proofs.Heads.{after, renewed_there, stays_there, slots_stand}
use Rattle.loop_words.proofs.Checking.{all_known, known_all, asked_all, comes_false, comes_true, entries_come, heads_told, told_heads, ends_come}

module _ (m : sense.World) (q : Program Steps) (s : Shape) (texts : Texts) (contract : Contract) (setting : InSetting m q.facts s) (t0 : Table) (here : Here) (pt : Point) (olds : List State)
    (placed : Placed m q.facts s texts contract pt here olds) (i : ℕ → Bool) (used_after : Temporaries) (l : Loop) (ss : Steps) (pass : Step)
    (fits : LoopFits m q.facts s texts contract i pt.outs l ss)
    (pass_both : (here' : Here) (olds' : List State) → Placed m q.facts s texts contract (in_pass l pt) here' olds' → (n : ℕ) (c : CoreWorld) (st : State)
    → StandsFor q.facts s t0 i (all_live ss pt.outs no_temporaries) c st
    → BothWays (segs.AllSeg q s.variables here' ss c) (Ends q.facts s t0 i pt.outs no_temporaries (places pass) n) olds' n pass st)
    (n : ℕ) (c : CoreWorld) (st : State) (stands : StandsFor q.facts s t0 i (all_live ss pt.outs no_temporaries) c st) where
  abbrev p : Facts
  p = q.facts

  abbrev used : Temporaries
  used = all_live ss pt.outs no_temporaries

  abbrev own : Here
  own = own_loop p here l c.world

  -- ---- the parts of the word

  abbrev trees : List Tree
  trees = inside_trees p s texts contract pt l

  abbrev first : Step
  first = ask_all m trees (broken_place broken.assigns l.line)

  abbrev entries : List Check
  entries = map (entry_check p s texts m pt) l.invariants

  abbrev knowns : List Tree
  knowns = stay_trees p s texts contract pt l ++ map (head_tree p s texts pt) l.invariants

  abbrev lasts : List Check
  lasts = end_checks p s texts m pt l

  abbrev end_word : Step
  end_word = step.seq (step.ask lasts) step.halt

  abbrev pass_word : Step
  pass_word = step.seq pass end_word

  abbrev head_word : Step
  head_word = step.seq (step.change (head_changes p s contract pt l ss)) (step.seq (step.know (map (form m) knowns)) (step.remember pass_word))

  abbrev inner_word : Step
  inner_word = step.seq (step.ask entries) head_word

  abbrev word : Step
  word = loop_word m p s texts contract pt l ss pass

  abbrev n1 : ℕ
  n1 = n + count first

  abbrev n2 : ℕ
  n2 = n1 + count (step.ask entries)

  abbrev Meets : Ending → End → Type 0
  Meets o e = Ends p s t0 i pt.outs used_after (places word) n o e

  abbrev PassMeets : Ending → End → Type 0
  PassMeets o e = Ends p s t0 i pt.outs no_temporaries (places pass) n2 o e

  -- ---- where checks fail

  inner_fails : (j : ℕ) (e : Stop) → FailsAs (places pass_word) n2 j e → FailsAs (places word) n j e
  inner_fails j e h = fails_second first (step.remember inner_word) n j e refl (fails_second (step.ask entries) head_word n1 j e refl h)

  pass_fails : (j : ℕ) (e : Stop) → FailsAs (places pass) n2 j e → FailsAs (places word) n j e
  pass_fails j e h = inner_fails j e (fails_first pass end_word n2 j e h)

  end_fails : goes pass ≡ true → (j : ℕ) (e : Stop) → FailsAs (places (step.ask lasts)) (n2 + count pass) j e → FailsAs (places word) n j e
  end_fails go j e h = inner_fails j e (fails_second pass end_word n2 j e go (fails_first (step.ask lasts) step.halt (n2 + count pass) j e h))

  left : (o : Ending) (e : End) → Leaves o → PassMeets o e → Meets o e
  left o e over h =
      ends_more p s t0 i pt.outs used_after (places pass) (places word) n2 n pass_fails o e (ends_else p s t0 i pt.outs no_temporaries used_after (places pass) n2 o e over h)

  -- ---- states that annotations see

  entry_sees : SeenAs p s (seen p c.world) st st
  entry_sees = seen_as p s setting.globals setting.integers i used c st stands

  head_seen : (d : CoreWorld) (st' : State) → StandsFor p s t0 i used d st' → SeenBy p s (in_body p own d.world) (st' ∷ st ∷ olds) 0 (suc (suc pt.entry)) 1
  head_seen d st' there =
      let here_sees = seen_as p s setting.globals setting.integers i used d st' there in
      record { here_is = here_sees; pre_is = placed.entry; post_is = here_sees; loop_entry_is = entry_sees; model = refl; structs = λ n. refl }

  before_seen : (d : CoreWorld) (st' last : State) → StandsFor p s t0 i used d st' → SeenBy p s (in_body p own d.world) (last ∷ st' ∷ st ∷ olds) 1 (suc (suc (suc pt.entry))) 2
  before_seen d st' last there =
      let here_sees = seen_as p s setting.globals setting.integers i used d st' there in
      record { here_is = here_sees; pre_is = placed.entry; post_is = here_sees; loop_entry_is = entry_sees; model = refl; structs = λ n. refl }

  end_seen : (x : CoreWorld) (st' last : State) → StandsFor p s t0 i no_temporaries x last → SeenBy p s (in_body p own x.world) (last ∷ st' ∷ st ∷ olds) 0 (suc (suc (suc pt.entry))) 2
  end_seen x st' last there =
      let here_sees = seen_as p s setting.globals setting.integers i no_temporaries x last there in
      record { here_is = here_sees; pre_is = placed.entry; post_is = here_sees; loop_entry_is = entry_sees; model = refl; structs = λ n. refl }

  -- ---- what is asked

  inside_told : all_told m (st ∷ olds) trees ≡ loop_inside p here l c.world
  inside_told = inside_so m p s texts setting.globals contract fits.assumes pt here olds placed c.world st entry_sees l fits.regions

  entry_comes : Comes (st ∷ st ∷ olds) entries (claimed p (in_body p own c.world) broken.invariant l.invariants)
  entry_comes = entries_come m p s texts pt (in_body p own c.world) st (st ∷ olds) (head_seen c st stands) l.invariants fits.invariants

  end_comes : (d x : CoreWorld) (st' last : State) → StandsFor p s t0 i used d st' → StandsFor p s t0 i no_temporaries x last
      → Comes (last ∷ st' ∷ st ∷ olds) lasts (broken.at_head p (in_body p own x.world) l (measure_of p (in_body p own d.world) l.variant))
  end_comes d x st' last there last_there =
      ends_come m p s texts pt (in_body p own d.world) (in_body p own x.world) (last ∷ st' ∷ st ∷ olds) (before_seen d st' last there) (end_seen x st' last last_there) l fits.invariants fits.variant

  big : double ((sizes p s).globals + (sizes p s).locals) ≤ length st
  big = let e = stands.size in omega (arith, e)

  both_told : (a b : Bool) → a ≡ true → b ≡ true → (a && b) ≡ true
  both_told a b h k = λ i. h i && k i

  -- ---- forth

  abbrev Found : Ending → Type 0
  Found o = (e : End) × Seg olds n word st e × Meets o e

  inner_runs : loop_inside p here l c.world ≡ true → (e : End) → Seg (st ∷ olds) n1 inner_word st e → Seg olds n word st e
  inner_runs inside e k = seg.goes_both (asked_goes m olds st (broken_place broken.assigns l.line) trees n (inside_told ∙ inside)) (seg.remembers k)

  -- behind the head
  module _ (inside : loop_inside p here l c.world ≡ true) (entered : claimed p (in_body p own c.world) broken.invariant l.invariants ≡ None) (d : CoreWorld)
      (head : AtHead p s.variables own l ss c d) (kept : claimed p (in_body p own d.world) broken.invariant l.invariants ≡ None) where
    abbrev st' : State
    st' = after m p s texts setting contract pt here olds placed i pt.outs l ss fits t0 c st stands d head

    there : StandsFor p s t0 i used d st'
    there = slots_stand m p s texts setting contract pt here olds placed i pt.outs l ss fits t0 c st stands d head

    head_told : all_told m (st' ∷ st ∷ olds) knowns ≡ true
    head_told = all_append (λ f. truth m (leaves_of (st' ∷ st ∷ olds)) (closed f)) (stay_trees p s texts contract pt l) (map (head_tree p s texts pt) l.invariants)
        ∙ both_told (all_told m (st' ∷ st ∷ olds) (stay_trees p s texts contract pt l)) (all_told m (st' ∷ st ∷ olds) (map (head_tree p s texts pt) l.invariants))
        (stays_there m p s texts setting contract pt here olds placed i pt.outs l ss fits t0 c st stands d head)
        (heads_told m p s texts pt (in_body p own d.world) st' (st ∷ olds) (head_seen d st' there) l.invariants fits.invariants kept)

    pass_runs : (e : End) → Seg (st' ∷ st ∷ olds) n2 pass_word st' e → Seg olds n word st e
    pass_runs e k = inner_runs inside e (seg.goes_both (ask_goes (st ∷ olds) st entries n1 _ entry_comes entered)
        (seg.goes_both (seg.changes (renews p s (file_changes contract pt l) (local_changes l ss) (st ∷ st ∷ olds) st st' big
        (renewed_there m p s texts setting contract pt here olds placed i pt.outs l ss fits t0 c st stands d head)))
        (behind (seg.goes_both (seg.knows_so (all_known m (st' ∷ st ∷ olds) knowns head_told)) (behind (seg.remembers k))))))

    pass_is : BothWays (segs.AllSeg q s.variables own ss d) PassMeets (st' ∷ st ∷ olds) n2 pass st'
    pass_is = pass_both own (st' ∷ st ∷ olds) (placed_in_pass m p s texts setting.globals contract fits.assumes pt here olds placed c.world st entry_sees l fits.regions st') n2 d st' there

    passes : (o : Ending) → segs.AllSeg q s.variables own ss d o → Leaves o → Found o
    passes o h over =
        let x = pass_is.forth o h in
        (x.0, pass_runs x.0 (seg.ends_first x.1 (over_ends p s t0 i pt.outs no_temporaries (places pass) n2 o x.0 over x.2)), left o x.0 over x.2)

    again : (x : CoreWorld) (y : Stop) → broken.at_head p (in_body p own x.world) l (measure_of p (in_body p own d.world) l.variant) ≡ Some y → (e : End) → Seg (st' ∷ st ∷ olds) n2 pass st' e
        → PassMeets (run.goes_on x) e → Found (stopped y)
    again x y h (goes_on last) k meets =
        let r = ask_stops (st' ∷ st ∷ olds) last lasts (n2 + count pass) _ y (end_comes d x st' last there meets) h in
        (fails r.0, pass_runs (fails r.0) (seg.goes_both k (seg.ends_first r.1 tt)), end_fails (comes k) r.0 y r.2)
    again x y h (leaves j last) k meets = absurd meets
    again x y h (fails j) k meets = absurd meets

  forth : (o : Ending) → segs.Seg q s.variables here (repeat l ss) c o → Found o
  forth o (segs.single is h) = absurd (false≢true is)
  forth _ (segs.set_outside out) =
      let r = asked_fails m olds st (broken_place broken.assigns l.line) trees n (failed broken.assigns l.line) (refl, refl) (inside_told ∙ out) in
      (fails r.0, seg.ends_first r.1 tt, fails_first first (step.remember inner_word) n r.0 (failed broken.assigns l.line) r.2)
  forth _ (segs.entry_fails {s = y} inside h) =
      let r = ask_stops (st ∷ olds) st entries n1 _ y entry_comes h in
      (fails r.0, inner_runs inside (fails r.0) (seg.ends_first r.1 tt), fails_second first (step.remember inner_word) n r.0 y refl (fails_first (step.ask entries) head_word n1 r.0 y r.2))
  forth o (segs.pass_ends {d = d} inside entered head kept h over) = passes inside entered d head kept o h over
  forth _ (segs.again_fails {d = d} {e = x} {s = y} inside entered head kept h fails_so) =
      let r = (pass_is inside entered d head kept).forth (run.goes_on x) h in
      again inside entered d head kept x y fails_so r.0 r.1 r.2

  -- ---- back

  abbrev Back : End → Type 0
  Back e = (o : Ending) × segs.Seg q s.variables here (repeat l ss) c o × Meets o e

  module _ (inside : loop_inside p here l c.world ≡ true) (entered : claimed p (in_body p own c.world) broken.invariant l.invariants ≡ None) (st' : State)
      (changes : Changes (st ∷ st ∷ olds) (head_changes p s contract pt l ss) st st') (told : all_told m (st' ∷ st ∷ olds) knowns ≡ true) where
    parts : (all_told m (st' ∷ st ∷ olds) (stay_trees p s texts contract pt l) ≡ true) × (all_told m (st' ∷ st ∷ olds) (map (head_tree p s texts pt) l.invariants) ≡ true)
    parts = and_parts (all_told m (st' ∷ st ∷ olds) (stay_trees p s texts contract pt l)) (all_told m (st' ∷ st ∷ olds) (map (head_tree p s texts pt) l.invariants))
        (sym (all_append (λ f. truth m (leaves_of (st' ∷ st ∷ olds)) (closed f)) (stay_trees p s texts contract pt l) (map (head_tree p s texts pt) l.invariants)) ∙ told)

    is_renewed : Renewed p s (file_changes contract pt l) (local_changes l ss) st st'
    is_renewed = renewed p s (file_changes contract pt l) (local_changes l ss) (st ∷ st ∷ olds) st st' big changes

    abbrev d : CoreWorld
    d = head_world m p s texts setting contract pt here olds placed i pt.outs l ss fits t0 c st stands st' is_renewed parts.0

    is_head : AtHead p s.variables own l ss c d
    is_head = at_head m p s texts setting contract pt here olds placed i pt.outs l ss fits t0 c st stands st' is_renewed parts.0

    is_there : StandsFor p s t0 i used d st'
    is_there = stands_there m p s texts setting contract pt here olds placed i pt.outs l ss fits t0 c st stands st' is_renewed parts.0

    is_kept : claimed p (in_body p own d.world) broken.invariant l.invariants ≡ None
    is_kept = told_heads m p s texts pt (in_body p own d.world) st' (st ∷ olds) (head_seen d st' is_there) l.invariants fits.invariants parts.1

    that_pass : BothWays (segs.AllSeg q s.variables own ss d) PassMeets (st' ∷ st ∷ olds) n2 pass st'
    that_pass = pass_both own (st' ∷ st ∷ olds) (placed_in_pass m p s texts setting.globals contract fits.assumes pt here olds placed c.world st entry_sees l fits.regions st') n2 d st' is_there

    end_back : (o : Ending) → segs.AllSeg q s.variables own ss d o → (last : State) → PassMeets o (goes_on last) → goes pass ≡ true → (e : End)
        → (j : ℕ) × FirstFalse (n2 + count pass) (told_forms (last ∷ st' ∷ st ∷ olds) (forms lasts)) j × (fails j ≡ e) → Back e
    end_back (run.goes_on x) h last meets go e (j, first_false, same) =
        let r = comes_false (st' ∷ st ∷ olds) last lasts (n2 + count pass) j _ (end_comes d x st' last is_there meets) first_false in
        (stopped r.0, segs.again_fails inside entered is_head is_kept h r.1.0, subst (Meets (stopped r.0)) same (end_fails go j r.0 r.1.1))
    end_back (run.exits k x) h last meets go e r = absurd meets
    end_back (run.returns v x) h last meets go e r = absurd meets
    end_back (run.stopped y) h last meets go e r = absurd meets

    pass_back : (e : End) → (IsOver e × Seg (st' ∷ st ∷ olds) n2 pass st' e) ⊎ ((last : State) × Seg (st' ∷ st ∷ olds) n2 pass st' (goes_on last) × Seg (st' ∷ st ∷ olds) (n2 + count pass) end_word last e)
        → Back e
    pass_back e (inl (over, k)) =
        let x = that_pass.back e k in
        let leave = over_leaves p s t0 i pt.outs no_temporaries (places pass) n2 x.0 e over x.2 in
        (x.0, segs.pass_ends inside entered is_head is_kept x.1 leave, left x.0 e leave x.2)
    pass_back e (inr (last, k, r)) = let x = that_pass.back (goes_on last) k in end_back x.0 x.1 last x.2 (comes k) e (last_asks r)

  head_back : loop_inside p here l c.world ≡ true → claimed p (in_body p own c.world) broken.invariant l.invariants ≡ None → (e : End) → Seg (st ∷ olds) n2 head_word st e → Back e
  head_back inside entered e k =
      let x = changes_then k in
      let y = knows_then x.2 in
      pass_back inside entered x.0 x.1 (known_all m (x.0 ∷ st ∷ olds) knowns y.0) e (seq_ways (remember_way y.1))

  entry_back : loop_inside p here l c.world ≡ true → (e : End)
      → ((j : ℕ) × FirstFalse n1 (told_forms (st ∷ st ∷ olds) (forms entries)) j × (fails j ≡ e)) ⊎ (AllTrue (told_forms (st ∷ st ∷ olds) (forms entries)) × Seg (st ∷ olds) n2 head_word st e) → Back e
  entry_back inside e (inl (j, first_false, same)) =
      let r = comes_false (st ∷ olds) st entries n1 j _ entry_comes first_false in (
        stopped r.0,
        segs.entry_fails inside r.1.0,
        subst (Meets (stopped r.0)) same
            (fails_second first (step.remember inner_word) n j r.0 refl (fails_first (step.ask entries) head_word n1 j r.0 r.1.1)),
      )
  entry_back inside e (inr (all, k)) = head_back inside (comes_true (st ∷ olds) st entries _ entry_comes all) e k

  first_back : (e : End)
      → ((j : ℕ) × FirstFalse n (told_forms (st ∷ olds) (forms (map (λ f. check m f (broken_place broken.assigns l.line)) trees))) j × (fails j ≡ e))
      ⊎ (AllTrue (told_forms (st ∷ olds) (forms (map (λ f. check m f (broken_place broken.assigns l.line)) trees))) × Seg olds n1 (step.remember inner_word) st e) → Back e
  first_back e (inl (j, first_false, same)) = (
    stopped (failed broken.assigns l.line),
    segs.set_outside (sym inside_told ∙ first_is_false m olds st (broken_place broken.assigns l.line) trees n j first_false),
    subst (Meets (stopped (failed broken.assigns l.line))) same
        (fails_first first (step.remember inner_word) n j (failed broken.assigns l.line)
        (broken_place broken.assigns l.line, first_place m olds st (broken_place broken.assigns l.line) trees n j first_false, (refl, refl))),
  )
  first_back e (inr (all, k)) =
      let inside = sym inside_told ∙ asked_all m (st ∷ olds) (broken_place broken.assigns l.line) trees all in
      entry_back inside e (asks_then (remember_way k))

  pub loop_both : BothWays (segs.Seg q s.variables here (repeat l ss) c) Meets olds n word st
  loop_both = record { forth = forth; back = λ e k. first_back e (asks_then k) }

pub loops_run : LoopsRun
loops_run m q s texts contract setting table here pt olds placed in_scope used_after l ss pass fits pass_both n c st stands =
    loop_both m q s texts contract setting table here pt olds placed in_scope used_after l ss pass fits pass_both n c st stands

-- The segment runs of a loop are the runs of its word.
use Rattle.std.proofs.Common.{◌≡◌, ◌⊎◌, ℕ, ◌+◌, Bool, true, ◌&&◌, List, ◌∷◌, ◌++◌, map, Some, None, refl, sym, ◌∙◌, subst, inl, inr}
use Rattle.std.proofs.lemmas.Bool.{false≢true, and_parts}
use Rattle.acsl_trees.specs.Tree as acsl
use Rattle.acsl_encode.specs.Meaning.{Stands}
use Rattle.qed_terms.specs.Meaning as sense
use Rattle.qed_terms.specs.Tree.{Tree}
use Rattle.c_runs.specs.Program.{Contract, Loop, Facts, Program}
use Rattle.c_runs.specs.States.{Here, seen}
use Rattle.c_runs.specs.Claims as broken
use Rattle.c_runs.specs.Claims.{Stop, failed, claimed, in_body, measure_of}
use Rattle.c_runs.specs.CoreRun as run
use Rattle.c_runs.specs.CoreRun.{CoreWorld, Ending, stopped}
use Rattle.c_runs.specs.Tree.{Steps, repeat}
use Rattle.goal_segments.specs.RunSegments.{Leaves, by_exit, by_return, by_stop}
use Rattle.goal_segments.specs.Sets.{own_loop, loop_inside}
use Rattle.goal_segments.specs.Segments as segs
use Rattle.goal_segments.specs.Segments.{AtHead}
use Rattle.walk_steps.specs.Forms.{Place}
use Rattle.walk_steps.specs.State.{AllTrue, FirstFalse}
use Rattle.memory_steps.specs.State.{State}
use Rattle.memory_steps.specs.Forms.{Check, forms, told_forms}
use Rattle.memory_steps.specs.Step.{Step, places, count, goes}
use Rattle.memory_steps.specs.Step as step
use Rattle.memory_steps.specs.Run.{End, goes_on, leaves, fails, IsOver, Seg}
use Rattle.memory_steps.specs.Run as seg
use Rattle.memory_steps.proofs.Readings.{seq_ways, asks_then, knows_then, remember_way, last_asks}
use Rattle.memory_words.specs.Leaves.{leaves_of, form}
use Rattle.program_steps.specs.Stops.{broken_place}
use Rattle.program_steps.specs.Temporaries.{Temporaries, no_temporaries, all_live}
use Rattle.memory_words.specs.Shapes.{FileCells, Shape, sizes}
use Rattle.memory_words.specs.Readings.{Texts}
use Rattle.memory_words.specs.Standing.{Frame, StandsFor}
use Rattle.memory_words.specs.Seen.{BodySeen, SeenInBody}
use Rattle.memory_words.proofs.Seeing.{bodies_see}
use Rattle.memory_words.proofs.Worlds.{annotations_read}
use Rattle.memory_words.specs.Points.{Point, uses_of, remembered, later}
use Rattle.memory_words.specs.Words.{in_pass, check, ask_all}
use Rattle.memory_words.specs.Placed.{Openings, all_told, FailsAs, Placed, Ends, BothWays}
use Rattle.memory_words.proofs.PutListing.{comes, fails_first, fails_second}
use Rattle.memory_words.proofs.Asking.{behind}
use Rattle.memory_words.proofs.Ends.{ends_well, first_is_false, first_place, asked_goes, asked_fails}
use Rattle.memory_calls.specs.LoopSets.{inside_trees}
use Rattle.memory_calls.specs.LoopWords.{stay_trees, head_tree, head_point, head_reading, before_reading, end_reading, entry_check, end_checks, loop_word}
use Rattle.memory_calls.specs.LoopLaws.{LoopsRun}
use Rattle.memory_calls.proofs.Coming.{Comes, ask_stops, ask_goes, comes_false, comes_true, all_known, known_all, asked_all, told_append}
use Rattle.memory_calls.proofs.Checking.{entries_come, heads_told, told_heads, ends_come}
use Rattle.memory_calls.proofs.Sites as sites
use Rattle.memory_calls.proofs.Sites.{Site, HeadIs}
use Rattle.memory_calls.proofs.LoopInside.{inside_so}
use Rattle.memory_calls.proofs.Passing.{placed_in_pass}
use Rattle.memory_calls.proofs.Heads.{head_is}

module _ (p : Facts) (s : Shape) (cells : FileCells) (fr : Frame) (os : Openings) (outs : List Temporaries) where
  -- what comes behind isn't come to
  over_ends : (f : Temporaries) (ps : List Place) (n : ℕ) (o : Ending) (e : End) → Leaves o → Ends p s cells fr os outs f ps n o e → seg.IsOver e
  over_ends f ps n _ (goes_on st) by_exit h = h
  over_ends f ps n _ (leaves k st) by_exit h = tt
  over_ends f ps n _ (fails j) by_exit h = tt
  over_ends f ps n _ (goes_on st) by_return h = h
  over_ends f ps n _ (leaves k st) by_return h = tt
  over_ends f ps n _ (fails j) by_return h = tt
  over_ends f ps n _ (goes_on st) by_stop h = h
  over_ends f ps n _ (leaves k st) by_stop h = tt
  over_ends f ps n _ (fails j) by_stop h = tt

  over_leaves : (f : Temporaries) (ps : List Place) (n : ℕ) (o : Ending) (e : End) → seg.IsOver e → Ends p s cells fr os outs f ps n o e → Leaves o
  over_leaves f ps n (run.goes_on c) (goes_on st) over h = absurd over
  over_leaves f ps n (run.goes_on c) (leaves k st) over h = absurd h
  over_leaves f ps n (run.goes_on c) (fails j) over h = absurd h
  over_leaves f ps n (run.exits k c) e over h = by_exit
  over_leaves f ps n (run.returns v c) e over h = by_return
  over_leaves f ps n (run.stopped x) e over h = by_stop

  -- and what is used behind is the same to it
  ends_else : (f g : Temporaries) (ps : List Place) (n : ℕ) (o : Ending) (e : End) → Leaves o → Ends p s cells fr os outs f ps n o e → Ends p s cells fr os outs g ps n o e
  ends_else f g ps n _ (goes_on st) by_exit h = h
  ends_else f g ps n _ (leaves k st) by_exit h = h
  ends_else f g ps n _ (fails j) by_exit h = h
  ends_else f g ps n _ (goes_on st) by_return h = h
  ends_else f g ps n _ (leaves k st) by_return h = h
  ends_else f g ps n _ (fails j) by_return h = h
  ends_else f g ps n _ (goes_on st) by_stop h = h
  ends_else f g ps n _ (leaves k st) by_stop h = h
  ends_else f g ps n _ (fails j) by_stop h = h

module _ (m : sense.World) (q : Program Steps) (s : Shape) (cells : FileCells) (texts : Texts) (contract : Contract) (here : Here) (pt : Point) (olds : List State) (fr : Frame)
    (os : Openings) (used_after : Temporaries) (l : Loop) (ss : Steps) (pass : Step)
    (pass_both : (here : Here) (olds : List State) (fr : Frame) → Placed m q.facts s cells texts contract (in_pass l pt) here olds fr os → (n : ℕ) (c : CoreWorld) (st : State)
    → StandsFor q.facts s cells fr (all_live ss (uses_of pt.outs) no_temporaries) c st
    → BothWays (segs.AllSeg q s.variables here ss c) (Ends q.facts s cells fr os (uses_of pt.outs) no_temporaries (places pass) n) olds n pass st)
    (n : ℕ) (c : CoreWorld) (st : State) (site : Site m q.facts s cells texts contract here pt olds fr os l ss c st) where
  abbrev p : Facts
  p = q.facts

  abbrev outs : List Temporaries
  outs = uses_of pt.outs

  abbrev used : Temporaries
  used = all_live ss outs no_temporaries

  abbrev own : Here
  own = own_loop p here l c.world

  -- ---- the parts of the word

  abbrev trees : List Tree
  trees = inside_trees p s cells texts contract pt l

  abbrev first : Step
  first = ask_all m (sizes p s) trees (broken_place broken.assigns l.line)

  abbrev entries : List Check
  entries = map (entry_check p s cells texts m l pt) l.invariants

  abbrev stays : List Tree
  stays = stay_trees p s cells texts contract pt l ss

  abbrev heads : List Tree
  heads = map (head_tree p s cells texts l pt) l.invariants

  abbrev lasts : List Check
  lasts = end_checks p s cells texts m l pt

  abbrev end_word : Step
  end_word = step.seq (step.ask lasts) step.halt

  abbrev pass_word : Step
  pass_word = step.seq pass end_word

  abbrev turning : Step
  turning = sites.turning m p s cells texts contract here pt olds fr l ss c st

  abbrev known_word : Step
  known_word = step.seq (step.know (map (form m) (stays ++ heads))) (step.remember pass_word)

  abbrev head_word : Step
  head_word = step.seq turning known_word

  abbrev inner_word : Step
  inner_word = step.seq (step.ask entries) head_word

  abbrev word : Step
  word = loop_word m p s cells texts contract pt l ss pass

  abbrev n1 : ℕ
  n1 = n + count first

  abbrev n2 : ℕ
  n2 = n1 + count (step.ask entries)

  abbrev n3 : ℕ
  n3 = n2 + count turning

  abbrev Meets : Ending → End → Type 0
  Meets o e = Ends p s cells fr os outs used_after (places word) n o e

  abbrev PassMeets : Ending → End → Type 0
  PassMeets o e = Ends p s cells fr os outs no_temporaries (places pass) n3 o e

  -- ---- where checks fail

  inner_fails : goes turning ≡ true → (j : ℕ) (e : Stop) → FailsAs (places pass_word) n3 j e → FailsAs (places word) n j e
  inner_fails go j e h =
      fails_second first (step.remember inner_word) n j e refl (fails_second (step.ask entries) head_word n1 j e refl (fails_second turning known_word n2 j e go h))

  pass_fails : goes turning ≡ true → (j : ℕ) (e : Stop) → FailsAs (places pass) n3 j e → FailsAs (places word) n j e
  pass_fails go j e h = inner_fails go j e (fails_first pass end_word n3 j e h)

  end_fails : goes turning ≡ true → goes pass ≡ true → (j : ℕ) (e : Stop) → FailsAs (places (step.ask lasts)) (n3 + count pass) j e → FailsAs (places word) n j e
  end_fails turns go j e h = inner_fails turns j e (fails_second pass end_word n3 j e go (fails_first (step.ask lasts) step.halt (n3 + count pass) j e h))

  left : goes turning ≡ true → (o : Ending) (e : End) → Leaves o → PassMeets o e → Meets o e
  left go o e over h =
      (ends_well p s cells fr os outs used_after).more (places pass) (places word) n3 n (pass_fails go) o e
      (ends_else p s cells fr os outs no_temporaries used_after (places pass) n3 o e over h)

  -- ---- states that annotations see

  in_scope_is : fr.in_scope ≡ pt.stands.in_scope
  in_scope_is = λ i x. site.placed.scope x i

  body_sees : (f : Temporaries) (d : CoreWorld) (x : State) → StandsFor p s cells fr f d x → SeenInBody m p s cells texts pt.stands.in_scope x (seen p d.world)
  body_sees f d x there =
      subst (λ i. SeenInBody m p s cells texts i x (seen p d.world)) in_scope_is (bodies_see m p s cells texts site.setting fr site.placed.lives f d x there)

  head_seen : (f : Temporaries) (d : CoreWorld) (x : State) → StandsFor p s cells fr f d x → BodySeen m p s cells texts (head_point p s cells texts l pt).stands (x ∷ st ∷ olds) (in_body p own d.world)
  head_seen f d x there = record {
    file = record { model = refl; structs = λ n. refl };
    here_is = body_sees f d x there;
    pre_is = site.placed.entry st;
    post_is = body_sees f d x there;
    loop_is = body_sees used c st site.stands;
  }

  before_seen : (d : CoreWorld) (x last : State) → StandsFor p s cells fr used d x
      → BodySeen m p s cells texts (later (head_point p s cells texts l pt).stands) (last ∷ x ∷ st ∷ olds) (in_body p own d.world)
  before_seen d x last there = record {
    file = record { model = refl; structs = λ n. refl };
    here_is = body_sees used d x there;
    pre_is = site.placed.entry st;
    post_is = body_sees used d x there;
    loop_is = body_sees used c st site.stands;
  }

  end_seen : (y : CoreWorld) (x last : State) → StandsFor p s cells fr no_temporaries y last
      → BodySeen m p s cells texts (remembered (head_point p s cells texts l pt)).stands (last ∷ x ∷ st ∷ olds) (in_body p own y.world)
  end_seen y x last there = record {
    file = record { model = refl; structs = λ n. refl };
    here_is = body_sees no_temporaries y last there;
    pre_is = site.placed.entry st;
    post_is = body_sees no_temporaries y last there;
    loop_is = body_sees used c st site.stands;
  }

  head_read : (f : Temporaries) (d : CoreWorld) (x : State) → StandsFor p s cells fr f d x → (a : acsl.Tree)
      → Stands m (head_reading p s cells texts l pt a) (leaves_of (x ∷ st ∷ olds)) (in_body p own d.world)
  head_read f d x there a = (annotations_read m p s cells texts site.setting (x ∷ st ∷ olds) (in_body p own d.world) a).body (head_point p s cells texts l pt).stands (head_seen f d x there)

  before_read : (d : CoreWorld) (x last : State) → StandsFor p s cells fr used d x → (a : acsl.Tree)
      → Stands m (before_reading p s cells texts l pt a) (leaves_of (last ∷ x ∷ st ∷ olds)) (in_body p own d.world)
  before_read d x last there a =
      (annotations_read m p s cells texts site.setting (last ∷ x ∷ st ∷ olds) (in_body p own d.world) a).body (later (head_point p s cells texts l pt).stands) (before_seen d x last there)

  end_read : (y : CoreWorld) (x last : State) → StandsFor p s cells fr no_temporaries y last → (a : acsl.Tree)
      → Stands m (end_reading p s cells texts l pt a) (leaves_of (last ∷ x ∷ st ∷ olds)) (in_body p own y.world)
  end_read y x last there a =
      (annotations_read m p s cells texts site.setting (last ∷ x ∷ st ∷ olds) (in_body p own y.world) a).body (remembered (head_point p s cells texts l pt)).stands (end_seen y x last there)

  -- ---- what is asked

  inside_told : all_told m (st ∷ olds) trees ≡ loop_inside p here l c.world
  inside_told = inside_so m p s cells texts contract here pt olds fr os l ss c st site

  entry_comes : Comes (st ∷ st ∷ olds) entries (claimed p (in_body p own c.world) broken.invariant l.invariants)
  entry_comes = entries_come m p s cells texts l pt (in_body p own c.world) (st ∷ st ∷ olds) (head_read used c st site.stands) l.invariants site.fits.invariants

  end_comes : (d y : CoreWorld) (x last : State) → StandsFor p s cells fr used d x → StandsFor p s cells fr no_temporaries y last
      → Comes (last ∷ x ∷ st ∷ olds) lasts (broken.at_head p (in_body p own y.world) l (measure_of p (in_body p own d.world) l.variant))
  end_comes d y x last there last_there =
      ends_come m p s cells texts l pt (in_body p own d.world) (in_body p own y.world) (last ∷ x ∷ st ∷ olds) (before_read d x last there) (end_read y x last last_there)
      site.fits.invariants site.fits.variant

  head : HeadIs m p s cells texts contract here pt olds fr l ss c st
  head = head_is m p s cells texts contract here pt olds fr os l ss c st site

  both_told : (a b : Bool) → a ≡ true → b ≡ true → (a && b) ≡ true
  both_told a b h k = λ i. h i && k i

  -- ---- forth

  abbrev Found : Ending → Type 0
  Found o = (e : End) × Seg olds n word st e × Meets o e

  inner_runs : loop_inside p here l c.world ≡ true → (e : End) → Seg (st ∷ olds) n1 inner_word st e → Seg olds n word st e
  inner_runs inside e k = seg.goes_both (asked_goes m (sizes p s) olds st (broken_place broken.assigns l.line) trees n (inside_told ∙ inside)) (seg.remembers k)

  -- behind the head
  module _ (inside : loop_inside p here l c.world ≡ true) (entered : claimed p (in_body p own c.world) broken.invariant l.invariants ≡ None) (d : CoreWorld) (x : State)
      (turned : Seg (st ∷ olds) n2 turning st (goes_on x)) (there : StandsFor p s cells fr used d x) where
    pass_is : BothWays (segs.AllSeg q s.variables own ss d) PassMeets (x ∷ st ∷ olds) n3 pass x
    pass_is = pass_both own (x ∷ st ∷ olds) fr (placed_in_pass m p s cells texts contract here pt olds fr os l ss c st site x) n3 d x there

    module _ (at_head : AtHead p s.variables own l ss c d) (kept : claimed p (in_body p own d.world) broken.invariant l.invariants ≡ None) (stay : all_told m (x ∷ st ∷ olds) stays ≡ true) where
      head_told : all_told m (x ∷ st ∷ olds) (stays ++ heads) ≡ true
      head_told = told_append m (x ∷ st ∷ olds) stays heads
          ∙ both_told (all_told m (x ∷ st ∷ olds) stays) (all_told m (x ∷ st ∷ olds) heads) stay
          (heads_told m p s cells texts l pt (in_body p own d.world) (x ∷ st ∷ olds) (head_read used d x there) l.invariants site.fits.invariants kept)

      pass_runs : (e : End) → Seg (x ∷ st ∷ olds) n3 pass_word x e → Seg olds n word st e
      pass_runs e k = inner_runs inside e (seg.goes_both (ask_goes (st ∷ olds) st entries n1 _ entry_comes entered)
          (seg.goes_both turned (seg.goes_both (seg.knows_so (all_known m (x ∷ st ∷ olds) (stays ++ heads) head_told)) (behind (seg.remembers k)))))

      passes : (o : Ending) → segs.AllSeg q s.variables own ss d o → Leaves o → Found o
      passes o h over =
          let y = pass_is.forth o h in
          (y.0, pass_runs y.0 (seg.ends_first y.1 (over_ends p s cells fr os outs no_temporaries (places pass) n3 o y.0 over y.2)), left (comes turned) o y.0 over y.2)

      again : (y : CoreWorld) (z : Stop) → broken.at_head p (in_body p own y.world) l (measure_of p (in_body p own d.world) l.variant) ≡ Some z → (e : End)
          → Seg (x ∷ st ∷ olds) n3 pass x e → PassMeets (run.goes_on y) e → Found (stopped z)
      again y z h (goes_on last) k meets =
          let r = ask_stops (x ∷ st ∷ olds) last lasts (n3 + count pass) _ z (end_comes d y x last there meets) h in
          (fails r.0, pass_runs (fails r.0) (seg.goes_both k (seg.ends_first r.1 tt)), end_fails (comes turned) (comes k) r.0 z r.2)
      again y z h (leaves j last) k meets = absurd meets
      again y z h (fails j) k meets = absurd meets

  forth : (o : Ending) → segs.Seg q s.variables here (repeat l ss) c o → Found o
  forth o (segs.single is h) = absurd (false≢true is)
  forth _ (segs.set_outside out) =
      let r = asked_fails m (sizes p s) olds st (broken_place broken.assigns l.line) trees n (failed broken.assigns l.line) (refl, refl) (inside_told ∙ out) in
      (fails r.0, seg.ends_first r.1 tt, fails_first first (step.remember inner_word) n r.0 (failed broken.assigns l.line) r.2)
  forth _ (segs.entry_fails {s = y} inside h) =
      let r = ask_stops (st ∷ olds) st entries n1 _ y entry_comes h in
      (fails r.0, inner_runs inside (fails r.0) (seg.ends_first r.1 tt), fails_second first (step.remember inner_word) n r.0 y refl (fails_first (step.ask entries) head_word n1 r.0 y r.2))
  forth o (segs.pass_ends {d = d} inside entered at_head kept h over) =
      let x = head.forth d at_head n2 in passes inside entered d x.0 x.1 x.2 at_head kept x.3 o h over
  forth _ (segs.again_fails {d = d} {e = y} {s = z} inside entered at_head kept h fails_so) =
      let x = head.forth d at_head n2 in
      let r = (pass_is inside entered d x.0 x.1 x.2).forth (run.goes_on y) h in
      again inside entered d x.0 x.1 x.2 at_head kept x.3 y z fails_so r.0 r.1 r.2

  -- ---- back

  abbrev Back : End → Type 0
  Back e = (o : Ending) × segs.Seg q s.variables here (repeat l ss) c o × Meets o e

  module _ (inside : loop_inside p here l c.world ≡ true) (entered : claimed p (in_body p own c.world) broken.invariant l.invariants ≡ None) (x : State)
      (turned : Seg (st ∷ olds) n2 turning st (goes_on x)) (d : CoreWorld) (is_head : AtHead p s.variables own l ss c d) (there : StandsFor p s cells fr used d x)
      (told : all_told m (x ∷ st ∷ olds) heads ≡ true) where
    is_kept : claimed p (in_body p own d.world) broken.invariant l.invariants ≡ None
    is_kept = told_heads m p s cells texts l pt (in_body p own d.world) (x ∷ st ∷ olds) (head_read used d x there) l.invariants site.fits.invariants told

    that_pass : BothWays (segs.AllSeg q s.variables own ss d) PassMeets (x ∷ st ∷ olds) n3 pass x
    that_pass = pass_is inside entered d x turned there

    end_back : (o : Ending) → segs.AllSeg q s.variables own ss d o → (last : State) → PassMeets o (goes_on last) → goes pass ≡ true → (e : End)
        → (j : ℕ) × FirstFalse (n3 + count pass) (told_forms (last ∷ x ∷ st ∷ olds) (forms lasts)) j × (fails j ≡ e) → Back e
    end_back (run.goes_on y) h last meets go e (j, first_false, same) =
        let r = comes_false (x ∷ st ∷ olds) last lasts (n3 + count pass) j _ (end_comes d y x last there meets) first_false in
        (stopped r.0, segs.again_fails inside entered is_head is_kept h r.1.0, subst (Meets (stopped r.0)) same (end_fails (comes turned) go j r.0 r.1.1))
    end_back (run.exits k y) h last meets go e r = absurd meets
    end_back (run.returns v y) h last meets go e r = absurd meets
    end_back (run.stopped y) h last meets go e r = absurd meets

    pass_back : (e : End) → (IsOver e × Seg (x ∷ st ∷ olds) n3 pass x e) ⊎ ((last : State) × Seg (x ∷ st ∷ olds) n3 pass x (goes_on last) × Seg (x ∷ st ∷ olds) (n3 + count pass) end_word last e)
        → Back e
    pass_back e (inl (over, k)) =
        let y = that_pass.back e k in
        let leave = over_leaves p s cells fr os outs no_temporaries (places pass) n3 y.0 e over y.2 in
        (y.0, segs.pass_ends inside entered is_head is_kept y.1 leave, left (comes turned) y.0 e leave y.2)
    pass_back e (inr (last, k, r)) = let y = that_pass.back (goes_on last) k in end_back y.0 y.1 last y.2 (comes k) e (last_asks r)

  module _ (inside : loop_inside p here l c.world ≡ true) (entered : claimed p (in_body p own c.world) broken.invariant l.invariants ≡ None) where
    abbrev HeadFound : State → Type 0
    HeadFound new = all_told m (new ∷ st ∷ olds) stays ≡ true → (d : CoreWorld) × AtHead p s.variables own l ss c d × StandsFor p s cells fr used d new

    known_back : (e : End) (x : State) → Seg (st ∷ olds) n2 turning st (goes_on x) → HeadFound x → Seg (st ∷ olds) n3 known_word x e → Back e
    known_back e x turned found k =
        let y = knows_then k in
        let parts = and_parts (all_told m (x ∷ st ∷ olds) stays) (all_told m (x ∷ st ∷ olds) heads)
        (sym (told_append m (x ∷ st ∷ olds) stays heads) ∙ known_all m (x ∷ st ∷ olds) (stays ++ heads) y.0) in
        let d = found parts.0 in
        pass_back inside entered x turned d.0 d.1 d.2 parts.1 e (seq_ways (remember_way y.1))

    going : {x y : State} → goes_on x ≡ goes_on y → x ≡ y
    going e = cc

    head_back : (e : End) → (IsOver e × Seg (st ∷ olds) n2 turning st e) ⊎ ((x : State) × Seg (st ∷ olds) n2 turning st (goes_on x) × Seg (st ∷ olds) n3 known_word x e) → Back e
    head_back e (inl (over, k)) = let x = head.back n2 e k in absurd (subst IsOver (sym x.1) over)
    head_back e (inr (x, turned, k)) = let y = head.back n2 (goes_on x) turned in known_back e x turned (subst HeadFound (going y.1) y.2) k

  entry_back : loop_inside p here l c.world ≡ true → (e : End)
      → ((j : ℕ) × FirstFalse n1 (told_forms (st ∷ st ∷ olds) (forms entries)) j × (fails j ≡ e)) ⊎ (AllTrue (told_forms (st ∷ st ∷ olds) (forms entries)) × Seg (st ∷ olds) n2 head_word st e)
      → Back e
  entry_back inside e (inl (j, first_false, same)) =
      let r = comes_false (st ∷ olds) st entries n1 j _ entry_comes first_false in (
        stopped r.0,
        segs.entry_fails inside r.1.0,
        subst (Meets (stopped r.0)) same
            (fails_second first (step.remember inner_word) n j r.0 refl (fails_first (step.ask entries) head_word n1 j r.0 r.1.1)),
      )
  entry_back inside e (inr (all, k)) = head_back inside (comes_true (st ∷ olds) st entries _ entry_comes all) e (seq_ways k)

  first_back : (e : End)
      → ((j : ℕ) × FirstFalse n (told_forms (st ∷ olds) (forms (map (λ f. check m (sizes p s) f (broken_place broken.assigns l.line)) trees))) j × (fails j ≡ e))
      ⊎ (AllTrue (told_forms (st ∷ olds) (forms (map (λ f. check m (sizes p s) f (broken_place broken.assigns l.line)) trees))) × Seg olds n1 (step.remember inner_word) st e) → Back e
  first_back e (inl (j, first_false, same)) = (
    stopped (failed broken.assigns l.line),
    segs.set_outside (sym inside_told ∙ first_is_false m (sizes p s) olds st (broken_place broken.assigns l.line) trees n j first_false),
    subst (Meets (stopped (failed broken.assigns l.line))) same
        (fails_first first (step.remember inner_word) n j (failed broken.assigns l.line)
        (broken_place broken.assigns l.line, first_place m (sizes p s) olds st (broken_place broken.assigns l.line) trees n j first_false, (refl, refl))),
  )
  first_back e (inr (all, k)) =
      let inside = sym inside_told ∙ asked_all m (st ∷ olds) (sizes p s) (broken_place broken.assigns l.line) trees all in
      entry_back inside e (asks_then (remember_way k))

  pub loop_both : BothWays (segs.Seg q s.variables here (repeat l ss) c) Meets olds n word st
  loop_both = record { forth = forth; back = λ e k. first_back e (asks_then k) }

pub loops_run : LoopsRun
loops_run m q s cells texts contract setting here pt olds fr os placed used_after l ss fits pass pass_both n c st stands =
    loop_both m q s cells texts contract here pt olds fr os used_after l ss pass pass_both n c st (record { setting = setting; placed = placed; fits = fits; stands = stands })

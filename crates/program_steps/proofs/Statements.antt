-- Statements and their words, put together; what loops and calls do is given.
use Rattle.std.proofs.Common.{◌≡◌, ◌⊎◌, ℕ, zero, suc, ◌+◌, ℤ, pos, Bool, true, false, not, ◌&&◌, ◌||◌, List, [], ◌∷◌, Option, Some, None, refl, sym, ap, ◌∙◌, subst, inl, inr, arith}
use Rattle.std.proofs.lemmas.Bool.{false≢true}
use Rattle.wp_base.specs.Blocks.{Table}
use Rattle.typed_prog.specs.Tree as t
use Rattle.qed_terms.specs.Meaning as sense
use Rattle.qed_terms.specs.Meaning.{truth}
use Rattle.qed_terms.specs.Tree.{Tree, not_of}
use Rattle.c_runs.specs.TruthStates.{Value, number}
use Rattle.c_runs.specs.Program.{Contract, Facts, Program}
use Rattle.c_runs.specs.States.{World, Here, is_nonzero}
use Rattle.c_runs.specs.Claims.{Stop}
use Rattle.c_runs.specs.CoreRun as run
use Rattle.c_runs.specs.CoreRun.{CoreWorld, Ending, stopped, block_end, scope_end, scope_left, in_world}
use Rattle.c_runs.specs.Checks.{Check}
use Rattle.c_runs.specs.Tests.{is_met}
use Rattle.c_runs.specs.Tree as core
use Rattle.c_runs.specs.Tree.{Steps}
use Rattle.c_runs.specs.CheckedRun as exec
use Rattle.goal_segments.specs.RunSegments.{Asks, BlockEnds, Leaves}
use Rattle.goal_segments.specs.Segments as segs
use Rattle.goal_segments.specs.Segments.{Opened, no_deeper}
use Rattle.goal_segments.proofs.Following.{block_ends}
use Rattle.plain_states.specs.Slots.{State}
use Rattle.goal_segments.specs.Told.{Shape, sizes, with_names, temps}
use Rattle.value_terms.specs.Readings.{condition}
use Rattle.value_terms.specs.Terms.{term_of}
use Rattle.value_terms.specs.Words.{Item, checks_in, word_of}
use Rattle.walk_steps.specs.Forms.{Place}
use Rattle.walk_steps.specs.Step.{Step, places, count}
use Rattle.walk_steps.specs.Step as step
use Rattle.walk_steps.specs.Run.{End, goes_on, leaves, fails, on_state, put_back, out, Seg}
use Rattle.walk_steps.specs.Run as seg
use Rattle.walk_steps.proofs.Readings.{seq_ways, knows_then, choose_ways, block_way, scope_way}
use Rattle.program_steps.specs.Leaves.{is_closed, or_false, closed, leaves_of, form}
use Rattle.program_steps.specs.Temporaries.{Temporaries, no_temporaries, out_at, uses, live, all_live}
use Rattle.program_steps.specs.Terms.{Texts, reading}
use Rattle.program_steps.specs.Words as word
use Rattle.program_steps.specs.Words.{Point, Others, in_block, in_pass, items_step, arms, known_test, slots_of, all_opened}
use Rattle.program_steps.specs.Standing.{StandsFor, Ends}
use Rattle.program_steps.specs.Typed.{OtherFits, WordFits, AllFit}
use Rattle.program_steps.specs.Placed.{InSetting, Placed, BothWays}
use Rattle.program_steps.specs.Others.{OthersRun}
use Rattle.program_steps.proofs.Listing.{comes, fails_first, fails_second, fails_arm, fails_other}
use Rattle.program_steps.proofs.Setting.{used_less}
use Rattle.program_steps.proofs.Asking.{behind}
use Rattle.program_steps.proofs.Ends.{ends_more, after_items}
use Rattle.program_steps.proofs.Valued.{says, checks, condition_is}
use Rattle.program_steps.proofs.Scoping.{enters, finds, AllIn, leaves_block, declared_in, declared_zero, result_kept}
use Rattle.program_steps.proofs.Singles.{single_both}
use Rattle.program_steps.proofs.Dropping.{goes_parts, over_ends, over_leaves, ends_else, goes_from, goes_to, block_out, dropped, behind_dropped}

module _ (m : sense.World) (q : Program Steps) (s : Shape) (texts : Texts) (contract : Contract) (others : Others) (asked : OtherFits)
    (run_so : OthersRun m q s texts contract others asked) (setting : InSetting m q.facts s) (t0 : Table) where
  abbrev p : Facts
  p = q.facts

  abbrev step_word : Point → core.Step → Temporaries → Step
  step_word pt a f = word.step m p s texts contract others pt a f

  abbrev steps_word : Point → Steps → Temporaries → Step
  steps_word pt ss f = word.steps m p s texts contract others pt ss f

  or_left : (a b : Bool) → a ≡ true → (a || b) ≡ true
  or_left a b e = ap (λ t. t || b) e

  or_right : (a b : Bool) → b ≡ true → (a || b) ≡ true
  or_right true b e = refl
  or_right false b e = e

  -- ---- a condition that is a constant

  some_parts : {X : Type 0} {x y : X} → Some x ≡ Some y → x ≡ y
  some_parts e = cc

  no_some : {X : Type 0} {x : X} → None ≡ Some x → ⊥
  no_some e = cc

  known_is : (c : CoreWorld) (e : t.Value) (b : Bool) → known_test e ≡ Some b → is_nonzero (exec.total_in q no_deeper s.variables c e) ≡ b
  known_is c (t.typed (t.constant z) type l) b h = some_parts h
  known_is c (t.typed t.null type l) b h = absurd (no_some h)
  known_is c (t.typed (t.temporary n) type l) b h = absurd (no_some h)
  known_is c (t.typed (t.apply o es) type l) b h = absurd (no_some h)
  known_is c (t.typed (t.logic o x y) type l) b h = absurd (no_some h)
  known_is c (t.typed (t.choose x y z) type l) b h = absurd (no_some h)
  known_is c (t.typed (t.effect o es) type l) b h = absurd (no_some h)

  -- ---- two arms

  module _ (i : ℕ → Bool) (outs : List Temporaries) (f : Temporaries) (olds : List State) (st : State) (g : Tree) (closed_g : is_closed [] g ≡ true) (test : Bool)
      (told : truth m (leaves_of (st ∷ olds)) (closed g) ≡ test) (a b : Step) (one other : Ending → Type 0) where
    abbrev Either : Ending → Type 0
    Either o = ((test ≡ true) × one o) ⊎ ((test ≡ false) × other o)

    abbrev EndsIn : Step → ℕ → Ending → End → Type 0
    EndsIn x n o e = Ends p s t0 i outs f (places x) n o e

    not_told : truth m (leaves_of (st ∷ olds)) (closed (not_of g)) ≡ not test
    not_told =
        ap (λ x. truth m (leaves_of (st ∷ olds)) (or_false x (not_of g))) (ap (λ x. x && true) closed_g)
        ∙ ap not (sym (ap (λ x. truth m (leaves_of (st ∷ olds)) (or_false x g)) closed_g) ∙ told)

    chosen : (n : ℕ) → ((n' : ℕ) → test ≡ true → BothWays one (EndsIn a n') olds n' a st) → ((n' : ℕ) → test ≡ false → BothWays other (EndsIn b n') olds n' b st)
        → BothWays Either (EndsIn (step.choose (form m g) a b) n) olds n (step.choose (form m g) a b) st
    chosen n one_both other_both = record { forth = forth; back = λ e k. back e (choose_ways k) } where
      first : (o : Ending) (e : End) → EndsIn a n o e → EndsIn (step.choose (form m g) a b) n o e
      first o e h = ends_more p s t0 i outs f (places a) (places (step.choose (form m g) a b)) n n (λ j x. fails_arm (form m g) a b n j x) o e h

      second : (o : Ending) (e : End) → EndsIn b (n + count a) o e → EndsIn (step.choose (form m g) a b) n o e
      second o e h = ends_more p s t0 i outs f (places b) (places (step.choose (form m g) a b)) (n + count a) n (λ j x. fails_other (form m g) a b n j x) o e h

      forth : (o : Ending) → Either o → (e : End) × Seg olds n (step.choose (form m g) a b) st e × EndsIn (step.choose (form m g) a b) n o e
      forth o (inl h) = let x = (one_both n h.0).forth o h.1 in (x.0, seg.first_arm (told ∙ h.0) x.1, first o x.0 x.2)
      forth o (inr h) = let x = (other_both (n + count a) h.0).forth o h.1 in (x.0, seg.second_arm (told ∙ h.0) x.1, second o x.0 x.2)

      back : (e : End) → ((truth m (leaves_of (st ∷ olds)) (closed g) ≡ true) × Seg olds n a st e) ⊎ ((truth m (leaves_of (st ∷ olds)) (closed g) ≡ false) × Seg olds (n + count a) b st e)
          → (o : Ending) × Either o × EndsIn (step.choose (form m g) a b) n o e
      back e (inl h) = let t = sym told ∙ h.0 in let x = (one_both n t).back e h.1 in (x.0, inl (t, x.1), first x.0 e x.2)
      back e (inr h) = let t = sym told ∙ h.0 in let x = (other_both (n + count a) t).back e h.1 in (x.0, inr (t, x.1), second x.0 e x.2)

    both_arms : (o : Option Bool) → ((x : Bool) → o ≡ Some x → test ≡ x) → (n : ℕ)
        → ((n' : ℕ) → test ≡ true → BothWays one (EndsIn a n') olds n' a st) → ((n' : ℕ) → test ≡ false → BothWays other (EndsIn b n') olds n' b st)
        → BothWays Either (EndsIn (arms m o g a b) n) olds n (arms m o g a b) st
    both_arms None known n one_both other_both = chosen n one_both other_both
    both_arms (Some true) known n one_both other_both = record { forth = forth; back = back } where
      so : test ≡ true
      so = known true refl

      forth : (o : Ending) → Either o → (e : End) × Seg olds n (arms m (Some true) g a b) st e × EndsIn a n o e
      forth o (inl h) = let x = (one_both n h.0).forth o h.1 in (x.0, seg.goes_both (seg.knows_so (told ∙ h.0, tt)) (behind x.1), x.2)
      forth o (inr h) = absurd (false≢true (sym h.0 ∙ so))

      back : (e : End) → Seg olds n (arms m (Some true) g a b) st e → (o : Ending) × Either o × EndsIn a n o e
      back e k = let x = (one_both n so).back e (knows_then k).1 in (x.0, inl (so, x.1), x.2)
    both_arms (Some false) known n one_both other_both = record { forth = forth; back = back } where
      so : test ≡ false
      so = known false refl

      forth : (o : Ending) → Either o → (e : End) × Seg olds n (arms m (Some false) g a b) st e × EndsIn b n o e
      forth o (inl h) = absurd (false≢true (sym so ∙ h.0))
      forth o (inr h) = let x = (other_both n h.0).forth o h.1 in (x.0, seg.goes_both (seg.knows_so (not_told ∙ ap not h.0, tt)) (behind x.1), x.2)

      back : (e : End) → Seg olds n (arms m (Some false) g a b) st e → (o : Ending) × Either o × EndsIn b n o e
      back e k = let x = (other_both n so).back e (knows_then k).1 in (x.0, inr (so, x.1), x.2)

  -- ---- segment runs of statements by what they do

  abbrev total_of : CoreWorld → t.Value → Value
  total_of c e = exec.total_in q no_deeper s.variables c e

  branch_ways : (here : Here) (cs : List Check) (e : t.Value) (a b : Steps) (c : CoreWorld) (o : Ending) → segs.Seg q s.variables here (core.branch cs e a b) c o
      → ((y : Stop) × Asks (is_met p s.variables c.temps c.world e) cs (Some y) × (stopped y ≡ o))
      ⊎ (Asks (is_met p s.variables c.temps c.world e) cs None
      × (((is_nonzero (total_of c e) ≡ true) × segs.AllSeg q s.variables here a c o) ⊎ ((is_nonzero (total_of c e) ≡ false) × segs.AllSeg q s.variables here b c o)))
  branch_ways here cs e a b c o (segs.single is h) = absurd (false≢true is)
  branch_ways here cs e a b c o (segs.first_arm asks t h) = inr (asks, inl (t, h))
  branch_ways here cs e a b c o (segs.other_arm asks t h) = inr (asks, inr (t, h))
  branch_ways here cs e a b c _ (segs.test_stops {s = y} asks) = inl (y, asks, refl)

  block_ways : (here : Here) (ss : Steps) (c : CoreWorld) (u : Ending) → segs.Seg q s.variables here (core.around ss) c u → (o : Ending) × segs.AllSeg q s.variables here ss c o × BlockEnds o u
  block_ways here ss c u (segs.single is h) = absurd (false≢true is)
  block_ways here ss c u (segs.blocks {o = o} h ends) = (o, h, ends)

  pub record Scoped (here : Here) (ys : List ℕ) (ss : Steps) (c : CoreWorld) (u : Ending) : Type 0 where
    pub world : World
    pub ending : Ending
    pub opens : Opened p s.variables ys c.world world
    pub runs : segs.AllSeg q s.variables here ss (in_world c world) ending
    pub is : scope_end c.world.memory ys ending ≡ u

  scope_ways : (here : Here) (ys : List ℕ) (ss : Steps) (c : CoreWorld) (u : Ending) → segs.Seg q s.variables here (core.scope ys ss) c u → Scoped here ys ss c u
  scope_ways here ys ss c u (segs.single is h) = absurd (false≢true is)
  scope_ways here ys ss c _ (segs.scopes {w = w} {o = o} opens h) = record { world = w; ending = o; opens = opens; runs = h; is = refl }

  all_ways : (here : Here) (a : core.Step) (ss : Steps) (c : CoreWorld) (o : Ending) → segs.AllSeg q s.variables here (core.then_ a ss) c o
      → ((d : CoreWorld) × segs.Seg q s.variables here a c (run.goes_on d) × segs.AllSeg q s.variables here ss d o) ⊎ (segs.Seg q s.variables here a c o × Leaves o)
  all_ways here a ss c o (segs.goes {d = d} h k) = inl (d, h, k)
  all_ways here a ss c o (segs.stays h l) = inr (h, l)

  placed_in : (here : Here) (pt : Point) (olds : List State) (f : Temporaries) → Placed m p s texts contract pt here olds → Placed m p s texts contract (in_block f pt) here olds
  placed_in here pt olds f placed = record {
    entry = placed.entry;
    loop_entry = placed.loop_entry;
    locals = placed.locals;
    globals = placed.globals;
    carried = record { function = placed.carried.function; measure = placed.carried.measure; granted = placed.carried.granted };
  }

  -- ---- the end of a scope

  scope_out : (i : ℕ → Bool) (ys : List ℕ) (outs : List Temporaries) (f : Temporaries) (ps : List Place) (n : ℕ) (before : CoreWorld) (st : State) → AllIn s ys
      → ((g : Temporaries) (c : CoreWorld) (st' : State) → StandsFor p s t0 (with_names ys i) g c st' → StandsFor p s t0 i g (scope_left before.world.memory ys c) (put_back (slots_of (sizes p s) ys) st st'))
      → (o : Ending) (e : End) → Ends p s t0 (with_names ys i) outs f ps n o e
      → Ends p s t0 i outs f ps n (scope_end before.world.memory ys o) (on_state (put_back (slots_of (sizes p s) ys) st) e)
  scope_out i ys outs f ps n before st d left (run.goes_on c) (goes_on st') h = left f c st' h
  scope_out i ys outs f ps n before st d left (run.goes_on c) (leaves l st') h = absurd h
  scope_out i ys outs f ps n before st d left (run.goes_on c) (fails j) h = absurd h
  scope_out i ys outs f ps n before st d left (run.exits k c) (goes_on st') h = absurd h
  scope_out i ys outs f ps n before st d left (run.exits k c) (leaves l st') h = (h.0, h.1, left (out_at outs k) c st' h.2)
  scope_out i ys outs f ps n before st d left (run.exits k c) (fails j) h = absurd h
  scope_out i ys outs f ps n before st d left (run.returns v c) (goes_on st') h = absurd h
  scope_out i ys outs f ps n before st d left (run.returns v c) (leaves l st') h = (
    h.0,
    record {
      stands = left no_temporaries c st' h.1.stands;
      result = h.1.result;
      slot = λ k e. h.1.slot k e ∙ ap number (sym (result_kept p s ys st st' d));
    },
  )
  scope_out i ys outs f ps n before st d left (run.returns v c) (fails j) h = absurd h
  scope_out i ys outs f ps n before st d left (run.stopped x) (goes_on st') h = absurd h
  scope_out i ys outs f ps n before st d left (run.stopped x) (leaves l st') h = absurd h
  scope_out i ys outs f ps n before st d left (run.stopped x) (fails j) h = h

  -- ---- all statements

  abbrev Both : Here → Point → List State → (ℕ → Bool) → Temporaries → ℕ → CoreWorld → State → core.Step → Type 0
  Both here pt olds i f n c st a =
      BothWays (segs.Seg q s.variables here a c) (Ends p s t0 i pt.outs f (places (step_word pt a f)) n) olds n (step_word pt a f) st

  abbrev AllBoth : Here → Point → List State → (ℕ → Bool) → Temporaries → ℕ → CoreWorld → State → Steps → Type 0
  AllBoth here pt olds i f n c st ss =
      BothWays (segs.AllSeg q s.variables here ss c) (Ends p s t0 i pt.outs f (places (steps_word pt ss f)) n) olds n (steps_word pt ss f) st

  module _ (here : Here) (pt : Point) (olds : List State) (i : ℕ → Bool) (f : Temporaries) (n : ℕ) (c : CoreWorld) (st : State) where
    -- ---- two arms

    module _ (cs : List Check) (e : t.Value) (a b : Steps) where
      abbrev used : Temporaries
      used = live (core.branch cs e a b) pt.outs f

      abbrev so : Check → Bool
      so = is_met p s.variables c.temps c.world e

      abbrev is : List Item
      is = word_of p s.variables (reading p s) e

      abbrev drop_a : Step
      drop_a = word.dropped m p s texts contract others (λ n. uses e n || all_live b pt.outs f n) (all_live a pt.outs f)

      abbrev drop_b : Step
      drop_b = word.dropped m p s texts contract others (λ n. uses e n || all_live a pt.outs f n) (all_live b pt.outs f)

      abbrev word_a : Step
      word_a = step.seq drop_a (steps_word pt a f)

      abbrev word_b : Step
      word_b = step.seq drop_b (steps_word pt b f)

      abbrev test : Tree
      test = condition (term_of p s.variables (reading p s) e)

      abbrev Later : Ending → Type 0
      Later o = ((is_nonzero (total_of c e) ≡ true) × segs.AllSeg q s.variables here a c o) ⊎ ((is_nonzero (total_of c e) ≡ false) × segs.AllSeg q s.variables here b c o)

      module _ (stands : StandsFor p s t0 i used c st)
          (for_a : (n' : ℕ) (st' : State) → StandsFor p s t0 i (all_live a pt.outs f) c st' → AllBoth here pt olds i f n' c st' a)
          (for_b : (n' : ℕ) (st' : State) → StandsFor p s t0 i (all_live b pt.outs f) c st' → AllBoth here pt olds i f n' c st' b) where
        less_a : (j : ℕ) → all_live a pt.outs f j ≡ true → used j ≡ true
        less_a j h = or_right (uses e j) (all_live a pt.outs f j || all_live b pt.outs f j) (or_left (all_live a pt.outs f j) (all_live b pt.outs f j) h)

        less_b : (j : ℕ) → all_live b pt.outs f j ≡ true → used j ≡ true
        less_b j h = or_right (uses e j) (all_live a pt.outs f j || all_live b pt.outs f j) (or_right (all_live a pt.outs f j) (all_live b pt.outs f j) h)

        arm_a : (n' : ℕ) → BothWays (segs.AllSeg q s.variables here a c) (λ o e. Ends p s t0 i pt.outs f (places word_a) n' o e) olds n' word_a st
        arm_a n' =
            let r = dropped m q s texts contract others setting t0 i (λ n. uses e n || all_live b pt.outs f n) (all_live a pt.outs f) c olds st
            (used_less p s setting.globals setting.integers i used (all_live a pt.outs f) c st less_a stands) in
            behind_dropped m q s texts contract others setting t0 i pt.outs f (all_live a pt.outs f) c olds drop_a (steps_word pt a f) st r n' (segs.AllSeg q s.variables here a c)
            (for_a (n' + count drop_a) r.state r.stands)

        arm_b : (n' : ℕ) → BothWays (segs.AllSeg q s.variables here b c) (λ o e. Ends p s t0 i pt.outs f (places word_b) n' o e) olds n' word_b st
        arm_b n' =
            let r = dropped m q s texts contract others setting t0 i (λ n. uses e n || all_live a pt.outs f n) (all_live b pt.outs f) c olds st
            (used_less p s setting.globals setting.integers i used (all_live b pt.outs f) c st less_b stands) in
            behind_dropped m q s texts contract others setting t0 i pt.outs f (all_live b pt.outs f) c olds drop_b (steps_word pt b f) st r n' (segs.AllSeg q s.variables here b c)
            (for_b (n' + count drop_b) r.state r.stands)

        branch_both : WordFits m p s texts asked i pt.outs f (core.branch cs e a b) → Both here pt olds i f n c st (core.branch cs e a b)
        branch_both (k, fits, same, fits_a, fits_b) =
            after_items p s t0 i pt.outs f m olds st so is fits.items (says m p s setting i used c st stands olds e k fits) n (arms m (known_test e) test word_a word_b)
            (segs.Seg q s.variables here (core.branch cs e a b) c) Later
            (λ o h. to o (branch_ways here cs e a b c o h))
            (λ y asks. segs.test_stops (subst (λ cs. Asks so cs (Some y)) listed asks))
            (λ asks o h. go (subst (λ cs. Asks so cs None) listed asks) o h)
            (λ asks. both_arms i pt.outs f olds st test fits.condition (is_nonzero (total_of c e))
            (condition_is m p s setting i used c st stands olds e k fits (subst (λ cs. Asks so cs None) (checks m p s setting i used c st stands olds e k fits) asks)) word_a word_b
            (segs.AllSeg q s.variables here a c) (segs.AllSeg q s.variables here b c) (known_test e) (known_is c e) (n + count (items_step m is))
            (λ n' t. arm_a n') (λ n' t. arm_b n'))
          where
            listed : checks_in is ≡ cs
            listed = checks m p s setting i used c st stands olds e k fits ∙ sym same

            to : (o : Ending) → ((y : Stop) × Asks so cs (Some y) × (stopped y ≡ o))
                ⊎ (Asks so cs None × (((is_nonzero (total_of c e) ≡ true) × segs.AllSeg q s.variables here a c o) ⊎ ((is_nonzero (total_of c e) ≡ false) × segs.AllSeg q s.variables here b c o)))
                → ((y : Stop) × Asks so (checks_in is) (Some y) × (stopped y ≡ o))
                ⊎ (Asks so (checks_in is) None × (((is_nonzero (total_of c e) ≡ true) × segs.AllSeg q s.variables here a c o) ⊎ ((is_nonzero (total_of c e) ≡ false) × segs.AllSeg q s.variables here b c o)))
            to o (inl (y, asks, h)) = inl (y, subst (λ cs. Asks so cs (Some y)) (sym listed) asks, h)
            to o (inr (asks, h)) = inr (subst (λ cs. Asks so cs None) (sym listed) asks, h)

            go : Asks so cs None → (o : Ending)
                → ((is_nonzero (total_of c e) ≡ true) × segs.AllSeg q s.variables here a c o) ⊎ ((is_nonzero (total_of c e) ≡ false) × segs.AllSeg q s.variables here b c o)
                → segs.Seg q s.variables here (core.branch cs e a b) c o
            go asks o (inl h) = segs.first_arm asks h.0 h.1
            go asks o (inr h) = segs.other_arm asks h.0 h.1

    -- ---- blocks

    around_both : (ss : Steps) → AllBoth here (in_block f pt) olds i f n c st ss → Both here pt olds i f n c st (core.around ss)
    around_both ss both = record { forth = λ u h. forth u (block_ways here ss c u h); back = λ e k. back e (block_way k) } where
      forth : (u : Ending) → ((o : Ending) × segs.AllSeg q s.variables here ss c o × BlockEnds o u)
          → (e : End) × Seg olds n (step_word pt (core.around ss) f) st e × Ends p s t0 i pt.outs f (places (step_word pt (core.around ss) f)) n u e
      forth u (o, h, ends) =
          let x = both.forth o h in
          (out x.0, seg.blocks x.1, block_out p s t0 i pt.outs f (places (steps_word (in_block f pt) ss f)) n o u x.0 ends x.2)

      back : (e : End) → ((x : End) × Seg olds n (steps_word (in_block f pt) ss f) st x × (out x ≡ e))
          → (o : Ending) × segs.Seg q s.variables here (core.around ss) c o × Ends p s t0 i pt.outs f (places (step_word pt (core.around ss) f)) n o e
      back e (x, k, same) =
          let y = both.back x k in (
            block_end y.0,
            segs.blocks y.1 (block_ends y.0),
            subst (Ends p s t0 i pt.outs f (places (step_word pt (core.around ss) f)) n (block_end y.0)) same
                (block_out p s t0 i pt.outs f (places (steps_word (in_block f pt) ss f)) n y.0 (block_end y.0) x (block_ends y.0) y.2),
          )

    -- ---- scopes

    module _ (ys : List ℕ) (ss : Steps) (fits : WordFits m p s texts asked i pt.outs f (core.scope ys ss)) (stands : StandsFor p s t0 i (all_live ss pt.outs f) c st)
        (for_body : (n' : ℕ) (w : World) (st' : State) → StandsFor p s t0 (with_names ys i) (all_live ss pt.outs f) (in_world c w) st'
        → AllBoth here pt olds (with_names ys i) f n' (in_world c w) st' ss) where
      abbrev open_word : Step
      open_word = all_opened m s (sizes p s) ys

      abbrev body_word : Step
      body_word = steps_word pt ss f

      abbrev inner : Step
      inner = step.seq open_word body_word

      abbrev is_slots : List ℕ
      is_slots = slots_of (sizes p s) ys

      below : AllIn s ys
      below = declared_in s ys i fits.0

      left_so : (g : Temporaries) (d : CoreWorld) (st' : State) → StandsFor p s t0 (with_names ys i) g d st'
          → StandsFor p s t0 i g (scope_left c.world.memory ys d) (put_back is_slots st st')
      left_so g d st' h =
          leaves_block m p s setting.globals setting.integers t0 g olds ys i c.world.memory d st st' stands.blocks h below
          (declared_zero m p s setting.globals setting.integers t0 (all_live ss pt.outs f) olds ys i i c st (λ k e. e) fits.0 stands)

      inner_ends : (k : (n' : ℕ) → (a : State) × Seg olds n' open_word st (goes_on a)) → (o : Ending) (e : End)
          → Ends p s t0 (with_names ys i) pt.outs f (places body_word) (n + count open_word) o e → Ends p s t0 (with_names ys i) pt.outs f (places inner) n o e
      inner_ends k o e h = ends_more p s t0 (with_names ys i) pt.outs f (places body_word) (places inner) (n + count open_word) n
          (λ j x. fails_second open_word body_word n j x (comes (k n).1)) o e h

      scope_both : Both here pt olds i f n c st (core.scope ys ss)
      scope_both = record { forth = λ u h. forth u (scope_ways here ys ss c u h); back = λ e k. back e (scope_way k) } where
        forth : (u : Ending) → Scoped here ys ss c u
            → (e : End) × Seg olds n (step_word pt (core.scope ys ss) f) st e × Ends p s t0 i pt.outs f (places (step_word pt (core.scope ys ss) f)) n u e
        forth u h =
            let x = enters m p s setting.globals setting.integers t0 (all_live ss pt.outs f) olds ys i c c.world h.world st h.opens stands fits.0 in
            let y = (for_body (n + count open_word) h.world x.after x.stands).forth h.ending h.runs in (
              on_state (put_back is_slots st) y.0,
              seg.scopes (seg.goes_both (x.runs n) y.1),
              subst (λ o. Ends p s t0 i pt.outs f (places inner) n o (on_state (put_back is_slots st) y.0)) h.is
                  (scope_out i ys pt.outs f (places inner) n c st below left_so h.ending y.0 (inner_ends (λ n'. (x.after, x.runs n')) h.ending y.0 y.2)),
            )

        by_first : (x e : End) → on_state (put_back is_slots st) x ≡ e → (seg.IsOver x × Seg olds n open_word st x)
            ⊎ ((mid : State) × Seg olds n open_word st (goes_on mid) × Seg olds (n + count open_word) body_word mid x)
            → (o : Ending) × segs.Seg q s.variables here (core.scope ys ss) c o × Ends p s t0 i pt.outs f (places (step_word pt (core.scope ys ss) f)) n o e
        by_first x e same (inl (over, k)) =
            let y = finds m p s setting.globals setting.integers t0 (all_live ss pt.outs f) olds ys i c c.world st n x k stands fits.0 in
            absurd (subst seg.IsOver (sym y.is) over)
        by_first x e same (inr (mid, k, l)) =
            let y = finds m p s setting.globals setting.integers t0 (all_live ss pt.outs f) olds ys i c c.world st n (goes_on mid) k stands fits.0 in
            let z = (for_body (n + count open_word) y.world y.after y.stands).back x (subst (λ a. Seg olds (n + count open_word) body_word a x) (sym (goes_parts y.is)) l) in (
              scope_end c.world.memory ys z.0,
              segs.scopes y.opens z.1,
              subst (Ends p s t0 i pt.outs f (places inner) n (scope_end c.world.memory ys z.0)) same
                  (scope_out i ys pt.outs f (places inner) n c st below left_so z.0 x
                  (ends_more p s t0 (with_names ys i) pt.outs f (places body_word) (places inner) (n + count open_word) n (λ j x. fails_second open_word body_word n j x (comes k)) z.0 x z.2)),
            )

        back : (e : End) → ((x : End) × Seg olds n inner st x × (on_state (put_back is_slots st) x ≡ e))
            → (o : Ending) × segs.Seg q s.variables here (core.scope ys ss) c o × Ends p s t0 i pt.outs f (places (step_word pt (core.scope ys ss) f)) n o e
        back e (x, k, same) = by_first x e same (seq_ways k)

    -- ---- one statement after the other

    module _ (a : core.Step) (ss : Steps) (first : Both here pt olds i (all_live ss pt.outs f) n c st a)
        (for_rest : (n' : ℕ) (d : CoreWorld) (st' : State) → StandsFor p s t0 i (all_live ss pt.outs f) d st' → AllBoth here pt olds i f n' d st' ss) where
      abbrev used_then : Temporaries
      used_then = all_live ss pt.outs f

      abbrev word_one : Step
      word_one = step_word pt a used_then

      abbrev before : Temporaries
      before n = live a pt.outs used_then n || temps a n

      abbrev drop_word : Step
      drop_word = word.dropped m p s texts contract others before used_then

      abbrev rest_word : Step
      rest_word = step.seq drop_word (steps_word pt ss f)

      abbrev all_word : Step
      all_word = step.seq word_one rest_word

      rest_both : (n' : ℕ) (d : CoreWorld) (st' : State) → StandsFor p s t0 i used_then d st'
          → BothWays (segs.AllSeg q s.variables here ss d) (λ o e. Ends p s t0 i pt.outs f (places rest_word) n' o e) olds n' rest_word st'
      rest_both n' d st' stands =
          let r = dropped m q s texts contract others setting t0 i before used_then d olds st' stands in
          behind_dropped m q s texts contract others setting t0 i pt.outs f used_then d olds drop_word (steps_word pt ss f) st' r n' (segs.AllSeg q s.variables here ss d) (for_rest (n' + count drop_word) d r.state r.stands)

      first_ends : (o : Ending) (e : End) → Leaves o → Ends p s t0 i pt.outs used_then (places word_one) n o e → Ends p s t0 i pt.outs f (places all_word) n o e
      first_ends o e l h = ends_more p s t0 i pt.outs f (places word_one) (places all_word) n n (λ j x. fails_first word_one rest_word n j x) o e
          (ends_else p s t0 i pt.outs used_then f (places word_one) n o e l h)

      later_ends : (mid : State) → Seg olds n word_one st (goes_on mid) → (o : Ending) (e : End) → Ends p s t0 i pt.outs f (places rest_word) (n + count word_one) o e
          → Ends p s t0 i pt.outs f (places all_word) n o e
      later_ends mid k o e h = ends_more p s t0 i pt.outs f (places rest_word) (places all_word) (n + count word_one) n (λ j x. fails_second word_one rest_word n j x (comes k)) o e h

      then_both : AllBoth here pt olds i f n c st (core.then_ a ss)
      then_both = record { forth = λ o h. forth o (all_ways here a ss c o h); back = λ e k. back e (seq_ways k) } where
        forth : (o : Ending) → ((d : CoreWorld) × segs.Seg q s.variables here a c (run.goes_on d) × segs.AllSeg q s.variables here ss d o) ⊎ (segs.Seg q s.variables here a c o × Leaves o)
            → (e : End) × Seg olds n all_word st e × Ends p s t0 i pt.outs f (places all_word) n o e
        forth o (inl (d, h, k)) =
            let x = first.forth (run.goes_on d) h in
            let g = goes_to p s t0 i pt.outs used_then (places word_one) n d x.0 x.2 in
            let one = subst (Seg olds n word_one st) (sym g.is) x.1 in
            let y = (rest_both (n + count word_one) d g.state g.stands).forth o k in
            (y.0, seg.goes_both one y.1, later_ends g.state one o y.0 y.2)
        forth o (inr (h, l)) =
            let x = first.forth o h in
            (x.0, seg.ends_first x.1 (over_ends p s t0 i pt.outs used_then (places word_one) n o x.0 l x.2), first_ends o x.0 l x.2)

        back : (e : End) → (seg.IsOver e × Seg olds n word_one st e) ⊎ ((mid : State) × Seg olds n word_one st (goes_on mid) × Seg olds (n + count word_one) rest_word mid e)
            → (o : Ending) × segs.AllSeg q s.variables here (core.then_ a ss) c o × Ends p s t0 i pt.outs f (places all_word) n o e
        back e (inl (over, k)) =
            let x = first.back e k in
            let l = over_leaves p s t0 i pt.outs used_then (places word_one) n x.0 e over x.2 in
            (x.0, segs.stays x.1 l, first_ends x.0 e l x.2)
        back e (inr (mid, k, l)) =
            let x = first.back (goes_on mid) k in
            let g = goes_from p s t0 i pt.outs used_then (places word_one) n x.0 mid x.2 in
            let y = (rest_both (n + count word_one) g.world mid g.stands).back e l in
            (y.0, segs.goes (subst (segs.Seg q s.variables here a c) (sym g.is) x.1) y.1, later_ends mid k y.0 e y.2)

  none_left : (here : Here) (c : CoreWorld) (o : Ending) → segs.AllSeg q s.variables here core.end c o → run.goes_on c ≡ o
  none_left here c _ segs.none = refl

  skip_way : {olds : List State} {n : ℕ} {st : State} (e : End) → Seg olds n step.skip st e → goes_on st ≡ e
  skip_way _ seg.skips = refl

  end_both : (here : Here) (pt : Point) (olds : List State) (i : ℕ → Bool) (f : Temporaries) (n : ℕ) (c : CoreWorld) (st : State) → StandsFor p s t0 i f c st
      → AllBoth here pt olds i f n c st core.end
  end_both here pt olds i f n c st stands = record {
    forth = λ o h. (goes_on st, seg.skips, subst (λ o. Ends p s t0 i pt.outs f [] n o (goes_on st)) (none_left here c o h) stands);
    back = λ e k. (run.goes_on c, segs.none, subst (Ends p s t0 i pt.outs f [] n (run.goes_on c)) (skip_way e k) stands);
  }

  mutual
    pub step_both : (a : core.Step) (here : Here) (pt : Point) (olds : List State) → Placed m p s texts contract pt here olds → (i : ℕ → Bool) (f : Temporaries) (n : ℕ) (c : CoreWorld) (st : State)
        → WordFits m p s texts asked i pt.outs f a → StandsFor p s t0 i (live a pt.outs f) c st → Both here pt olds i f n c st a
    step_both (core.set cs k e) here pt olds placed i f n c st fits stands = single_both m q s texts contract others asked setting t0 here pt olds placed i f n c st (core.set cs k e) refl fits stands
    step_both (core.store cs type l path es) here pt olds placed i f n c st fits stands =
        single_both m q s texts contract others asked setting t0 here pt olds placed i f n c st (core.store cs type l path es) refl fits stands
    step_both (core.start cs x e) here pt olds placed i f n c st fits stands = single_both m q s texts contract others asked setting t0 here pt olds placed i f n c st (core.start cs x e) refl fits stands
    step_both (core.call cs to k l es) here pt olds placed i f n c st fits stands = run_so.call setting t0 here pt olds placed i f cs to k l es fits n c st stands
    step_both (core.branch cs e a b) here pt olds placed i f n c st fits stands =
        branch_both here pt olds i f n c st cs e a b stands (λ n' st' h. all_both a here pt olds placed i f n' c st' fits.3 h)
        (λ n' st' h. all_both b here pt olds placed i f n' c st' fits.4 h) fits
    step_both (core.repeat l ss) here pt olds placed i f n c st fits stands =
        run_so.loop setting t0 here pt olds placed i f l ss fits.0 (steps_word (in_pass l pt) ss no_temporaries)
        (λ here olds placed n c st h. all_both ss here (in_pass l pt) olds placed i no_temporaries n c st fits.1 h) n c st stands
    step_both (core.around ss) here pt olds placed i f n c st fits stands =
        around_both here pt olds i f n c st ss (all_both ss here (in_block f pt) olds (placed_in here pt olds f placed) i f n c st fits stands)
    step_both (core.exit k) here pt olds placed i f n c st fits stands = single_both m q s texts contract others asked setting t0 here pt olds placed i f n c st (core.exit k) refl fits stands
    step_both (core.give cs e) here pt olds placed i f n c st fits stands = single_both m q s texts contract others asked setting t0 here pt olds placed i f n c st (core.give cs e) refl fits stands
    step_both (core.claim a) here pt olds placed i f n c st fits stands = single_both m q s texts contract others asked setting t0 here pt olds placed i f n c st (core.claim a) refl fits stands
    step_both (core.scope ys ss) here pt olds placed i f n c st fits stands =
        scope_both here pt olds i f n c st ys ss fits stands (λ n' w st' h. all_both ss here pt olds placed (with_names ys i) f n' (in_world c w) st' fits.1 h)

    pub all_both : (ss : Steps) (here : Here) (pt : Point) (olds : List State) → Placed m p s texts contract pt here olds → (i : ℕ → Bool) (f : Temporaries) (n : ℕ) (c : CoreWorld) (st : State)
        → AllFit m p s texts asked i pt.outs f ss → StandsFor p s t0 i (all_live ss pt.outs f) c st → AllBoth here pt olds i f n c st ss
    all_both core.end here pt olds placed i f n c st fits stands = end_both here pt olds i f n c st stands
    all_both (core.then_ a ss) here pt olds placed i f n c st fits stands =
        then_both here pt olds i f n c st a ss (step_both a here pt olds placed i (all_live ss pt.outs f) n c st fits.0 stands)
        (λ n' d st' h. all_both ss here pt olds placed i f n' d st' fits.1 h)

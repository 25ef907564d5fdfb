-- Branches, and what comes behind temporaries that are dropped.
use Rattle.std.proofs.Common.{◌≡◌, ◌⊎◌, ℕ, ◌+◌, Bool, true, false, not, ◌&&◌, ◌||◌, List, [], ◌∷◌, Option, Some, None, refl, sym, ap, ◌∙◌, subst, inl, inr}
use Rattle.std.specs.List.{list_all}
use Rattle.std.proofs.lemmas.Bool.{false≢true}
use Rattle.std.proofs.lemmas.Option.{none-some, same_Some}
use Rattle.wp_base.specs.declared.kinds.CellKind.{CellKind}
use Rattle.typed_prog.specs.Tree as t
use Rattle.qed_terms.specs.Meaning as sense
use Rattle.qed_terms.specs.Meaning.{truth}
use Rattle.qed_terms.specs.Tree.{Tree, not_of}
use Rattle.c_runs.specs.TruthStates.{Value}
use Rattle.c_runs.specs.Program.{Contract, Facts, Program}
use Rattle.c_runs.specs.States.{Here, is_nonzero}
use Rattle.c_runs.specs.Claims.{Stop}
use Rattle.c_runs.specs.CoreRun.{CoreWorld, Ending, stopped}
use Rattle.c_runs.specs.Checks.{Check, checks_of}
use Rattle.c_runs.specs.Tests.{is_met}
use Rattle.c_runs.specs.Tree as core
use Rattle.c_runs.specs.Tree.{Steps}
use Rattle.c_runs.specs.CheckedRun as exec
use Rattle.goal_segments.specs.RunSegments.{Asks}
use Rattle.goal_segments.specs.Segments as segs
use Rattle.goal_segments.specs.Segments.{no_deeper}
use Rattle.value_terms.specs.Readings.{condition}
use Rattle.value_terms.specs.Words.{Item, checks_in, word_of}
use Rattle.walk_steps.specs.Forms.{Place}
use Rattle.memory_steps.specs.State.{State}
use Rattle.memory_steps.specs.Step.{Step, places, count}
use Rattle.memory_steps.specs.Step as step
use Rattle.memory_steps.specs.Run.{End, Seg}
use Rattle.memory_steps.specs.Run as seg
use Rattle.memory_steps.proofs.Readings.{knows_then, choose_ways}
use Rattle.memory_words.specs.Places.{Sizes}
use Rattle.memory_words.specs.Leaves.{is_closed, or_false, closed, leaves_of, form}
use Rattle.program_steps.specs.Temporaries.{Temporaries, uses, live, all_live}
use Rattle.memory_words.specs.Shapes.{Shape, FileCells, sizes}
use Rattle.memory_words.specs.Readings.{Texts, reading}
use Rattle.memory_words.specs.Standing.{Frame, StandsFor}
use Rattle.memory_words.specs.Seen.{InSetting, ValueFits}
use Rattle.memory_words.specs.Points.{Point, uses_of}
use Rattle.memory_words.specs.Words as word
use Rattle.memory_words.specs.Words.{Others, items_step, arms, known_test}
use Rattle.memory_words.specs.Placed.{Openings, Placed, Ends, BothWays}
use Rattle.memory_words.specs.Values.{Evaluates}
use Rattle.memory_words.specs.PutLaws.{AllStepsRun, BranchesRun, BehindDropped}
use Rattle.memory_words.proofs.PutListing.{fails_arm, fails_other}
use Rattle.memory_words.proofs.PutStanding.{slots_go_on}
use Rattle.memory_words.proofs.Setting.{keeps_own, temporaries_are_dropped}
use Rattle.memory_words.proofs.Valued.{condition_closed, expressions_evaluate}
use Rattle.memory_words.proofs.Asking.{behind}
use Rattle.memory_words.proofs.Ends.{EndsWell, asks_all, after_items, behind_end, ends_well}

or_left : (a b : Bool) → a ≡ true → (a || b) ≡ true
or_left a b e = ap (λ t. t || b) e

or_right : (a b : Bool) → b ≡ true → (a || b) ≡ true
or_right true b e = refl
or_right false b e = e

-- ---- temporaries that are dropped

kept_apart : (f g : Temporaries) (j : ℕ) → (f j && not (g j)) ≡ true → g j ≡ true → ⊥
kept_apart f g j h k = by (f j) (g j) h k where
  by : (a b : Bool) → (a && not b) ≡ true → b ≡ true → ⊥
  by true true h k = false≢true h
  by true false h k = false≢true k
  by false b h k = false≢true h

pub behind_dropped : BehindDropped
behind_dropped m q s cells texts contract others here pt olds fr os f g after n c st ss stands both =
    let r = temporaries_are_dropped m q.facts s cells fr g c st stands olds (λ j. f j && not (g j)) (λ j h k. kept_apart f g j h k) in
    behind_end (Ends q.facts s cells fr os (uses_of pt.outs) after) (ends_well q.facts s cells fr os (uses_of pt.outs) after) olds
    (word.dropped m q.facts s cells texts contract others f g) (word.steps m q.facts s cells texts contract others pt ss after) st r.state r.end n
    (segs.AllSeg q s.variables here ss c) (both r.state r.is.0)

-- ---- a condition that is a constant

known_is : (q : Program Steps) (s : Shape) (c : CoreWorld) (e : t.Value) (b : Bool) → known_test e ≡ Some b → is_nonzero (exec.total_in q no_deeper s.variables c e) ≡ b
known_is q s c (t.typed (t.constant z) type l) b h = same_Some _ b h
known_is q s c (t.typed t.null type l) b h = same_Some false b h
known_is q s c (t.typed (t.temporary n) type l) b h = absurd (none-some b h)
known_is q s c (t.typed (t.apply o es) type l) b h = absurd (none-some b h)
known_is q s c (t.typed (t.logic o x y) type l) b h = absurd (none-some b h)
known_is q s c (t.typed (t.choose x y z) type l) b h = absurd (none-some b h)
known_is q s c (t.typed (t.effect o es) type l) b h = absurd (none-some b h)

-- ---- two arms

module _ (ends : List Place → ℕ → Ending → End → Type 0) (well : EndsWell ends) (m : sense.World) (z : Sizes) (olds : List State) (st : State) (g : Tree)
    (closed_g : is_closed [] g ≡ true) (test : Bool) (told : truth m (leaves_of (st ∷ olds)) (closed g) ≡ test) (a b : Step) (one other : Ending → Type 0) where
  abbrev pub Either : Ending → Type 0
  Either o = ((test ≡ true) × one o) ⊎ ((test ≡ false) × other o)

  abbrev EndsIn : Step → ℕ → Ending → End → Type 0
  EndsIn x n o e = ends (places x) n o e

  not_told : truth m (leaves_of (st ∷ olds)) (closed (not_of g)) ≡ not test
  not_told =
      ap (λ x. truth m (leaves_of (st ∷ olds)) (or_false x (not_of g))) (ap (λ x. x && true) closed_g)
      ∙ ap not (sym (ap (λ x. truth m (leaves_of (st ∷ olds)) (or_false x g)) closed_g) ∙ told)

  chosen_arms : (n : ℕ) → ((n' : ℕ) → test ≡ true → BothWays one (EndsIn a n') olds n' a st) → ((n' : ℕ) → test ≡ false → BothWays other (EndsIn b n') olds n' b st)
      → BothWays Either (EndsIn (step.choose (form m g) a b) n) olds n (step.choose (form m g) a b) st
  chosen_arms n one_both other_both = record { forth = forth; back = λ e k. back e (choose_ways k) } where
    first : (o : Ending) (e : End) → EndsIn a n o e → EndsIn (step.choose (form m g) a b) n o e
    first o e h = well.more (places a) (places (step.choose (form m g) a b)) n n (λ j x. fails_arm (form m g) a b n j x) o e h

    second : (o : Ending) (e : End) → EndsIn b (n + count a) o e → EndsIn (step.choose (form m g) a b) n o e
    second o e h = well.more (places b) (places (step.choose (form m g) a b)) (n + count a) n (λ j x. fails_other (form m g) a b n j x) o e h

    forth : (o : Ending) → Either o → (e : End) × Seg olds n (step.choose (form m g) a b) st e × EndsIn (step.choose (form m g) a b) n o e
    forth o (inl h) = let x = (one_both n h.0).forth o h.1 in (x.0, seg.first_arm (told ∙ h.0) x.1, first o x.0 x.2)
    forth o (inr h) = let x = (other_both (n + count a) h.0).forth o h.1 in (x.0, seg.second_arm (told ∙ h.0) x.1, second o x.0 x.2)

    back : (e : End) → ((truth m (leaves_of (st ∷ olds)) (closed g) ≡ true) × Seg olds n a st e) ⊎ ((truth m (leaves_of (st ∷ olds)) (closed g) ≡ false) × Seg olds (n + count a) b st e)
        → (o : Ending) × Either o × EndsIn (step.choose (form m g) a b) n o e
    back e (inl h) = let t = sym told ∙ h.0 in let x = (one_both n t).back e h.1 in (x.0, inl (t, x.1), first x.0 e x.2)
    back e (inr h) = let t = sym told ∙ h.0 in let x = (other_both (n + count a) t).back e h.1 in (x.0, inr (t, x.1), second x.0 e x.2)

  pub both_arms : (o : Option Bool) → ((x : Bool) → o ≡ Some x → test ≡ x) → (n : ℕ)
      → ((n' : ℕ) → test ≡ true → BothWays one (EndsIn a n') olds n' a st) → ((n' : ℕ) → test ≡ false → BothWays other (EndsIn b n') olds n' b st)
      → BothWays Either (EndsIn (arms m z o g a b) n) olds n (arms m z o g a b) st
  both_arms None known n one_both other_both = chosen_arms n one_both other_both
  both_arms (Some true) known n one_both other_both = record { forth = forth; back = back } where
    so : test ≡ true
    so = known true refl

    forth : (o : Ending) → Either o → (e : End) × Seg olds n (arms m z (Some true) g a b) st e × EndsIn a n o e
    forth o (inl h) = let x = (one_both n h.0).forth o h.1 in (x.0, seg.goes_both (seg.knows_so (told ∙ h.0, tt)) (behind x.1), x.2)
    forth o (inr h) = absurd (false≢true (sym h.0 ∙ so))

    back : (e : End) → Seg olds n (arms m z (Some true) g a b) st e → (o : Ending) × Either o × EndsIn a n o e
    back e k = let x = (one_both n so).back e (knows_then k).1 in (x.0, inl (so, x.1), x.2)
  both_arms (Some false) known n one_both other_both = record { forth = forth; back = back } where
    so : test ≡ false
    so = known false refl

    forth : (o : Ending) → Either o → (e : End) × Seg olds n (arms m z (Some false) g a b) st e × EndsIn b n o e
    forth o (inl h) = absurd (false≢true (sym so ∙ h.0))
    forth o (inr h) = let x = (other_both n h.0).forth o h.1 in (x.0, seg.goes_both (seg.knows_so (not_told ∙ ap not h.0, tt)) (behind x.1), x.2)

    back : (e : End) → Seg olds n (arms m z (Some false) g a b) st e → (o : Ending) × Either o × EndsIn b n o e
    back e k = let x = (other_both n so).back e (knows_then k).1 in (x.0, inr (so, x.1), x.2)

-- ---- branches

module _ (m : sense.World) (q : Program Steps) (s : Shape) (cells : FileCells) (texts : Texts) (contract : Contract) (others : Others) (setting : InSetting m q.facts s cells)
    (here : Here) (pt : Point) (olds : List State) (fr : Frame) (os : Openings) (placed : Placed m q.facts s cells texts contract pt here olds fr os)
    (after : Temporaries) (n : ℕ) (c : CoreWorld) (st : State) (cs : List Check) (e : t.Value) (k : CellKind) (a b : Steps) where
  abbrev p : Facts
  p = q.facts

  abbrev outs : List Temporaries
  outs = uses_of pt.outs

  abbrev live_a : Temporaries
  live_a = all_live a outs after

  abbrev live_b : Temporaries
  live_b = all_live b outs after

  abbrev used : Temporaries
  used = live (core.branch cs e a b) outs after

  abbrev EndsAt : Step → ℕ → Ending → End → Type 0
  EndsAt x k o e = Ends p s cells fr os outs after (places x) k o e

  abbrev steps_word : Steps → Step
  steps_word ss = word.steps m p s cells texts contract others pt ss after

  abbrev drop_a : Step
  drop_a = word.dropped m p s cells texts contract others (λ n. uses e n || live_b n) live_a

  abbrev drop_b : Step
  drop_b = word.dropped m p s cells texts contract others (λ n. uses e n || live_a n) live_b

  abbrev word_a : Step
  word_a = step.seq drop_a (steps_word a)

  abbrev word_b : Step
  word_b = step.seq drop_b (steps_word b)

  abbrev v : Value
  v = exec.total_in q no_deeper s.variables c e

  abbrev so : Check → Bool
  so = is_met p s.variables c.temps c.world e

  abbrev is : List Item
  is = word_of p s.variables (reading p s cells) e

  abbrev test : Tree
  test = condition (word.term_in m p s cells texts contract others e)

  abbrev Later : Ending → Type 0
  Later o = ((is_nonzero v ≡ true) × segs.AllSeg q s.variables here a c o) ⊎ ((is_nonzero v ≡ false) × segs.AllSeg q s.variables here b c o)

  branch_ways : (o : Ending) → segs.Seg q s.variables here (core.branch cs e a b) c o → ((y : Stop) × Asks so cs (Some y) × (stopped y ≡ o)) ⊎ (Asks so cs None × Later o)
  branch_ways o (segs.single is h) = absurd (false≢true is)
  branch_ways o (segs.first_arm asks t h) = inr (asks, inl (t, h))
  branch_ways o (segs.other_arm asks t h) = inr (asks, inr (t, h))
  branch_ways _ (segs.test_stops {s = y} asks) = inl (y, asks, refl)

  module _ (fits : ValueFits p s cells pt.stands.in_scope used e k) (same : cs ≡ checks_of s.variables e)
      (for_a : (n : ℕ) (st : State) → AllStepsRun m q s cells texts contract others here pt olds fr os after n c st a)
      (for_b : (n : ℕ) (st : State) → AllStepsRun m q s cells texts contract others here pt olds fr os after n c st b) (stands : StandsFor p s cells fr used c st) where
    evaluates : Evaluates m p s cells c st olds e k
    evaluates = expressions_evaluate m p s cells setting fr placed.lives used c st stands olds e k
        (subst (λ i. ValueFits p s cells i used e k) (λ i x. sym (placed.scope x) i) fits)

    listed : checks_in is ≡ cs
    listed = evaluates.checks ∙ sym same

    used_less : (g : Temporaries) → ((j : ℕ) → g j ≡ true → used j ≡ true) → StandsFor p s cells fr g c st
    used_less g less = slots_go_on p s cells fr used c st stands g less st (keeps_own (sizes p s) g (λ a. ⊥) st stands.size)

    less_a : (j : ℕ) → live_a j ≡ true → used j ≡ true
    less_a j h = or_right (uses e j) (live_a j || live_b j) (or_left (live_a j) (live_b j) h)

    less_b : (j : ℕ) → live_b j ≡ true → used j ≡ true
    less_b j h = or_right (uses e j) (live_a j || live_b j) (or_right (live_a j) (live_b j) h)

    arm_a : (n' : ℕ) → BothWays (segs.AllSeg q s.variables here a c) (EndsAt word_a n') olds n' word_a st
    arm_a n' = behind_dropped m q s cells texts contract others here pt olds fr os (λ n. uses e n || live_b n) live_a after n' c st a (used_less live_a less_a)
        (λ st h. for_a (n' + count drop_a) st h)

    arm_b : (n' : ℕ) → BothWays (segs.AllSeg q s.variables here b c) (EndsAt word_b n') olds n' word_b st
    arm_b n' = behind_dropped m q s cells texts contract others here pt olds fr os (λ n. uses e n || live_a n) live_b after n' c st b (used_less live_b less_b)
        (λ st h. for_b (n' + count drop_b) st h)

    to : (o : Ending) → ((y : Stop) × Asks so cs (Some y) × (stopped y ≡ o)) ⊎ (Asks so cs None × Later o)
        → ((y : Stop) × Asks so (checks_in is) (Some y) × (stopped y ≡ o)) ⊎ (Asks so (checks_in is) None × Later o)
    to o (inl (y, asks, h)) = inl (y, subst (λ cs. Asks so cs (Some y)) (sym listed) asks, h)
    to o (inr (asks, h)) = inr (subst (λ cs. Asks so cs None) (sym listed) asks, h)

    go : Asks so cs None → (o : Ending) → Later o → segs.Seg q s.variables here (core.branch cs e a b) c o
    go asks o (inl h) = segs.first_arm asks h.0 h.1
    go asks o (inr h) = segs.other_arm asks h.0 h.1

    pub branch_both : BothWays (segs.Seg q s.variables here (core.branch cs e a b) c)
        (EndsAt (word.step m p s cells texts contract others pt (core.branch cs e a b) after) n) olds n (word.step m p s cells texts contract others pt (core.branch cs e a b) after) st
    branch_both =
        after_items (Ends p s cells fr os outs after) (ends_well p s cells fr os outs after) m (sizes p s) olds st so is fits.items evaluates.says n
        (arms m (sizes p s) (known_test e) test word_a word_b) (segs.Seg q s.variables here (core.branch cs e a b) c) Later (λ o h. to o (branch_ways o h))
        (λ y asks. segs.test_stops (subst (λ cs. Asks so cs (Some y)) listed asks)) (λ asks o h. go (subst (λ cs. Asks so cs None) listed asks) o h)
        (λ asks. both_arms (Ends p s cells fr os outs after) (ends_well p s cells fr os outs after) m (sizes p s) olds st test
        (condition_closed (word.term_in m p s cells texts contract others e) fits.term) (is_nonzero v)
        (evaluates.test (subst (λ cs. list_all so cs ≡ true) evaluates.checks (asks_all asks))) word_a word_b
        (segs.AllSeg q s.variables here a c) (segs.AllSeg q s.variables here b c) (known_test e) (known_is q s c e) (n + count (items_step m (sizes p s) is))
        (λ n' t. arm_a n') (λ n' t. arm_b n'))

pub branches_run : BranchesRun
branches_run m q s cells texts contract others setting here pt olds fr os placed after n c st cs e k a b = record {
  runs = λ fits same for_a for_b stands.
      branch_both m q s cells texts contract others setting here pt olds fr os placed after n c st cs e k a b fits same for_a for_b stands;
}

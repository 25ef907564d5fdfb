-- Goals are exact, each by itself, for the word of a function and for its segment runs.
use Rattle.std.proofs.Common.{◌≡◌, ◌≤◌, ℕ, zero, suc, false, List, [], ◌∷◌, map, length, refl, sym, ap, ◌∙◌, subst, inl, inr, arith}
use Rattle.qed_terms.specs.Meaning as sense
use Rattle.qed_terms.specs.Meaning.{truth}
use Rattle.qed_terms.specs.Setting.{Setting, world_of, IsBounded, Valid}
use Rattle.c_runs.specs.Told.{Value}
use Rattle.c_runs.specs.Program.{Function, Facts, Program}
use Rattle.c_runs.specs.States.{World}
use Rattle.c_runs.specs.Claims.{Stop}
use Rattle.c_runs.specs.Calls.{Eval, gives, stops}
use Rattle.c_runs.specs.Entry.{Enters}
use Rattle.c_runs.specs.Tree.{Steps}
use Rattle.goal_segments.specs.Segments.{FunctionSeg}
use Rattle.walk_steps.specs.State.{In}
use Rattle.walk_steps.specs.Forms.{Place}
use Rattle.walk_steps.specs.Walk.{Goal, formula_of}
use Rattle.walk_steps.specs.Laws.{from}
use Rattle.walk_steps.proofs.Lists.{cons_parts}
use Rattle.program_steps.specs.Stops.{IsStop}
use Rattle.memory_steps.specs.State.{State}
use Rattle.memory_steps.specs.Step.{Step, places}
use Rattle.memory_steps.specs.Run.{End, goes_on, leaves, fails, Seg}
use Rattle.memory_steps.specs.Laws.{Fails}
use Rattle.memory_steps.proofs.Exact as walked
use Rattle.memory_words.specs.Shapes.{FileCells, Shape}
use Rattle.memory_words.specs.Readings.{Texts}
use Rattle.memory_words.specs.Placed.{IsPlace, FailsAs}
use Rattle.memory_words.specs.Words.{Others}
use Rattle.memory_words.specs.Typed.{OtherFits}
use Rattle.memory_functions.specs.Words.{Written, shape_in}
use Rattle.memory_functions.specs.FunctionFunctions.{EntersAs, FunctionEnds, FunctionRuns}
use Rattle.memory_functions.proofs.Wholes.{functions_run}
use Rattle.memory_functions.proofs.Starting.{entries_start}
use Rattle.memory_functions.proofs.Entering.{starts_enter}
use Rattle.memory_exact.specs.Programs.{word_with, start, bases, goals_with, FunctionIn}
use Rattle.memory_exact.specs.Laws.{SomeStops, StopsAt, SomeStopsAt, CheckIsExact, GoalsAreInOrder, GoalsAreExact, GoalsAreExactByCheck, StopsHaveGoals, ValidGoalsSuffice, FalsifiedGoalsFail}
use Rattle.memory_exact.proofs.Fitting.{are_fit}

pub goals_are_in_order : GoalsAreInOrder
goals_are_in_order setting q cells texts others n f g = record {
  places = walked.goals_are_the_checks (bases setting q cells texts others n f g) (start setting q cells texts others n f g) (word_with setting q cells texts others n f g);
  numbers = walked.goals_are_numbered (bases setting q cells texts others n f g) (start setting q cells texts others n f g) (word_with setting q cells texts others n f g);
}

pub goals_are_exact : (asked : OtherFits) → GoalsAreExact asked
goals_are_exact asked setting q cells texts others n f g part =
    walked.goals_are_exact setting (bases setting q cells texts others n f g) (start setting q cells texts others n f g) (word_with setting q cells texts others n f g)
    (are_fit setting q cells texts others n f g asked part)

-- ---- the goal of a number

no_more : {X : Type 0} {x : X} {xs : List X} → (x ∷ xs) ≡ [] → ⊥
no_more e = cc

numbers_from : (gs : List Goal) (n k : ℕ) → map (λ (g : Goal). g.number) gs ≡ from n k → (g : Goal) → In g gs → n ≤ g.number
numbers_from [] n k e g i = absurd i
numbers_from (x ∷ gs) n zero e g i = absurd (no_more e)
numbers_from (x ∷ gs) n (suc k) e g (inl same) =
    let a = (cons_parts e).0 in let b = ap (λ (g : Goal). g.number) same in omega (arith, a, b)
numbers_from (x ∷ gs) n (suc k) e g (inr i) = let r = numbers_from gs (suc n) k (cons_parts e).1 g i in omega (arith, r)

place_from : (ps : List Place) (n i : ℕ) (a : Place) → IsPlace ps n i a → n ≤ i
place_from [] n i a h = absurd h
place_from (b ∷ ps) n i a (inl h) = let e = h.0 in omega (arith, e)
place_from (b ∷ ps) n i a (inr h) = let r = place_from ps (suc n) i a h in omega (arith, r)

place_is : (gs : List Goal) (ps : List Place) (n : ℕ) → map (λ (g : Goal). g.place) gs ≡ ps → map (λ (g : Goal). g.number) gs ≡ from n (length ps)
    → (g : Goal) → In g gs → (a : Place) → IsPlace ps n g.number a → g.place ≡ a
place_is [] ps n e k g i a h = absurd i
place_is (x ∷ gs) [] n e k g i a h = absurd h
place_is (x ∷ gs) (b ∷ ps) n e k g (inl same) a (inl h) = ap (λ (g : Goal). g.place) same ∙ (cons_parts e).0 ∙ h.1
place_is (x ∷ gs) (b ∷ ps) n e k g (inl same) a (inr h) =
    let l = place_from ps (suc n) g.number a h in let c = (cons_parts k).0 in let d = ap (λ (g : Goal). g.number) same in absurd (omega (arith, l, c, d))
place_is (x ∷ gs) (b ∷ ps) n e k g (inr i) a (inl h) =
    let l = numbers_from gs (suc n) (length ps) (cons_parts k).1 g i in let c = h.0 in absurd (omega (arith, l, c))
place_is (x ∷ gs) (b ∷ ps) n e k g (inr i) a (inr h) = place_is gs ps (suc n) (cons_parts e).1 (cons_parts k).1 g i a h

-- ---- ends

stops_so : (p : Facts) (s : Shape) (cells : FileCells) (ps : List Place) (o : Eval) (i : ℕ) → FunctionEnds p s cells ps o (fails i)
    → (e : Stop) × (stops e ≡ o) × FailsAs ps 0 i e
stops_so p s cells ps (gives v u) i h = absurd h
stops_so p s cells ps (stops e) i h = (e, refl, h)

fails_so : (p : Facts) (s : Shape) (cells : FileCells) (ps : List Place) (e : Stop) (x : End) → FunctionEnds p s cells ps (stops e) x
    → (i : ℕ) × (x ≡ fails i) × FailsAs ps 0 i e
fails_so p s cells ps e (goes_on st) h = absurd h
fails_so p s cells ps e (leaves k st) h = absurd h
fails_so p s cells ps e (fails i) h = (i, refl, h)

-- ---- of runs

module _ (asked : OtherFits) (setting : Setting) (q : Program Steps) (cells : FileCells) (texts : Texts) (others : Others) (n : ℕ) (f : Function Steps) (g : Written)
    (part : FunctionIn setting q cells texts others n f g asked) where
  abbrev m : sense.World
  m = world_of setting

  abbrev s : Shape
  s = shape_in f g

  abbrev word : Step
  word = word_with setting q cells texts others n f g

  abbrev goals : List Goal
  goals = goals_with setting q cells texts others n f g

  runs : (vs : List Value) (w : World) (st : State) → EntersAs q.facts s cells f vs w st → FunctionRuns (FunctionSeg q n f vs w) (FunctionEnds q.facts s cells (places word)) word st
  runs vs w st enters = functions_run asked m q cells texts n f g others part.run part.in_setting part.fits part.short vs w st enters

  placed_so : (a : Goal) → In a goals → (e : Stop) → FailsAs (places word) 0 a.number e → IsStop e a.place
  placed_so a listed e h =
      let o = goals_are_in_order setting q cells texts others n f g in
      subst (IsStop e) (sym (place_is goals (places word) 0 o.places o.numbers a listed h.0 h.1)) h.2

  -- slots in which a run of the word fails are those of a world
  found : (i : ℕ) (st : State) → Fails setting (bases setting q cells texts others n f g) (start setting q cells texts others n f g) word st i
      → SomeStopsAt setting q cells texts others n f g i
  found i st run =
      let world = starts_enter setting q cells texts n f g part.in_setting part.starts st run.0 in
      let r = (runs world.0 world.1 st world.3).back (fails i) run.1 in
      let x = stops_so q.facts s cells (places word) r.0 i r.2 in (
        world.0,
        world.1,
        x.0,
        record {
          enters = world.2;
          run = subst (FunctionSeg q n f world.0 world.1) (sym x.1) r.1;
          slots = st;
          stand = world.3;
          starts = run.0;
          fails = run.1;
          place = x.2;
        },
      )

  exact : (a : Goal) → In a goals → CheckIsExact setting q cells texts others n f g a
  exact a listed =
      let x = goals_are_exact asked setting q cells texts others n f g part a listed in
      record {
        sound = λ valid some. x.sound valid some.3.slots (some.3.starts, some.3.fails);
        complete = λ none. x.complete (λ st run. none (found a.number st run));
      }

  -- a segment run that goes wrong, in slots
  module _ (vs : List Value) (w : World) (enters : Enters q f vs w.memory) (e : Stop) (run : FunctionSeg q n f vs w (stops e)) where
    with_goal : (a : Goal) × In a goals × IsStop e a.place × StopsAt setting q cells texts others n f g a.number vs w e
    with_goal =
        let entry = entries_start setting q cells texts n f g part.in_setting part.starts vs w enters in
        let r = (runs vs w entry.0 entry.2).forth (stops e) run in
        let x = fails_so q.facts s cells (places word) e r.0 r.2 in
        let there : Seg [] 0 word entry.0 (fails x.0) = subst (Seg [] 0 word entry.0) x.1 r.1 in
        let a = walked.failures_have_goals setting (bases setting q cells texts others n f g) (start setting q cells texts others n f g) word
        (are_fit setting q cells texts others n f g asked part) x.0 entry.0 (entry.1, there) in
        let same : x.0 ≡ a.0.number = sym a.2 in
        let place : FailsAs (places word) 0 a.0.number e = subst (λ i. FailsAs (places word) 0 i e) same x.2 in (
          a.0,
          a.1,
          placed_so a.0 a.1 e place,
          record {
            enters = enters;
            run = run;
            slots = entry.0;
            stand = entry.2;
            starts = entry.1;
            fails = subst (λ i. Seg [] 0 word entry.0 (fails i)) same there;
            place = place;
          },
        )

    suffices : ((a : Goal) → In a goals → Valid setting (formula_of a)) → ⊥
    suffices valid = let x = with_goal in (exact x.0 x.1).sound (valid x.0 x.1) (vs, w, e, x.3)

  falsified : (a : Goal) → In a goals → (env : sense.Values) → IsBounded setting.long_bits env → truth m env (formula_of a) ≡ false
      → (e : Stop) × IsStop e a.place × SomeStops q n f e
  falsified a listed env bounded untrue =
      let r = walked.falsified_decode setting (bases setting q cells texts others n f g) (start setting q cells texts others n f g) word
      (are_fit setting q cells texts others n f g asked part) a listed env bounded untrue in
      let x = found a.number _ r in (x.2, placed_so a listed x.2 x.3.place, (x.0, x.1, x.3.enters, x.3.run))

pub goals_are_exact_by_check : (asked : OtherFits) → GoalsAreExactByCheck asked
goals_are_exact_by_check asked setting q cells texts others n f g part a listed = exact asked setting q cells texts others n f g part a listed

pub stops_have_goals : (asked : OtherFits) → StopsHaveGoals asked
stops_have_goals asked setting q cells texts others n f g part vs w enters e run = with_goal asked setting q cells texts others n f g part vs w enters e run

pub valid_goals_suffice : (asked : OtherFits) → ValidGoalsSuffice asked
valid_goals_suffice asked setting q cells texts others n f g part valid vs w enters e run = suffices asked setting q cells texts others n f g part vs w enters e run valid

pub falsified_goals_fail : (asked : OtherFits) → FalsifiedGoalsFail asked
falsified_goals_fail asked setting q cells texts others n f g part a listed env bounded untrue =
    falsified asked setting q cells texts others n f g part a listed env bounded untrue

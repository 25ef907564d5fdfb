-- Goals are exact, each by itself.
use Rattle.std.proofs.Common.{◌≡◌, ◌≤◌, ℕ, zero, suc, false, List, [], ◌∷◌, map, length, Some, refl, sym, ap, ◌∙◌, subst, inl, inr, arith}
use Rattle.std.proofs.lemmas.Bool.{false≢true}
use Rattle.qed_terms.specs.Meaning as sense
use Rattle.qed_terms.specs.Meaning.{truth}
use Rattle.qed_terms.specs.Setting.{Setting, world_of, Valid}
use Rattle.c_runs.specs.Program.{Function, Program}
use Rattle.c_runs.specs.Claims.{Stop}
use Rattle.c_runs.specs.Calls.{stops}
use Rattle.c_runs.specs.Tree.{Steps}
use Rattle.walk_steps.specs.State.{In}
use Rattle.walk_steps.specs.Forms.{Place}
use Rattle.walk_steps.specs.Step.{Step, places}
use Rattle.walk_steps.specs.Run.{End, goes_on, leaves, fails, Seg}
use Rattle.walk_steps.specs.Walk.{Goal, formula_of}
use Rattle.walk_steps.specs.Laws.{from, AreFit}
use Rattle.walk_steps.proofs.Lists.{cons_parts}
use Rattle.walk_steps.proofs.Exact as walked
use Rattle.program_steps.specs.Stops.{IsStop}
use Rattle.program_steps.specs.Terms.{Texts}
use Rattle.program_steps.specs.Standing.{IsPlace, FailsAs}
use Rattle.program_steps.specs.Functions.{FunctionEnds}
use Rattle.program_steps.specs.Starting.{start_trees}
use Rattle.program_steps.proofs.Filling.{on_bool}
use Rattle.program_steps.proofs.Good.{functions_are_good}
use Rattle.program_steps.proofs.Wholes.{forth}
use Rattle.program_steps.proofs.Sufficing.{forms_all, entries_start}
use Rattle.program_steps.proofs.Entering.{falsified_fail}
use Rattle.program_goals.specs.Words.{Written, shape_in, others_of, fits_of, word_of, start_in}
use Rattle.program_goals.specs.Programs.{goals_of, FunctionIn, ProgramFits}
use Rattle.program_goals.specs.Laws.{GoalsAreInOrder, GoalsAreExact, SomeStops, StopsAreExact, GoalsAreExactForRuns, FalsifiedGoalsFail}
use Rattle.program_goals.proofs.Others.{others_run, others_good, in_setting}
use Rattle.program_goals.proofs.Stops.{one_stop}

pub goals_are_in_order : GoalsAreInOrder
goals_are_in_order setting q texts n f g = record {
  places = walked.goals_are_the_checks g.bases (start_in (world_of setting) q texts n f g) (word_of (world_of setting) q texts n f g);
  numbers = walked.goals_are_numbered g.bases (start_in (world_of setting) q texts n f g) (word_of (world_of setting) q texts n f g);
}

pub are_fit : (setting : Setting) (q : Program Steps) (texts : Texts) (n : ℕ) (f : Function Steps) (g : Written) → FunctionIn setting q texts n f g
    → AreFit setting g.bases (start_in (world_of setting) q texts n f g) (word_of (world_of setting) q texts n f g)
are_fit setting q texts n f g part = record {
  size = part.size;
  names = part.bases;
  own = part.own;
  facts = forms_all (world_of setting) (start_trees (world_of setting) q.facts (shape_in f g) texts f);
  step = functions_are_good (world_of setting) q.facts (shape_in f g) texts (others_of (world_of setting) q texts n f g) (others_good (world_of setting) q texts n f g) n f;
}

pub goals_are_exact : GoalsAreExact
goals_are_exact setting q texts n f g part =
    walked.goals_are_exact setting g.bases (start_in (world_of setting) q texts n f g) (word_of (world_of setting) q texts n f g) (are_fit setting q texts n f g part)

-- ---- the goal of a number

no_more : {X : Type 0} {x : X} {xs : List X} → (x ∷ xs) ≡ [] → ⊥
no_more e = cc

numbers_from : (gs : List Goal) (n k : ℕ) → map (λ (g : Goal). g.number) gs ≡ from n k → (g : Goal) → In g gs → n ≤ g.number
numbers_from [] n k e g i = absurd i
numbers_from (x ∷ gs) n zero e g i = absurd (no_more e)
numbers_from (x ∷ gs) n (suc k) e g (inl same) =
    let a = (cons_parts e).0 in let b = ap (λ (g : Goal). g.number) same in omega (arith, a, b)
numbers_from (x ∷ gs) n (suc k) e g (inr i) = let r = numbers_from gs (suc n) k (cons_parts e).1 g i in omega (arith, r)

place_from : (ps : List Place) (n i : ℕ) (a : Place) → IsPlace ps n i a → n ≤ i
place_from [] n i a h = absurd h
place_from (b ∷ ps) n i a (inl h) = let e = h.0 in omega (arith, e)
place_from (b ∷ ps) n i a (inr h) = let r = place_from ps (suc n) i a h in omega (arith, r)

place_is : (gs : List Goal) (ps : List Place) (n : ℕ) → map (λ (g : Goal). g.place) gs ≡ ps → map (λ (g : Goal). g.number) gs ≡ from n (length ps)
    → (g : Goal) → In g gs → (a : Place) → IsPlace ps n g.number a → g.place ≡ a
place_is [] ps n e k g i a h = absurd i
place_is (x ∷ gs) [] n e k g i a h = absurd h
place_is (x ∷ gs) (b ∷ ps) n e k g (inl same) a (inl h) = ap (λ (g : Goal). g.place) same ∙ (cons_parts e).0 ∙ h.1
place_is (x ∷ gs) (b ∷ ps) n e k g (inl same) a (inr h) =
    let l = place_from ps (suc n) g.number a h in let c = (cons_parts k).0 in let d = ap (λ (g : Goal). g.number) same in absurd (omega (arith, l, c, d))
place_is (x ∷ gs) (b ∷ ps) n e k g (inr i) a (inl h) =
    let l = numbers_from gs (suc n) (length ps) (cons_parts k).1 g i in let c = h.0 in absurd (omega (arith, l, c))
place_is (x ∷ gs) (b ∷ ps) n e k g (inr i) a (inr h) = place_is gs ps (suc n) (cons_parts e).1 (cons_parts k).1 g i a h

-- ---- of runs

module _ (setting : Setting) (q : Program Steps) (texts : Texts) (written : ℕ → Written) (fits : ProgramFits setting q texts written) (n : ℕ) (f : Function Steps) (is : q.functions n ≡ Some f) where
  abbrev m : sense.World
  m = world_of setting

  abbrev g : Written
  g = written n

  abbrev part : FunctionIn setting q texts n f g
  part = fits.functions n f is

  abbrev word : Step
  word = word_of m q texts n f g

  pub placed_so : (a : Goal) → In a (goals_of setting q texts n f g) → (e : Stop) → FailsAs (places word) 0 a.number e → IsStop e a.place
  placed_so a listed e h =
      let o = goals_are_in_order setting q texts n f g in
      subst (IsStop e) (sym (place_is (goals_of setting q texts n f g) (places word) 0 o.places o.numbers a listed h.0 h.1)) h.2

  pub falsified_so : (a : Goal) → In a (goals_of setting q texts n f g) → (env : sense.Values) → truth m env (formula_of a) ≡ false → (e : Stop) × (IsStop e a.place × SomeStops q n f e)
  falsified_so a listed env untrue =
      let r = falsified_fail (fits_of m q texts n f g) setting q n f g.temporaries g.temp_kind texts (others_of m q texts n f g) g.bases (others_run m q texts n f g)
      (in_setting setting q texts written fits n f is) part.fits part.starts (others_good m q texts n f g) (fits.plain.functions n f is).params part.size part.bases part.own
      a listed env untrue in
      let t = r.1.1.1 in
      (t.0, (placed_so a listed t.0 t.1.1, (r.0, (r.1.0, (r.1.1.0, t.1.0)))))

  pub fails_so : (e : Stop) (x : End) → FunctionEnds q.facts (shape_in f g) (places word) (stops e) x → (i : ℕ) × ((x ≡ fails i) × FailsAs (places word) 0 i e)
  fails_so e (goes_on st) h = absurd h
  fails_so e (leaves k st) h = absurd h
  fails_so e (fails i) h = (i, (refl, h))

  sound : (e : Stop) → ((a : Goal) → In a (goals_of setting q texts n f g) → IsStop e a.place → Valid setting (formula_of a)) → SomeStops q n f e → ⊥
  sound e valid (vs, (w, (enters, run))) =
      let entry = entries_start m q f g.temporaries g.temp_kind texts (in_setting setting q texts written fits n f is) (fits.plain.functions n f is).params part.starts vs w enters in
      let r = forth m q n f g.temporaries g.temp_kind texts (others_of m q texts n f g) (fits_of m q texts n f g) (others_run m q texts n f g)
      (in_setting setting q texts written fits n f is) part.fits vs w entry.0 entry.1.1 (stops e) run in
      let x = fails_so e r.0 r.2 in
      let a = walked.failures_have_goals setting g.bases (start_in m q texts n f g) word (are_fit setting q texts n f g part) x.0 entry.0
      (entry.1.0, subst (Seg [] 0 word entry.0) x.1.0 r.1) in
      let stop = placed_so a.0 a.1 e (subst (λ i. FailsAs (places word) 0 i e) (sym a.2) x.1.1) in
      false≢true (sym a.4.claim ∙ valid a.0 a.1 stop a.3 a.4.bounded)

  complete : (e : Stop) → (SomeStops q n f e → ⊥) → (a : Goal) → In a (goals_of setting q texts n f g) → IsStop e a.place → Valid setting (formula_of a)
  complete e none a listed stop env bounded = on_bool (truth m env (formula_of a)) (λ t. t)
      (λ t. let r = falsified_so a listed env t in absurd (none (subst (SomeStops q n f) (one_stop r.0 e a.place r.1.0 stop) r.1.1)))

  pub exact_for_runs : (e : Stop) → StopsAreExact setting q texts n f g e
  exact_for_runs e = record { sound = sound e; complete = complete e }

pub falsified_goals_fail : FalsifiedGoalsFail
falsified_goals_fail setting q texts written fits n f is a listed env untrue = falsified_so setting q texts written fits n f is a listed env untrue

pub goals_are_exact_for_runs : GoalsAreExactForRuns
goals_are_exact_for_runs setting q texts written fits n f is e = exact_for_runs setting q texts written fits n f is e

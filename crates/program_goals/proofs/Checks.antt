-- Goals are exact, each at its own check.
use Rattle.std.proofs.Common.{◌≡◌, ℕ, List, [], refl, sym, subst}
use Rattle.std.specs.Prelude.{Some}
use Rattle.c_runs.specs.TruthStates.{Value}
use Rattle.qed_terms.specs.Meaning as sense
use Rattle.qed_terms.specs.Setting.{Setting, world_of}
use Rattle.c_runs.specs.Program.{Function, Facts, Program}
use Rattle.c_runs.specs.States.{World}
use Rattle.c_runs.specs.Claims.{Stop}
use Rattle.c_runs.specs.Calls.{Eval, gives, stops}
use Rattle.c_runs.specs.Entry.{Enters}
use Rattle.c_runs.specs.Tree.{Steps}
use Rattle.goal_segments.specs.Segments.{FunctionSeg}
use Rattle.plain_states.specs.Slots.{State}
use Rattle.plain_runs.specs.Fitting.{Shape}
use Rattle.walk_steps.specs.State.{In}
use Rattle.walk_steps.specs.Forms.{Place}
use Rattle.walk_steps.specs.Step.{Step, places}
use Rattle.walk_steps.specs.Run.{fails, Seg}
use Rattle.walk_steps.specs.Walk.{Goal}
use Rattle.walk_steps.specs.Laws.{Fails}
use Rattle.walk_steps.proofs.Exact as walked
use Rattle.program_steps.specs.Stops.{IsStop}
use Rattle.program_steps.specs.Terms.{Texts}
use Rattle.program_steps.specs.Standing.{FailsAs}
use Rattle.program_steps.specs.Functions.{FunctionEnds}
use Rattle.program_steps.proofs.Wholes.{forth, back}
use Rattle.program_steps.proofs.Sufficing.{entries_start}
use Rattle.program_steps.proofs.Entering.{starts_enter}
use Rattle.program_goals.specs.Words.{Written, shape_in, others_of, fits_of, word_of, start_in}
use Rattle.program_goals.specs.Programs.{goals_of, FunctionIn, ProgramFits}
use Rattle.program_goals.specs.Laws.{StopsAt, SomeStopsAt, CheckIsExact, GoalsAreExactByCheck, StopsHaveGoals}
use Rattle.program_goals.proofs.Others.{others_run, in_setting}
use Rattle.program_goals.proofs.Exact.{are_fit, goals_are_exact, fails_so, placed_so}

stops_so : (p : Facts) (s : Shape) (ps : List Place) (o : Eval) (i : ℕ) → FunctionEnds p s ps o (fails i) → (e : Stop) × ((stops e ≡ o) × FailsAs ps 0 i e)
stops_so p s ps (gives v u) i h = absurd h
stops_so p s ps (stops e) i h = (e, (refl, h))

module _ (setting : Setting) (q : Program Steps) (texts : Texts) (written : ℕ → Written) (fits : ProgramFits setting q texts written) (n : ℕ) (f : Function Steps) (is : q.functions n ≡ Some f) where
  abbrev m : sense.World
  m = world_of setting

  abbrev g : Written
  g = written n

  abbrev part : FunctionIn setting q texts n f g
  part = fits.functions n f is

  abbrev word : Step
  word = word_of m q texts n f g

  -- slots in which a run of the word fails are those of a world
  found : (i : ℕ) (st : State) → Fails (start_in m q texts n f g) word st i → SomeStopsAt setting q texts n f g i
  found i st run =
      let world = starts_enter m q f g.temporaries g.temp_kind texts (in_setting setting q texts written fits n f is) (fits.plain.functions n f is).params part.starts st run.0 in
      let r = back m q n f g.temporaries g.temp_kind texts (others_of m q texts n f g) (fits_of m q texts n f g) (others_run m q texts n f g)
      (in_setting setting q texts written fits n f is) part.fits world.0 world.1.0 st world.1.1.1 (fails i) run.1 in
      let x = stops_so q.facts (shape_in f g) (places word) r.0 i r.2 in (
        world.0,
        (
          world.1.0,
          (
            x.0,
            record {
              enters = world.1.1.0;
              run = subst (FunctionSeg q n f world.0 world.1.0) (sym x.1.0) r.1;
              slots = st;
              stand = world.1.1.1;
              start = run.0;
              fails = run.1;
              place = x.1.1;
            },
          ),
        ),
      )

  pub exact : (a : Goal) → In a (goals_of setting q texts n f g) → CheckIsExact setting q texts n f g a
  exact a listed =
      let x = goals_are_exact setting q texts n f g part a listed in
      record {
        sound = λ valid some. x.sound valid some.1.1.1.slots (some.1.1.1.start, some.1.1.1.fails);
        complete = λ none. x.complete (λ st run. none (found a.number st run));
      }

  pub with_goal : (vs : List Value) (w : World) → Enters q f vs w.memory → (e : Stop) → FunctionSeg q n f vs w (stops e)
      → (a : Goal) × (In a (goals_of setting q texts n f g) × (IsStop e a.place × StopsAt setting q texts n f g a.number vs w e))
  with_goal vs w enters e run =
      let entry = entries_start m q f g.temporaries g.temp_kind texts (in_setting setting q texts written fits n f is) (fits.plain.functions n f is).params part.starts vs w enters in
      let r = forth m q n f g.temporaries g.temp_kind texts (others_of m q texts n f g) (fits_of m q texts n f g) (others_run m q texts n f g)
      (in_setting setting q texts written fits n f is) part.fits vs w entry.0 entry.1.1 (stops e) run in
      let x = fails_so setting q texts written fits n f is e r.0 r.2 in
      let there : Seg [] 0 word entry.0 (fails x.0) = subst (Seg [] 0 word entry.0) x.1.0 r.1 in
      let a = walked.failures_have_goals setting g.bases (start_in m q texts n f g) word (are_fit setting q texts n f g part) x.0 entry.0 (entry.1.0, there) in
      let same : x.0 ≡ a.0.number = sym a.2 in
      let place : FailsAs (places word) 0 a.0.number e = subst (λ i. FailsAs (places word) 0 i e) same x.1.1 in (
        a.0,
        (
          a.1,
          (
            placed_so setting q texts written fits n f is a.0 a.1 e place,
            record {
              enters = enters;
              run = run;
              slots = entry.0;
              stand = entry.1.1;
              start = entry.1.0;
              fails = subst (λ i. Seg [] 0 word entry.0 (fails i)) same there;
              place = place;
            },
          ),
        ),
      )

pub goals_are_exact_by_check : GoalsAreExactByCheck
goals_are_exact_by_check setting q texts written fits n f is a listed = exact setting q texts written fits n f is a listed

pub stops_have_goals : StopsHaveGoals
stops_have_goals setting q texts written fits n f is vs w enters e run = with_goal setting q texts written fits n f is vs w enters e run

-- Terms of statements that have words are closed.
use Rattle.std.proofs.Common.{◌≡◌, ℕ, Bool, true, false, List, [], ◌∷◌, Option, Some, None, refl}
use Rattle.wp_base.specs.declared.kinds.CellKind.{CellKind}
use Rattle.wp_base.specs.declared.kinds.Kind.{Kind}
use Rattle.typed_prog.specs.Tree as t
use Rattle.c_runs.specs.Program.{Function, Facts}
use Rattle.c_runs.specs.Tree as core
use Rattle.c_runs.specs.Tree.{Steps}
use Rattle.plain_runs.specs.Fitting.{Shape, with_names}
use Rattle.value_terms.specs.Typed.{IsTyped, AreTyped}
use Rattle.value_words.specs.Laws.{IsClosed, AreClosed}
use Rattle.value_words.proofs.Closing.{values_are_closed}
use Rattle.walk_frames.specs.Words.{GoalClosed, GivenClosed, StepClosed, StepsClosed}
use Rattle.program_steps.specs.Temporaries.{Temporaries, no_temporaries, live, all_live}
use Rattle.program_steps.specs.Typed.{scope_at, ValueFits}
use Rattle.call_words.specs.Fits.{ResultGoes, none_nowhere, none_to, goes_to, Receives, by_nothing, by_temporary, by_place, by_variable}
use Rattle.plain_words.specs.Standing.{StepStands, AllStand}

module _ (p : Facts) (s : Shape) where
  value_closed : (f : Temporaries) (e : t.Value) (k : Kind) → ValueFits p s f e k → IsClosed p s e
  value_closed f e k h = record { items = h.items; term = h.term; condition = h.condition }

  operands_closed : (f : Temporaries) (es : t.Values) → AreTyped p s.variables (scope_at s f) es → AreClosed p s es
  operands_closed f es h = (values_are_closed p s (scope_at s f) refl).operands es h

  module _ (functions : ℕ → Option (Function Steps)) where
    receives_closed : (i : ℕ → Bool) (to : core.Goal) (k : Kind) → Receives p s i k to → GoalClosed p s to
    receives_closed i to k by_nothing = tt
    receives_closed i to k (by_temporary lt e) = tt
    receives_closed i to k (by_place leads) = operands_closed no_temporaries t.stop tt
    receives_closed i to k (by_variable takes) = tt

    goal_closed : (i : ℕ → Bool) (result : Option CellKind) (to : core.Goal) → ResultGoes p s i result to → GoalClosed p s to
    goal_closed i result to none_nowhere = tt
    goal_closed i result to (none_to lt) = tt
    goal_closed i result to (goes_to {k = k} {to = to'} h) = receives_closed i to' k h

    mutual
      step_closed : (a : core.Step) (i : ℕ → Bool) (os : List Temporaries) (f : Temporaries) → StepStands p s functions i os f a → StepClosed p s a
      step_closed (core.set cs n e) i os f h = value_closed (live (core.set cs n e) os f) e (s.temp_kind n) h.1
      step_closed (core.store cs type l path t.stop) i os f h = absurd h
      step_closed (core.store cs type l path (t.more e t.stop)) i os f h =
          let g = live (core.store cs type l path (t.more e t.stop)) os f in
          operands_closed g (t.more e t.stop) (h.2.typed, tt)
      step_closed (core.store cs type l path (t.more e (t.more d es))) i os f h = absurd h
      step_closed (core.start cs x e) i os f h = value_closed (live (core.start cs x e) os f) e h.0 h.2
      step_closed (core.call cs to n l es) i os f h =
          (operands_closed (live (core.call cs to n l es) os f) es h.typed, goal_closed i h.function.result to h.result)
      step_closed (core.branch cs e a b) i os f h =
          (value_closed (live (core.branch cs e a b) os f) e h.0 h.1, steps_closed a i os f h.3, steps_closed b i os f h.4)
      step_closed (core.repeat l ss) i os f h = steps_closed ss i os no_temporaries h.1
      step_closed (core.around ss) i os f h = steps_closed ss i (f ∷ os) f h
      step_closed (core.exit k) i os f h = tt
      step_closed (core.give cs None) i os f h = tt
      step_closed (core.give cs (Some e)) i os f h = value_closed (live (core.give cs (Some e)) os f) e h.0 h.2
      step_closed (core.claim c) i os f h = tt
      step_closed (core.scope ys ss) i os f h = steps_closed ss (with_names ys i) os f h.1

      pub steps_closed : (ss : Steps) (i : ℕ → Bool) (os : List Temporaries) (f : Temporaries) → AllStand p s functions i os f ss → StepsClosed p s ss
      steps_closed core.end i os f h = tt
      steps_closed (core.then_ a ss) i os f h = (step_closed a i os (all_live ss os f) h.0, steps_closed ss i os f h.1)

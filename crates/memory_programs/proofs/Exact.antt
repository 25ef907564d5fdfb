-- Goals are exact, each by itself.
use Rattle.std.proofs.Common.{◌≡◌, ℕ, Some, subst}
use Rattle.qed_terms.specs.Setting.{Setting, world_of, Valid}
use Rattle.qed_terms.specs.Meaning.{truth}
use Rattle.c_runs.specs.Program.{Function, Program}
use Rattle.c_runs.specs.Claims.{Stop}
use Rattle.c_runs.specs.Tree.{Steps}
use Rattle.walk_steps.specs.State.{In}
use Rattle.walk_steps.specs.Walk.{Goal, formula_of}
use Rattle.program_steps.specs.Stops.{IsStop}
use Rattle.program_steps.proofs.Filling.{on_bool}
use Rattle.program_goals.proofs.Stops.{one_stop}
use Rattle.memory_words.specs.Shapes.{FileCells}
use Rattle.memory_words.specs.Readings.{Texts}
use Rattle.memory_functions.specs.Words.{Written}
use Rattle.memory_exact.specs.Laws.{SomeStops}
use Rattle.memory_exact.proofs.Exact as exact
use Rattle.memory_programs.specs.Programs.{others_in, fits_in, goals_of, ProgramFits}
use Rattle.memory_programs.specs.Laws.{GoalsAreInOrder, GoalsAreExact, GoalsAreExactByCheck, StopsHaveGoals, FalsifiedGoalsFail, StopsAreExact}
use Rattle.memory_programs.proofs.Parts.{part_of}

pub goals_are_in_order : GoalsAreInOrder
goals_are_in_order setting q cells texts n f g = exact.goals_are_in_order setting q cells texts (others_in setting q cells texts n f g) n f g

pub goals_are_exact : GoalsAreExact
goals_are_exact setting q cells texts written fits n f is =
    let g = written n in
    exact.goals_are_exact (fits_in setting q cells texts n f g) setting q cells texts (others_in setting q cells texts n f g) n f g (part_of setting q cells texts written fits n f is)

pub goals_are_exact_by_check : GoalsAreExactByCheck
goals_are_exact_by_check setting q cells texts written fits n f is =
    let g = written n in
    exact.goals_are_exact_by_check (fits_in setting q cells texts n f g) setting q cells texts (others_in setting q cells texts n f g) n f g
    (part_of setting q cells texts written fits n f is)

pub stops_have_goals : StopsHaveGoals
stops_have_goals setting q cells texts written fits n f is =
    let g = written n in
    exact.stops_have_goals (fits_in setting q cells texts n f g) setting q cells texts (others_in setting q cells texts n f g) n f g
    (part_of setting q cells texts written fits n f is)

pub falsified_goals_fail : FalsifiedGoalsFail
falsified_goals_fail setting q cells texts written fits n f is =
    let g = written n in
    exact.falsified_goals_fail (fits_in setting q cells texts n f g) setting q cells texts (others_in setting q cells texts n f g) n f g
    (part_of setting q cells texts written fits n f is)

-- ---- a kind of check at a line

module _ (setting : Setting) (q : Program Steps) (cells : FileCells) (texts : Texts) (written : ℕ → Written) (fits : ProgramFits setting q cells texts written) (n : ℕ) (f : Function Steps)
    (is : q.functions n ≡ Some f) (e : Stop) where
  abbrev g : Written
  g = written n

  sound : ((a : Goal) → In a (goals_of setting q cells texts n f g) → IsStop e a.place → Valid setting (formula_of a)) → SomeStops q n f e → ⊥
  sound valid (vs, w, enters, run) =
      let x = stops_have_goals setting q cells texts written fits n f is vs w enters e run in
      (goals_are_exact_by_check setting q cells texts written fits n f is x.0 x.1).sound (valid x.0 x.1 x.2) (vs, w, e, x.3)

  -- a segment run that goes wrong at the goal's check does so as its place says
  complete : (SomeStops q n f e → ⊥) → (a : Goal) → In a (goals_of setting q cells texts n f g) → IsStop e a.place → Valid setting (formula_of a)
  complete none a listed stop env bounded = on_bool (truth (world_of setting) env (formula_of a)) (λ t. t)
      (λ untrue.
      let x = falsified_goals_fail setting q cells texts written fits n f is a listed env bounded untrue in absurd (none (subst (SomeStops q n f) (one_stop x.0 e a.place x.1 stop) x.2)))

pub stops_are_exact : StopsAreExact
stops_are_exact setting q cells texts written fits n f is e = record {
  sound = sound setting q cells texts written fits n f is e;
  complete = complete setting q cells texts written fits n f is e;
}

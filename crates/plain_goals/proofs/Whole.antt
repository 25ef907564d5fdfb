-- What is so of the goals of plain texts.
use Rattle.std.proofs.Common.{◌≡◌, ℕ, Bool, true, ◌&&◌, List, [], ◌∷◌, map, refl, sym, ap, subst, inl, inr}
use Rattle.wp_base.specs.declared.kinds.Kind.{Kind}
use Rattle.typed_unit.specs.Unit as u
use Rattle.acsl_typing.specs.Annotations.{Annotations}
use Rattle.qed_terms.specs.Setting.{Valid}
use Rattle.plain_files.specs.Told.{notes_of, program_of}
use Rattle.c_runs.specs.Tree.{Step, Steps, end, then_, set, store, start, call, branch, repeat, around, exit, give, claim, scope}
use Rattle.goal_segments.specs.Laws.{calls_among, all_among}
use Rattle.walk_steps.specs.State.{In}
use Rattle.walk_steps.specs.Walk.{Goal, formula_of}
use Rattle.plain_annotations.specs.Settings.{Names}
use Rattle.program_goals.specs.Programs.{AllValid}
use Rattle.plain_goals.specs.Files.{core_of, setting_of_file, texts_of_file, written_of, goals_at, body_goals, file_goals}
use Rattle.plain_goals.specs.Laws.{ValidGoalsOfTextsRunWell, EachValid, ValidFilesRunWell, GoalsOfTextsAreExact, GoalsOfTextsAreTexts}
use Rattle.plain_files.proofs.Told.{is_found}
use Rattle.program_goals.proofs.Exact.{goals_are_exact, goals_are_exact_for_runs, falsified_goals_fail}
use Rattle.program_goals.proofs.Checks.{goals_are_exact_by_check, stops_have_goals}
use Rattle.program_goals.proofs.Runs.{valid_goals_run_well}
use Rattle.program_goals.proofs.Texts.{goals_are_well_formed, goals_have_given_names}
use Rattle.plain_goals.proofs.Files.{core_found, body_in, program_fits, texts_named, bases_named}

pub valid_goals_of_texts_run_well : ValidGoalsOfTextsRunWell
valid_goals_of_texts_run_well m ts p t a names kinds met reached closed valid n f r e vs w enters turns contents =
    valid_goals_run_well (setting_of_file t a names) (program_of t a) (texts_of_file t a names) (written_of t a names kinds) (program_fits m ts p t a names kinds met) reached closed valid n f r e
    vs w enters turns contents

-- ---- all goals of a file

abbrev all : ℕ → Bool
all n = true

mutual
  among : (s : Step) → calls_among all s ≡ true
  among (set cs n e) = refl
  among (store cs type l path es) = refl
  among (start cs x e) = refl
  among (call cs to n l es) = refl
  among (branch cs e a b) = λ i. each_among a i && each_among b i
  among (repeat l ss) = each_among ss
  among (around ss) = each_among ss
  among (exit k) = refl
  among (give cs e) = refl
  among (claim c) = refl
  among (scope ys ss) = each_among ss

  each_among : (ss : Steps) → all_among all ss ≡ true
  each_among end = refl
  each_among (then_ s ss) = λ i. among s i && each_among ss i

in_map : {X Y : Type 0} (f : X → Y) (x : X) (xs : List X) → In x xs → In (f x) (map f xs)
in_map f x [] h = h
in_map f x (y ∷ xs) (inl e) = inl (ap f e)
in_map f x (y ∷ xs) (inr h) = inr (in_map f x xs h)

module _ (t : u.Typed) (a : Annotations) (names : Names) (kinds : (function number : ℕ) → Kind) (valid : EachValid (setting_of_file t a names) (file_goals t a names kinds)) where
  -- those of a body, whatever its function is
  valid_of : (b : u.Body) → In b t.bodies → (x : Goal) → In x (goals_at t a names kinds b.function ((core_of t a).functions b.function)) → Valid (setting_of_file t a names) (formula_of x)
  valid_of b among = valid (body_goals t a names kinds b) (in_map (body_goals t a names kinds) b t.bodies among)

  all_valid : AllValid (setting_of_file t a names) (core_of t a) (texts_of_file t a names) (written_of t a names kinds) all
  all_valid n f r e x in_goals =
      let c = core_found ((program_of t a).functions n) f e in
      let found = is_found t a n c.0 c.1.0 in
      let b = body_in n t.bodies (notes_of t.parts a.items) found.text found.written in
      valid_of found.text.body b.0 x
      (subst (λ k. In x (goals_at t a names kinds k ((core_of t a).functions k))) (sym b.1) (subst (λ o. In x (goals_at t a names kinds n o)) (sym e) in_goals))

pub valid_files_run_well : ValidFilesRunWell
valid_files_run_well m ts p t a names kinds met valid n f e vs w enters turns contents =
    valid_goals_of_texts_run_well m ts p t a names kinds met all (λ k g r h. each_among g.body) (all_valid t a names kinds valid) n f refl e vs w enters turns contents

-- ---- each goal

pub goals_of_texts_are_exact : GoalsOfTextsAreExact
goals_of_texts_are_exact m ts p t a names kinds met n f e =
    let fits = program_fits m ts p t a names kinds met in
    record {
      goals = goals_are_exact (setting_of_file t a names) (core_of t a) (texts_of_file t a names) n f (written_of t a names kinds n) (fits.functions n f e);
      checks = goals_are_exact_by_check (setting_of_file t a names) (core_of t a) (texts_of_file t a names) (written_of t a names kinds) fits n f e;
      wrong = stops_have_goals (setting_of_file t a names) (core_of t a) (texts_of_file t a names) (written_of t a names kinds) fits n f e;
      runs = goals_are_exact_for_runs (setting_of_file t a names) (core_of t a) (texts_of_file t a names) (written_of t a names kinds) fits n f e;
      falsified = falsified_goals_fail (setting_of_file t a names) (core_of t a) (texts_of_file t a names) (written_of t a names kinds) fits n f e;
    }

pub goals_of_texts_are_texts : GoalsOfTextsAreTexts
goals_of_texts_are_texts m ts p t a names kinds met n f e g among =
    let fits = program_fits m ts p t a names kinds met in
    let named = texts_named m ts p t a names kinds met in (
      goals_are_well_formed (setting_of_file t a names) (core_of t a) (texts_of_file t a names) (written_of t a names kinds) fits named n f e (bases_named m ts p t a names kinds met n f e) g among,
      goals_have_given_names (setting_of_file t a names) (core_of t a) (texts_of_file t a names) (written_of t a names kinds) fits named n f e g among,
    )

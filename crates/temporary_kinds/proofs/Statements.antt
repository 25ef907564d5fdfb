-- Temporaries in statements, in the words of the code.
use Rattle.std.proofs.Common.{◌≡◌, ◌<◌, ◌≤◌, ℕ, zero, suc, List, [], ◌∷◌, length, get_or, Option, Some, None, refl, sym, ap, subst, ◌∙◌, arith}
use Rattle.std.specs.Option.{option_map}
use Rattle.wp_base.specs.declared.kinds.CellKind.{CellKind}
use Rattle.checked_trees.specs.declared.files.CheckedFunction.{CheckedFunction}
use Rattle.checked_trees.specs.declared.steps.Step.{Step as Code}
use Rattle.checked_trees.specs.View.{view_checked_function, view_step, view_steps}
use Rattle.c_runs.specs.Tree as core
use Rattle.c_runs.specs.Checks.{Check}
use Rattle.typed_prog.specs.Tree as t
use Rattle.temporary_kinds.specs.Kinds.{or_else, greater, result_of, value_kind, value_count, step_kind, step_count, steps_kind, steps_count}
use Rattle.temporary_kinds.specs.View.{Tells, results_in}
use Rattle.temporary_kinds.proofs.Telling.{then_told, same_told, kinds_of, count_of}

-- ---- what functions give

pub given_there : (fs : List (Option CheckedFunction)) (n : ℕ) (x : Option CheckedFunction) (f : CheckedFunction) → n < length fs → x ≡ get_or fs n x → x ≡ Some f
    → f.result ≡ results_in fs n
given_there [] n x f there is some = absurd (omega arith)
given_there (g ∷ fs) zero x f there is some = ap (λ o. result_of (option_map view_checked_function o)) (sym some ∙ is)
given_there (g ∷ fs) (suc n) x f there is some = given_there fs n x f (omega arith) is some

pub given_none : (fs : List (Option CheckedFunction)) (n : ℕ) (x : Option CheckedFunction) → n < length fs → x ≡ get_or fs n x → x ≡ None
    → None ≡ results_in fs n
given_none [] n x there is none = absurd (omega arith)
given_none (g ∷ fs) zero x there is none = ap (λ o. result_of (option_map view_checked_function o)) (sym none ∙ is)
given_none (g ∷ fs) (suc n) x there is none = given_none fs n x (omega arith) is none

pub given_missing : (fs : List (Option CheckedFunction)) (n : ℕ) → length fs ≤ n → None ≡ results_in fs n
given_missing [] n end = refl
given_missing (g ∷ fs) zero end = absurd (omega arith)
given_missing (g ∷ fs) (suc n) end = given_missing fs n (omega arith)

pub ruleset given_laws = (given_there, given_none, given_missing)

-- ---- statements

abbrev Kinds : Type 0
Kinds = List (Option CellKind)

module _ (results : ℕ → Option CellKind) where
  pub branch_told : (s : core.Step) (cs : List Check) (e : t.Value) (a b : core.Steps) (w x y z : Kinds) → s ≡ core.branch cs e a b
      → Tells w x (value_kind e) (value_count e) → Tells x y (steps_kind results a) (steps_count a) → Tells y z (steps_kind results b) (steps_count b)
      → Tells w z (step_kind results s) (step_count s)
  branch_told s cs e a b w x y z is h i j =
      subst (λ u. Tells w z (step_kind results u) (step_count u)) (sym is)
      (then_told w x z (value_kind e) (λ n. or_else (steps_kind results a n) (steps_kind results b n)) (value_count e) (greater (steps_count a) (steps_count b)) h
      (then_told x y z (steps_kind results a) (steps_kind results b) (steps_count a) (steps_count b) i j))

  abbrev pub code_kind : Code → ℕ → Option CellKind
  code_kind s n = step_kind results (view_step s) n

  abbrev pub code_count : Code → ℕ
  code_count s = step_count (view_step s)

  kinds_same : (ss : List Code) (n : ℕ) → kinds_of code_kind code_count ss n ≡ steps_kind results (view_steps ss) n
  kinds_same [] n = refl
  kinds_same (s ∷ ss) n = ap (or_else (code_kind s n)) (kinds_same ss n)

  count_same : (ss : List Code) → count_of code_kind code_count ss ≡ steps_count (view_steps ss)
  count_same [] = refl
  count_same (s ∷ ss) = ap (greater (code_count s)) (count_same ss)

  pub steps_told : (ss : List Code) (xs ys : Kinds) → Tells xs ys (kinds_of code_kind code_count ss) (count_of code_kind code_count ss)
      → Tells xs ys (steps_kind results (view_steps ss)) (steps_count (view_steps ss))
  steps_told ss xs ys h =
      same_told xs ys (kinds_of code_kind code_count ss) (steps_kind results (view_steps ss)) (count_of code_kind code_count ss) (steps_count (view_steps ss))
      (kinds_same ss) (count_same ss) h

-- Goals with what is said of them.
use Rattle.std.specs.Prelude.{◌≡◌, ℕ, Bool, true, false, List, [], ◌∷◌, length, Option, Some, None}
use Rattle.qed_terms.specs.declared.verdict.Verdict.{Verdict}
use Rattle.qed_terms.specs.Tree.{Tree}
use Rattle.goal_text.specs.Text.{goal_text}
use Rattle.walk_steps.specs.Walk.{Goal, formula_of}
use Rattle.goal_report.specs.Report.{Judged, goal_lines, proved_in}

-- what may be said of a goal
abbrev pub Says : Type 1
Says = Tree → Verdict → Type 0

-- the text of a goal, where goals are shown
abbrev pub shown : Bool → (known : List Tree) → (claim : Tree) → Option (List ℕ)
shown true known claim = Some (goal_text known claim)
shown false known claim = None

-- of a goal: its check, what is said of it, and its text
pub record IsJudged (Is : Tree → Verdict → Type 0) (shows : Bool) (g : Goal) (j : Judged) : Type 0 where
  pub place : j.place ≡ g.place
  pub verdict : Is (formula_of g) j.verdict
  pub text : j.text ≡ shown shows g.known g.claim

-- as many items on both sides, and each is so with the one at its place
abbrev pub EachIsSo : {X Y : Type 0} → (X → Y → Type 0) → List X → List Y → Type 0
EachIsSo Is [] [] = Unit {0}
EachIsSo Is [] (y ∷ ys) = ⊥
EachIsSo Is (x ∷ xs) [] = ⊥
EachIsSo Is (x ∷ xs) (y ∷ ys) = Is x y × EachIsSo Is xs ys

-- each goal with what is said of it, in order
abbrev pub AreJudged : (Is : Tree → Verdict → Type 0) → (shows : Bool) → List Goal → List Judged → Type 0
AreJudged Is shows = EachIsSo (IsJudged Is shows)

-- these are the lines of a function's goals, and so many are proved
pub record AreLines (Is : Tree → Verdict → Type 0) (shows : Bool) (name : List ℕ) (gs : List Goal) (text : List ℕ) (goals proved : ℕ) : Type 0 where
  pub judged : List Judged
  pub are : AreJudged Is shows gs judged
  pub text_is : text ≡ goal_lines name 1 judged
  pub goals_is : goals ≡ length judged
  pub proved_is : proved ≡ proved_in judged

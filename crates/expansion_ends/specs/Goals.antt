-- How the expansion of a goal ends, and which verdicts may be given of it.
use Rattle.std.specs.Prelude.{◌≡◌, ℕ, false, List, []}
use Rattle.qed_terms.specs.declared.verdict.Verdict.{Verdict}
use Rattle.qed_terms.specs.declared.verdict.Verdict.TheVariants as verdict
use Rattle.qed_terms.specs.Setting.{Setting, Valid}
use Rattle.qed_terms.specs.Tree.{Tree, true_tree, not_of}
use Rattle.qed_rules.specs.Rules.{step}
use Rattle.qed_simplify.specs.Normal.{Normal}
use Rattle.branches.specs.Branch.{Branch}
use Rattle.branches.specs.Expansion.{Rules, End, Runs, all_closed, stays_open, too_many, too_large, rules_of, from_formula}
use Rattle.branch_changes.specs.Changes.{Changes}

-- what the expansion goes by, where this closes branches, and a round adds that; no open branch is passed over
abbrev pub proving : (closed : Branch → Type 0) → (round : Setting → Branch → List Tree → Type 0) → Setting → Rules
proving closed round s = rules_of false closed (Changes (Normal (step s)) closed) (round s)

-- The expansion of a goal: it is closed at once where the goal's normal form is `true`. Else it is that of the normal form of the goal's `not`.
pub data Expands (rules : Setting → Rules) (s : Setting) (fuel budget : ℕ) (goal : Tree) : End → Type 0 where
  at_once : Normal (step s) goal true_tree → Expands rules s fuel budget goal all_closed
  by_branches : {n : Tree} {e : End} → (Normal (step s) goal true_tree → ⊥) → Normal (step s) (not_of goal) n
      → Runs (rules s) budget (from_formula fuel n) 0 [] e → Expands rules s fuel budget goal e

-- A verdict on a goal: proved wherever its expansion closes, and only where it is valid; and else unknown only for the reason for which its expansion ends.
pub record IsVerdictOf (rules : Setting → Rules) (s : Setting) (fuel budget : ℕ) (goal : Tree) (v : Verdict) : Type 0 where
  pub valid : v ≡ verdict.Proved → Valid s goal
  pub closed : Expands rules s fuel budget goal all_closed → v ≡ verdict.Proved
  pub left_open : v ≡ verdict.Open → Expands rules s fuel budget goal stays_open
  pub branches : v ≡ verdict.Branches → Expands rules s fuel budget goal too_many
  pub size : v ≡ verdict.Size → Expands rules s fuel budget goal too_large

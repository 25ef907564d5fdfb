-- Texts of formulas, a line each, and what is answered to them.
use Rattle.std.specs.Prelude.{◌≡◌, ◌⊎◌, ℕ, suc, ◌==◌, Bool, true, false, not, List, [], ◌∷◌, ◌++◌, codes}
use Rattle.std.specs.List.{list_all}
use Rattle.std.specs.Fmt.{decimal}
use Rattle.wp_base.specs.declared.answers.Status.{Status}
use Rattle.wp_base.specs.declared.answers.Status.TheVariants as status
use Rattle.c_kinds.specs.declared.models.Machdep.{Machdep}
use Rattle.c_kinds.specs.Models.{long_bits}
use Rattle.qed_terms.specs.declared.verdict.Verdict.{Verdict}
use Rattle.qed_terms.specs.Tree.{Tree}
use Rattle.qed_terms.specs.WellFormed.{is_goal}
use Rattle.qed_rules.specs.Rules.{step}
use Rattle.qed_simplify.specs.Normal.{Normal, plain}
use Rattle.goal_text.specs.Held.{goal_held}
use Rattle.goal_text.specs.Text.{tree_text}
use Rattle.prover.specs.Prover.{IsProverVerdict}
use Rattle.report_read.specs.Report.{verdict_name}
use Rattle.wp_words.specs.Command.{Wanted}
use Rattle.wpgoal_cli.specs.Command.{Wish, normal, verdict}

-- ---- lines

abbrev pub is_newline : ℕ → Bool
is_newline c = c == 10

abbrev pub is_within_line : ℕ → Bool
is_within_line c = not (is_newline c)

-- The line is the first one of a text, and this stands behind it: up to a newline, or the whole text where there is none.
abbrev pub IsLine : (line text behind : List ℕ) → Type 0
IsLine line text behind = (list_all is_within_line line ≡ true) × ((text ≡ line ++ 10 ∷ behind) ⊎ ((text ≡ line) × (behind ≡ [])))

-- ---- formulas

-- the text is the one of this well formed formula, whose numbers a text may have
pub record IsTextOf (text : List ℕ) (formula : Tree) : Type 0 where
  pub well_formed : is_goal [] formula ≡ true
  pub spelled : tree_text formula ≡ text

-- no formula has this text
abbrev pub IsNoFormula : List ℕ → Type 0
IsNoFormula text = (formula : Tree) → is_goal [] formula ≡ true → goal_held [] formula ≡ true → tree_text formula ≡ text → ⊥

-- what is answered to the text of a formula: that of its normal form, where `long` has 64 bits
pub record IsNormalLine (line answer : List ℕ) : Type 0 where
  pub formula : Tree
  pub shown : Tree
  pub read : IsTextOf line formula
  pub is_shown : Normal (step (plain 64)) formula shown
  pub written : answer ≡ tree_text shown

-- behind the verdict the formula's own text on a line of its own, where it is wanted
abbrev pub text_behind : (shows : Bool) → Tree → List ℕ
text_behind true formula = 10 ∷ tree_text formula
text_behind false formula = []

-- or the verdict on it, in the data model, as far as is wanted
pub record IsVerdictLine (m : Machdep) (w : Wanted) (line answer : List ℕ) : Type 0 where
  pub formula : Tree
  pub verdict : Verdict
  pub read : IsTextOf line formula
  pub is_verdict : IsProverVerdict (plain (long_bits m)) w.fuel w.branches formula verdict
  pub written : answer ≡ verdict_name verdict ++ text_behind w.shows formula

abbrev pub AnswersLine : Wish → (line answer : List ℕ) → Type 0
AnswersLine normal line answer = IsNormalLine line answer
AnswersLine (verdict m w) line answer = IsVerdictLine m w line answer

-- ---- texts

-- Of a text these lines were answered, so many, up to what is left of it.
pub data Answered (wish : Wish) (all : List ℕ) : (left : List ℕ) → (lines : ℕ) → (answer : List ℕ) → Type 0 where
  nothing : Answered wish all all 0 []
  one_more : {left behind line answer : List ℕ} {n : ℕ} (text : List ℕ) → Answered wish all left n answer → IsLine line left behind → AnswersLine wish line text → Answered wish all behind (suc n) (answer ++ (text ++ 10 ∷ []))

abbrev pub no_goal_line : ℕ → List ℕ
no_goal_line n = codes "not a goal line " ++ (decimal n ++ 10 ∷ [])

-- The answer to a text: a line for each of its lines, or that the first one that is no formula's text is none.
pub data Answers (wish : Wish) (all : List ℕ) : Status → List ℕ → Type 0 where
  answered : {n : ℕ} {answer : List ℕ} → Answered wish all [] n answer → Answers wish all status.AllProved answer
  none : {left behind line answer : List ℕ} {n : ℕ} → Answered wish all left n answer → IsLine line left behind → IsNoFormula line → Answers wish all status.Refused (no_goal_line (suc n))

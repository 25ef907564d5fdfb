-- A report, as a plain value, and its bytes.
use Rattle.std.specs.Prelude.{◌≡◌, ℕ, ◌^◌, nat_lt, ◌&&◌, not, Bool, true, false, List, [], ◌∷◌, ◌++◌, length, map, count_by, codes, Option, Some, None}
use Rattle.std.specs.List.{list_all}
use Rattle.std.specs.Fmt.{decimal}
use Rattle.qed_terms.specs.declared.verdict.Verdict.{Verdict}
use Rattle.qed_terms.specs.declared.verdict.Verdict.TheVariants as verdict
use Rattle.report_read.specs.Bytes.{joined, is_free_of}

-- a goal: the function and its number there, what is checked on which line, what is said of it, and its formula where that is shown
pub record Goal : Type 0 where
  pub function : List ℕ
  pub number : ℕ
  pub check : List ℕ
  pub line : ℕ
  pub verdict : Verdict
  pub formula : Option (List ℕ)

-- globals that no pointer is taken to point to, lines whose `\from` is ignored, and the goals
pub record Report : Type 0 where
  pub hypotheses : List (List ℕ)
  pub ignored : List ℕ
  pub goals : List Goal

-- the rule that a text breaks, by its number and its name, and on which line
pub record Refusal : Type 0 where
  pub line : ℕ
  pub number : ℕ
  pub rule : List ℕ

-- what `wp` writes
pub data Document : Type 0 where
  report : Report → Document
  refusal : Refusal → Document

-- ---- its bytes

abbrev pub verdict_name : Verdict → List ℕ
verdict_name verdict.Proved = codes "proved"
verdict_name verdict.Open = codes "unknown open"
verdict_name verdict.Branches = codes "unknown branches"
verdict_name verdict.Size = codes "unknown size"

abbrev pub hypothesis_line : List ℕ → List ℕ
hypothesis_line name = codes "hypothesis no pointer to " ++ (name ++ 10 ∷ [])

abbrev pub ignored_line : ℕ → List ℕ
ignored_line line = codes "ignored from line " ++ (decimal line ++ 10 ∷ [])

-- `goal FUNCTION NUMBER CHECK line L VERDICT`
abbrev pub goal_line : Goal → List ℕ
goal_line g =
    codes "goal " ++ (g.function ++ 32 ∷ (decimal g.number ++ 32 ∷ (g.check ++ 32 ∷ (codes "line " ++ (decimal g.line ++ 32 ∷ (verdict_name g.verdict ++ 10 ∷ []))))))

abbrev pub formula_line : Option (List ℕ) → List ℕ
formula_line None = []
formula_line (Some formula) = codes "  " ++ (formula ++ 10 ∷ [])

abbrev pub goal_lines : Goal → List ℕ
goal_lines g = goal_line g ++ formula_line g.formula

abbrev pub is_proved : Verdict → Bool
is_proved verdict.Proved = true
is_proved _ = false

abbrev pub proved_in : List Goal → ℕ
proved_in goals = count_by (λ (g : Goal). is_proved g.verdict) goals

abbrev pub unknown_in : List Goal → ℕ
unknown_in goals = count_by (λ (g : Goal). not (is_proved g.verdict)) goals

-- `goals N proved P unknown U`
unfoldable pub sums_line : (goals proved unknown : ℕ) → List ℕ
sums_line n p u = codes "goals " ++ (decimal n ++ (codes " proved " ++ (decimal p ++ (codes " unknown " ++ (decimal u ++ 10 ∷ [])))))

abbrev pub summary_line : List Goal → List ℕ
summary_line goals = sums_line (length goals) (proved_in goals) (unknown_in goals)

abbrev pub report_text : Report → List ℕ
report_text r =
    joined (map hypothesis_line r.hypotheses) ++ (joined (map ignored_line r.ignored) ++ (joined (map goal_lines r.goals) ++ summary_line r.goals))

-- `refused line L: R NAME`
abbrev pub refusal_line : Refusal → List ℕ
refusal_line r = codes "refused line " ++ (decimal r.line ++ 58 ∷ (32 ∷ (decimal r.number ++ 32 ∷ (r.rule ++ 10 ∷ []))))

abbrev pub document_text : Document → List ℕ
document_text (report r) = report_text r
document_text (refusal r) = refusal_line r

-- ---- what a report may have: a number of 32 bits, words without spaces, and formulas that aren't empty, all on one line

abbrev pub is_number : ℕ → Bool
is_number n = nat_lt n (2 ^ 32)

abbrev pub is_word : List ℕ → Bool
is_word word = is_free_of 32 word

abbrev pub is_line : List ℕ → Bool
is_line line = is_free_of 10 line

abbrev pub is_some_line : List ℕ → Bool
is_some_line [] = false
is_some_line (b ∷ line) = is_line (b ∷ line)

abbrev pub is_formula : Option (List ℕ) → Bool
is_formula None = true
is_formula (Some formula) = is_some_line formula

abbrev pub is_goal : Goal → Bool
is_goal g = is_word g.function && (is_number g.number && (is_word g.check && (is_number g.line && is_formula g.formula)))

pub record IsReport (r : Report) : Type 0 where
  pub hypotheses : list_all is_line r.hypotheses ≡ true
  pub ignored : list_all is_number r.ignored ≡ true
  pub goals : list_all is_goal r.goals ≡ true

pub record IsRefusal (r : Refusal) : Type 0 where
  pub line : is_number r.line ≡ true
  pub number : is_number r.number ≡ true
  pub rule : is_line r.rule ≡ true

abbrev pub IsDocument : Document → Type 0
IsDocument (report r) = IsReport r
IsDocument (refusal r) = IsRefusal r

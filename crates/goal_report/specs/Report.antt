-- The bytes of a report: its hypotheses, the lines of what was ignored, a line for each goal, numbered from 1 in each function, with the goal's text below it
-- where that is shown, and a summary.
use Rattle.std.specs.Prelude.{ℕ, ◌+◌, ◌==◌, if◌then◌else◌, Bool, true, false, not, List, [], ◌∷◌, ◌++◌, length, count_by, codes, Option, Some, None}
use Rattle.std.specs.Fmt.{decimal}
use Rattle.std.specs.List.{list_all}
use Rattle.qed_terms.specs.declared.verdict.Verdict.{Verdict}
use Rattle.qed_terms.specs.declared.verdict.Verdict.TheVariants as verdict
use Rattle.walk_steps.specs.Forms.{Place}

-- a check, what is said of its goal, and the goal's text where it is shown
pub record Judged : Type 0 where
  pub place : Place
  pub verdict : Verdict
  pub text : Option (List ℕ)

-- a function's goals, in order
pub record Reported : Type 0 where
  pub name : List ℕ
  pub goals : List Judged

-- The names of checks, by their numbers: undefined behaviour (C11 6.5), then what is broken of annotations (ACSL 2.3, 2.4), and last an invariant that a
-- pass doesn't keep.
unfoldable pub check_name : (kind : ℕ) → List ℕ
check_name kind =
    if kind == 0 then codes "init" else
    if kind == 1 then codes "overflow" else
    if kind == 2 then codes "divzero" else
    if kind == 3 then codes "shift" else
    if kind == 4 then codes "access" else
    if kind == 5 then codes "index" else
    if kind == 6 then codes "pointer" else
    if kind == 7 then codes "compare" else
    if kind == 8 then codes "noreturn" else
    if kind == 9 then codes "requires" else
    if kind == 10 then codes "decreases" else
    if kind == 11 then codes "complete" else
    if kind == 12 then codes "disjoint" else
    if kind == 13 then codes "assert" else
    if kind == 14 then codes "invariant_entry" else
    if kind == 15 then codes "variant_positive" else
    if kind == 16 then codes "variant_less" else
    if kind == 17 then codes "assigns" else
    if kind == 18 then codes "ensures" else
    if kind == 19 then codes "invariant_kept" else
    []

abbrev pub verdict_name : Verdict → List ℕ
verdict_name verdict.Proved = codes "proved"
verdict_name verdict.Open = codes "unknown open"
verdict_name verdict.Branches = codes "unknown branches"
verdict_name verdict.Size = codes "unknown size"

-- `goal FUNCTION NUMBER CHECK line L VERDICT`
unfoldable pub goal_line : List ℕ → ℕ → (check : List ℕ) → (line : ℕ) → Verdict → List ℕ
goal_line function number check line said =
    codes "goal " ++ function ++ codes " " ++ decimal number ++ codes " " ++ check
    ++ codes " line " ++ decimal line ++ codes " " ++ verdict_name said ++ codes "\n"

-- two spaces and the goal's text, where it is shown
unfoldable pub text_line : Option (List ℕ) → List ℕ
text_line None = []
text_line (Some text) = codes "  " ++ text ++ codes "\n"

abbrev pub lines_of : List ℕ → ℕ → Judged → List ℕ
lines_of function number goal = goal_line function number (check_name goal.place.kind) goal.place.line goal.verdict ++ text_line goal.text

-- the lines of a function's goals, from this number on
abbrev pub goal_lines : List ℕ → ℕ → List Judged → List ℕ
goal_lines function number [] = []
goal_lines function number (goal ∷ goals) = lines_of function number goal ++ goal_lines function (number + 1) goals

abbrev pub all_lines : List Reported → List ℕ
all_lines [] = []
all_lines (f ∷ fs) = goal_lines f.name 1 f.goals ++ all_lines fs

abbrev pub is_proved : Verdict → Bool
is_proved verdict.Proved = true
is_proved _ = false

abbrev pub all_goals : List Reported → List Judged
all_goals [] = []
all_goals (f ∷ fs) = f.goals ++ all_goals fs

-- every verdict is proved
abbrev pub goals_proved : List Judged → Bool
goals_proved goals = list_all (λ (g : Judged). is_proved g.verdict) goals

abbrev pub all_proved : List Reported → Bool
all_proved fs = list_all (λ (f : Reported). goals_proved f.goals) fs

abbrev pub proved_in : List Judged → ℕ
proved_in goals = count_by (λ (g : Judged). is_proved g.verdict) goals

abbrev pub unknown_in : List Judged → ℕ
unknown_in goals = count_by (λ (g : Judged). not (is_proved g.verdict)) goals

-- `goals N proved P unknown U`
unfoldable pub summary_line : ℕ → ℕ → ℕ → List ℕ
summary_line goals proved unknown =
    codes "goals " ++ decimal goals ++ codes " proved " ++ decimal proved ++ codes " unknown " ++ decimal unknown ++ codes "\n"

-- ---- what stands before the goals

-- A pointer that was made in another file may not lead to this variable of the file.
unfoldable pub hypothesis_line : (name : List ℕ) → List ℕ
hypothesis_line name = codes "hypothesis no pointer to " ++ name ++ codes "\n"

abbrev pub hypothesis_lines : (names : List (List ℕ)) → List ℕ
hypothesis_lines [] = []
hypothesis_lines (x ∷ xs) = hypothesis_line x ++ hypothesis_lines xs

-- a part with `\from` says what a result hangs on (ACSL 2.3.2), which no goal asks for
unfoldable pub ignored_line : (line : ℕ) → List ℕ
ignored_line line = codes "ignored from line " ++ decimal line ++ codes "\n"

abbrev pub ignored_lines : (lines : List ℕ) → List ℕ
ignored_lines [] = []
ignored_lines (l ∷ ls) = ignored_line l ++ ignored_lines ls

abbrev pub report_text : (names : List (List ℕ)) → (lines : List ℕ) → List Reported → List ℕ
report_text names lines fs =
    let goals = all_goals fs in
    hypothesis_lines names ++ (ignored_lines lines ++ (all_lines fs ++ summary_line (length goals) (proved_in goals) (unknown_in goals)))

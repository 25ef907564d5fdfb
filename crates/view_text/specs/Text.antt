-- The view of a report as text: each line of the source behind its number, below it the goals that stand there; then the goals that stand on no line, what
-- the report takes for granted, and a table of the functions.
use Rattle.std.specs.Prelude.{ℕ, suc, ◌+◌, ◌-◌, nat_lt, Bool, if◌then◌else◌, List, [], ◌∷◌, ◌++◌, length, map, replicate, codes, Option, Some, None}
use Rattle.std.specs.Fmt.{decimal}
use Rattle.qed_terms.specs.declared.verdict.Verdict.{Verdict}
use Rattle.report_read.specs.Bytes.{joined, until, all_of}
use Rattle.report_read.specs.Report.{Goal, Report, verdict_name, is_proved, proved_in, unknown_in}
use Rattle.report_shown.specs.Source.{lines, by_line, elsewhere, first_list, other_lists}
use Rattle.report_shown.specs.Shown.{runs}

-- ---- lines

-- a number, with spaces before it up to a width
unfoldable pub padded : (width number : ℕ) → List ℕ
padded width n = replicate (width - length (decimal n)) 32 ++ decimal n

-- a line of the source, behind its number and a bar
unfoldable pub source_line : (number : ℕ) → List ℕ → List ℕ
source_line n line = padded 6 n ++ (codes " | " ++ (line ++ 10 ∷ []))

-- a line that isn't of the source has no number
abbrev pub margin : List ℕ
margin = codes "       | "

unfoldable pub added_line : List ℕ → List ℕ
added_line text = margin ++ (text ++ 10 ∷ [])

-- ---- formulas

-- of a line of 100 columns, a word and the space before it have room behind this one
abbrev pub has_room : (column : ℕ) → List ℕ → Bool
has_room c word = nat_lt c (100 - length word)

-- a word stands behind the one before it, or on the next line, two columns behind the margin
abbrev pub next_column : (column : ℕ) → List ℕ → ℕ
next_column c word = if has_room c word then c + 1 + length word else 11 + length word

abbrev pub word_behind : List ℕ → List ℕ
word_behind word = codes " " ++ word

abbrev pub word_below : List ℕ → List ℕ
word_below word = codes "\n" ++ (margin ++ (codes "  " ++ word))

abbrev pub word_put : (column : ℕ) → List ℕ → List ℕ
word_put c word = if has_room c word then word_behind word else word_below word

abbrev pub filled : (column : ℕ) → List (List ℕ) → List ℕ
filled c [] = []
filled c (word ∷ words) = word_put c word ++ filled (next_column c word) words

-- the parts between spaces
unfoldable pub words : List ℕ → List (List ℕ)
words bytes = let p = all_of (until 32) bytes in p.0 ++ p.1 ∷ []

-- as many words on a line as have room there; the first one begins a line
unfoldable pub formula_text : List ℕ → List ℕ
formula_text formula = filled 100 (words formula)

abbrev pub some_formula : Option (List ℕ) → List ℕ
some_formula None = []
some_formula (Some formula) = formula_text formula

-- ---- goals

-- green where it is proved, else red (ECMA-48 8.3.117)
abbrev pub color_text : Verdict → List ℕ
color_text v = if is_proved v then 27 ∷ codes "[32m" else 27 ∷ codes "[31m"

abbrev pub verdict_text : (color : Bool) → Verdict → List ℕ
verdict_text color v = if color then color_text v ++ (verdict_name v ++ (27 ∷ codes "[0m")) else verdict_name v

-- `FUNCTION NUMBER CHECK: VERDICT`
unfoldable pub goal_name : Goal → List ℕ
goal_name g = margin ++ (g.function ++ (codes " " ++ (decimal g.number ++ (codes " " ++ (g.check ++ codes ": ")))))

-- and its formula on the lines below, where the report shows it
unfoldable pub goal_text : (color : Bool) → Goal → List ℕ
goal_text color g = goal_name g ++ (verdict_text color g.verdict ++ (some_formula g.formula ++ 10 ∷ []))

unfoldable pub goals_text : (color : Bool) → List Goal → List ℕ
goals_text color goals = joined (map (goal_text color) goals)

abbrev pub some_goals : (color : Bool) → Option (List Goal) → List ℕ
some_goals color None = []
some_goals color (Some goals) = goals_text color goals

-- the lines from this number on, each with the goals of the list beside it
abbrev pub source_text : (color : Bool) → (number : ℕ) → List (List ℕ) → List (List Goal) → List ℕ
source_text color n [] lists = []
source_text color n (line ∷ lines) lists = (source_line n line ++ goals_text color (first_list lists)) ++ source_text color (suc n) lines (other_lists lists)

-- a goal on a line that the source hasn't
unfoldable pub missing_line : ℕ → List ℕ
missing_line line = margin ++ (codes "line " ++ (decimal line ++ codes ", which the source hasn't:\n"))

abbrev pub missing_text : (color : Bool) → Goal → List ℕ
missing_text color g = missing_line g.line ++ goal_text color g

-- ---- what the report takes for granted

unfoldable pub hypothesis_note : List ℕ → List ℕ
hypothesis_note name = margin ++ (codes "hypothesis no pointer to " ++ (name ++ 10 ∷ []))

unfoldable pub ignored_note : ℕ → List ℕ
ignored_note line = margin ++ (codes "ignored from line " ++ (decimal line ++ 10 ∷ []))

-- ---- the table

unfoldable pub row : (goals proved unknown : ℕ) → (name : List ℕ) → List ℕ
row goals proved unknown name = margin ++ (padded 7 goals ++ (padded 8 proved ++ (padded 8 unknown ++ (codes " " ++ (name ++ 10 ∷ [])))))

abbrev pub heading : List ℕ
heading = codes "       |   goals  proved unknown function\n"

abbrev pub row_of : (name : List ℕ) → List Goal → List ℕ
row_of name goals = row (length goals) (proved_in goals) (unknown_in goals) name

-- goals of one function
abbrev pub run_row : List Goal → List ℕ
run_row [] = []
run_row (g ∷ goals) = row_of g.function (g ∷ goals)

-- a row a function, and all of them
unfoldable pub table : List Goal → List ℕ
table goals = heading ++ (joined (map run_row (runs goals)) ++ row_of (codes "total") goals)

-- ---- the whole

-- what stands behind the source
unfoldable pub notes : (hypotheses : List (List ℕ)) → (ignored : List ℕ) → List ℕ
notes hypotheses ignored = joined (map hypothesis_note hypotheses) ++ joined (map ignored_note ignored)

-- the source with the goals that are shown, below their lines
unfoldable pub text_view : (color : Bool) → (source : List ℕ) → Report → (shown : List Goal) → List ℕ
text_view color source r goals =
    let ls = lines source in
    source_text color 1 ls (by_line 1 (length ls) goals)
    ++ (joined (map (missing_text color) (elsewhere (length ls) goals)) ++ (notes r.hypotheses r.ignored ++ table goals))

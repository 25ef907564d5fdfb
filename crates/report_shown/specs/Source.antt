-- The lines of a source, and the goals that stand on each.
use Rattle.std.specs.Prelude.{◌≡◌, ◌⊎◌, ℕ, zero, suc, ◌==◌, ◌||◌, nat_lt, List, [], ◌∷◌, ◌++◌, map, filter, if◌then◌else◌}
use Rattle.report_read.specs.Bytes.{joined, until, all_of}
use Rattle.report_read.specs.Report.{Goal}

-- what stands behind the last newline is a line too, if it isn't empty
abbrev pub last_line : List ℕ → List (List ℕ)
last_line [] = []
last_line (b ∷ rest) = (b ∷ rest) ∷ []

-- the lines, without their newlines
unfoldable pub lines : List ℕ → List (List ℕ)
lines text = let p = all_of (until 10) text in p.0 ++ last_line p.1

abbrev pub with_newline : List ℕ → List ℕ
with_newline line = line ++ 10 ∷ []

-- the lines are the whole text: only a newline at its end may lack there
abbrev pub LinesAreTheText : Type 0
LinesAreTheText = (text : List ℕ) → (joined (map with_newline (lines text)) ≡ text) ⊎ (joined (map with_newline (lines text)) ≡ text ++ 10 ∷ [])

-- ---- goals by their lines

abbrev pub on_line : ℕ → List Goal → List Goal
on_line line goals = filter (λ (g : Goal). g.line == line) goals

-- those of so many lines, from this one on
abbrev pub by_line : (from count : ℕ) → List Goal → List (List Goal)
by_line from zero goals = []
by_line from (suc n) goals = on_line from goals ∷ by_line (suc from) n goals

-- a goal put behind those of its line, where the lists are those of the lines from this one on
abbrev pub with_goal : (from : ℕ) → Goal → List (List Goal) → List (List Goal)
with_goal from g [] = []
with_goal from g (there ∷ lists) = (if g.line == from then there ++ g ∷ [] else there) ∷ with_goal (suc from) g lists

-- those on lines that a source of so many lines hasn't
abbrev pub elsewhere : (count : ℕ) → List Goal → List Goal
elsewhere count goals = filter (λ (g : Goal). g.line == 0 || nat_lt count g.line) goals

-- ---- lists of goals, line by line

abbrev pub first_list : List (List Goal) → List Goal
first_list [] = []
first_list (goals ∷ lists) = goals

abbrev pub other_lists : List (List Goal) → List (List Goal)
other_lists [] = []
other_lists (goals ∷ lists) = lists

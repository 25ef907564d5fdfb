-- The page: a table of functions on top, then the source with its goals below their lines.
use Rattle.std.specs.Prelude.{◌≡◌, ℕ, suc, Bool, true, false, List, [], ◌∷◌, ◌++◌, map, filter, length, codes, unwrap_or}
use Rattle.std.specs.List.{flat_map}
use Rattle.std.specs.Str.{bytes_eq}
use Rattle.std.specs.Str.Lossy.{utf8_lossy}
use Rattle.std.specs.Fmt.{decimal}
use Rattle.qed_terms.specs.declared.verdict.Verdict.{Verdict}
use Rattle.report_read.specs.Bytes.{all_of}
use Rattle.report_read.specs.Report.{Goal, is_proved, proved_in, unknown_in, verdict_name}
use Rattle.report_shown.specs.Shown.{all_proved, runs}
use Rattle.report_shown.specs.Source.{lines, by_line, elsewhere, first_list, other_lists}
use Rattle.report_page.specs.Markup.{escaped_text, Piece, as_shown, texts, piece_at}
use Rattle.report_page.specs.Style.{style}

abbrev pub newline : List ℕ
newline = 10 ∷ []

-- ---- classes and counts

abbrev pub class_if : Bool → List ℕ
class_if true = codes "proved"
class_if false = codes "unknown"

-- of a line without goals, of one whose goals are all proved, of one with an unknown goal
abbrev pub class_of : List Goal → List ℕ
class_of [] = codes "none"
class_of (g ∷ goals) = class_if (all_proved (g ∷ goals))

unfoldable pub count_cells : (goals proved unknown : ℕ) → List Piece
count_cells n p u = (codes "td", decimal n) ∷ (codes "td", decimal p) ∷ (codes "td", decimal u) ∷ []

-- how many goals there are, are proved, are unknown
abbrev pub counts : List Goal → List Piece
counts goals = count_cells (length goals) (proved_in goals) (unknown_in goals)

-- ---- the table of functions

unfoldable pub run_tag : (name : List ℕ) → List Goal → List ℕ
run_tag name goals = codes "tr class=" ++ (class_of goals ++ (codes " id=\"f-" ++ (escaped_text (utf8_lossy name) ++ 34 ∷ [])))

unfoldable pub link_tag : (line : ℕ) → List ℕ
link_tag line = codes "a href=#L" ++ decimal line

abbrev pub row_end : List Piece
row_end = (codes "/tr", newline) ∷ []

unfoldable pub link_pieces : (line : ℕ) → (name : List ℕ) → List Piece
link_pieces line name = (codes "td", []) ∷ (link_tag line, name) ∷ (codes "/a", []) ∷ []

unfoldable pub row_pieces : (name : List ℕ) (line : ℕ) → List Goal → List Piece
row_pieces name line goals = (run_tag name goals, []) ∷ (link_pieces line name ++ (counts goals ++ row_end))

-- a row for the goals of one function, with a link to the line of the first one
abbrev pub run_pieces : List Goal → List Piece
run_pieces [] = []
run_pieces (g ∷ goals) = row_pieces g.function g.line (g ∷ goals)

unfoldable pub table_head : List Piece
table_head =
    (codes "table", newline) ∷ (codes "tr", []) ∷ (codes "th", codes "function") ∷ (codes "th", codes "goals") ∷ (codes "th", codes "proved")
    ∷ (codes "th", codes "unknown") ∷ row_end

unfoldable pub total_pieces : List Goal → List Piece
total_pieces goals = (codes "tr", []) ∷ (codes "th", codes "all") ∷ (counts goals ++ (codes "/table", newline) ∷ [])

unfoldable pub table_pieces : List Goal → List Piece
table_pieces goals = table_head ++ (flat_map run_pieces (runs goals) ++ total_pieces goals)

-- ---- the goals of a line

abbrev pub goal_tag : Verdict → List ℕ
goal_tag v = codes "tr class=" ++ class_if (is_proved v)

unfoldable pub goal_pieces : Goal → List Piece
goal_pieces g =
    (goal_tag g.verdict, []) ∷ (codes "td", g.function) ∷ (codes "td", decimal g.number) ∷ (codes "td", g.check) ∷ (codes "td", verdict_name g.verdict)
    ∷ (codes "td", unwrap_or g.formula []) ∷ row_end

unfoldable pub summary_pieces : (goals unknown : ℕ) → List Piece
summary_pieces n u =
    (codes "details", []) ∷ (codes "summary", codes "goals ") ∷ (codes "b", decimal n) ∷ (codes "/b", codes " unknown ") ∷ (codes "b", decimal u) ∷ (codes "/b", [])
    ∷ (codes "/summary", newline) ∷ (codes "table", newline) ∷ []

unfoldable pub details_end : List Piece
details_end = (codes "/table", newline) ∷ (codes "/details", newline) ∷ []

unfoldable pub details : List Goal → List Piece
details goals = summary_pieces (length goals) (unknown_in goals) ++ (flat_map goal_pieces goals ++ details_end)

-- folded below their line
abbrev pub folded : List Goal → List Piece
folded [] = []
folded (g ∷ goals) = details (g ∷ goals)

-- ---- the source

unfoldable pub line_tag : (line : ℕ) → List Goal → List ℕ
line_tag n goals = codes "div class=" ++ (class_of goals ++ (codes " id=L" ++ decimal n))

unfoldable pub line_cells : (line : ℕ) → List ℕ → List Piece
line_cells n bytes =
    (codes "span", decimal n) ∷ (codes "/span", []) ∷ (codes "code", bytes) ∷ (codes "/code", []) ∷ (codes "/div", newline) ∷ []

unfoldable pub line_pieces : (line : ℕ) → List ℕ → List Goal → List Piece
line_pieces n bytes goals = (line_tag n goals, []) ∷ (line_cells n bytes ++ folded goals)

-- lines from this one on, and the goals of each
abbrev pub lines_pieces : (from : ℕ) → List (List ℕ) → List (List Goal) → List Piece
lines_pieces from [] lists = []
lines_pieces from (l ∷ ls) lists = line_pieces from l (first_list lists) ++ lines_pieces (suc from) ls (other_lists lists)

abbrev pub source_pieces : List (List ℕ) → List Goal → List Piece
source_pieces ls goals = lines_pieces 1 ls (by_line 1 (length ls) goals)

unfoldable pub heading : List Piece
heading = (codes "h2", codes "On no line of the source") ∷ (codes "/h2", newline) ∷ []

abbrev pub elsewhere_pieces : List Goal → List Piece
elsewhere_pieces [] = []
elsewhere_pieces (g ∷ goals) = heading ++ details (g ∷ goals)

-- ---- the whole

unfoldable pub page_head : (title : List ℕ) → List Piece
page_head title =
    (codes "!DOCTYPE html", newline) ∷ (codes "html lang=en", newline) ∷ (codes "head", newline) ∷ (codes "meta charset=utf-8", newline)
    ∷ (codes "title", title) ∷ (codes "/title", newline) ∷ (codes "style", style) ∷ (codes "/style", newline) ∷ (codes "/head", newline)
    ∷ (codes "body", newline) ∷ (codes "h1", title) ∷ (codes "/h1", newline) ∷ []

unfoldable pub page_end : List Piece
page_end = (codes "/body", newline) ∷ (codes "/html", newline) ∷ []

unfoldable pub page_pieces : (title source : List ℕ) → List Goal → List Piece
page_pieces title source goals =
    page_head title ++ (table_pieces goals ++ (source_pieces (lines source) goals ++ (elsewhere_pieces (elsewhere (length (lines source)) goals) ++ page_end)))

unfoldable pub page : (title source : List ℕ) → List Goal → List ℕ
page title source goals = texts (page_pieces title source goals)

-- ---- laws

-- the page is read back: each tag in it is one of these, and each text stands whole behind its tag
abbrev pub PageIsReadBack : Type 0
PageIsReadBack = (title source : List ℕ) (goals : List Goal) → all_of piece_at (page title source goals) ≡ (map as_shown (page_pieces title source goals), [])

-- the texts of the source in a page
abbrev pub is_cell : Piece → Bool
is_cell p = bytes_eq p.0 (codes "code")

abbrev pub source_cells : List Piece → List (List ℕ)
source_cells ps = map (λ (p : Piece). p.1) (filter is_cell ps)

-- the page shows the lines of the source, all of them and no others, in order
abbrev pub SourceIsWhole : Type 0
SourceIsWhole = (title source : List ℕ) (goals : List Goal) → source_cells (all_of piece_at (page title source goals)).0 ≡ map utf8_lossy (lines source)

-- The page read back: its tags, and the cells of the source.
use Rattle.std.proofs.Common.{◌≡◌, ℕ, zero, suc, ◌+◌, ◌/◌, ◌%◌, eqb, nat_lt, Bool, true, false, cond, ◌&&◌, List, [], ◌∷◌, ◌++◌, length, map, codes, refl, ap, ◌∙◌, arith, append-nil}
use Rattle.std.specs.Prelude.{filter}
use Rattle.std.specs.List.{list_all, flat_map}
use Rattle.std.specs.Fmt.{decimal, digits, digits_onto, digit_glyph}
use Rattle.std.specs.Str.Lossy.{utf8_lossy}
use Rattle.std.proofs.lemmas.Bool.Decides.{nat_tests}
use Rattle.qed_terms.specs.declared.verdict.Verdict.{Verdict}
use Rattle.report_read.specs.Report.{Goal, is_proved, unknown_in}
use Rattle.report_shown.specs.Shown.{all_proved, runs}
use Rattle.report_shown.specs.Source.{lines, by_line, elsewhere, first_list, other_lists}
use Rattle.report_page.specs.Markup.{escaped_text, Piece, as_shown}
use Rattle.report_page.specs.Page.{class_if, class_of, count_cells, counts, run_tag, link_tag, row_end, link_pieces, row_pieces, run_pieces, table_head, total_pieces, table_pieces, goal_tag, goal_pieces, summary_pieces, details_end, details, folded, line_tag, line_cells, line_pieces, lines_pieces, source_pieces, heading, elsewhere_pieces, page_head, page_end, page_pieces, page, PageIsReadBack, is_cell, source_cells, SourceIsWhole}
use Rattle.report_page.proofs.Reading.{is_tag_char, is_tag, is_piece, pieces_read, escaped_is_tag, tags_joined, pieces_joined}

-- ---- tags

digit_is_tag : (n : ℕ) → is_tag_char (digit_glyph false (n % 10)) ≡ true
digit_is_tag n = by (nat_lt (n % 10) 10) refl
  where
    by : (t : Bool) → nat_lt (n % 10) 10 ≡ t → is_tag_char (cond t (48 + n % 10) (87 + n % 10)) ≡ true
    by true e = let other : eqb (48 + n % 10) 62 ≡ false = grind (arith, nat_tests) in rw other
    by false e = let other : eqb (87 + n % 10) 62 ≡ false = grind (arith, nat_tests) in rw other

digits_are_tag : (k n : ℕ) (more : List ℕ) → is_tag more ≡ true → is_tag (digits_onto k 10 false n more) ≡ true
digits_are_tag zero n more h = h
digits_are_tag (suc k) n more h = by (eqb (n / 10) 0) (digits_are_tag k (n / 10) (digit_glyph false (n % 10) ∷ more) next)
  where
    next : is_tag (digit_glyph false (n % 10) ∷ more) ≡ true
    next = let one = digit_is_tag n in λ j. one j && h j

    by : (t : Bool) → is_tag (digits_onto k 10 false (n / 10) (digit_glyph false (n % 10) ∷ more)) ≡ true
        → is_tag (cond t (digit_glyph false (n % 10) ∷ more) (digits_onto k 10 false (n / 10) (digit_glyph false (n % 10) ∷ more))) ≡ true
    by true k = next
    by false k = k

number_is_tag : (n : ℕ) → is_tag (decimal n) ≡ true
unfolding digits
number_is_tag n = digits_are_tag 64 n [] refl

if_is_tag : (t : Bool) → is_tag (class_if t) ≡ true
if_is_tag true = refl
if_is_tag false = refl

class_is_tag : (goals : List Goal) → is_tag (class_of goals) ≡ true
class_is_tag [] = refl
class_is_tag (g ∷ goals) = if_is_tag (all_proved (g ∷ goals))

run_is_tag : (name : List ℕ) (goals : List Goal) → is_tag (run_tag name goals) ≡ true
unfolding run_tag
run_is_tag name goals =
    let name_text = escaped_text (utf8_lossy name) in
    let quoted : is_tag (name_text ++ 34 ∷ []) ≡ true = tags_joined name_text (34 ∷ []) (escaped_is_tag (utf8_lossy name)) refl in
    tags_joined (class_of goals) (codes " id=\"f-" ++ (name_text ++ 34 ∷ [])) (class_is_tag goals) quoted

link_is_tag : (line : ℕ) → is_tag (link_tag line) ≡ true
unfolding link_tag
link_is_tag line = number_is_tag line

line_is_tag : (n : ℕ) (goals : List Goal) → is_tag (line_tag n goals) ≡ true
unfolding line_tag
line_is_tag n goals = tags_joined (class_of goals) (codes " id=L" ++ decimal n) (class_is_tag goals) (number_is_tag n)

goal_is_tag : (v : Verdict) → is_tag (goal_tag v) ≡ true
goal_is_tag v = if_is_tag (is_proved v)

-- none of these is the tag of a cell of the source

run_no_cell : (name text : List ℕ) (goals : List Goal) → is_cell (run_tag name goals, text) ≡ false
unfolding run_tag
run_no_cell name text goals = refl

link_no_cell : (line : ℕ) (text : List ℕ) → is_cell (link_tag line, text) ≡ false
unfolding link_tag
link_no_cell line text = refl

line_no_cell : (n : ℕ) (text : List ℕ) (goals : List Goal) → is_cell (line_tag n goals, text) ≡ false
unfolding line_tag
line_no_cell n text goals = refl

goal_no_cell : (v : Verdict) (text : List ℕ) → is_cell (goal_tag v, text) ≡ false
goal_no_cell v text = refl

-- ---- pieces, and the texts of the source in them

-- these pieces are well formed, and have these texts of the source
record Shows (ps : List Piece) (shown : List (List ℕ)) : Type 0 where
  fits : list_all is_piece ps ≡ true
  cells : source_cells ps ≡ shown

cells_joined : (ps qs : List Piece) → source_cells (ps ++ qs) ≡ source_cells ps ++ source_cells qs
cells_joined [] qs = refl
cells_joined (p ∷ ps) qs = by (is_cell p) (cells_joined ps qs)
  where
    by : (t : Bool) → source_cells (ps ++ qs) ≡ source_cells ps ++ source_cells qs
        → map (λ (q : Piece). q.1) (cond t (p ∷ filter is_cell (ps ++ qs)) (filter is_cell (ps ++ qs))) ≡ map (λ (q : Piece). q.1) (cond t (p ∷ filter is_cell ps) (filter is_cell ps)) ++ source_cells qs
    by true more = ap (λ r. p.1 ∷ r) more
    by false more = more

joins : (ps qs : List Piece) (a b : List (List ℕ)) → Shows ps a → Shows qs b → Shows (ps ++ qs) (a ++ b)
joins ps qs a b s t = record {
  fits = pieces_joined ps qs s.fits t.fits;
  cells = cells_joined ps qs ∙ (λ j. s.cells j ++ t.cells j);
}

-- a piece that is no cell before others
before : (p : Piece) (ps : List Piece) (a : List (List ℕ)) → is_piece p ≡ true → is_cell p ≡ false → Shows ps a → Shows (p ∷ ps) a
before p ps a f c s = record {
  fits = (λ j. f j && s.fits j);
  cells = ap (λ t. map (λ (q : Piece). q.1) (cond t (p ∷ filter is_cell ps) (filter is_cell ps))) c ∙ s.cells;
}

each_shows : {X : Type 0} (part : X → List Piece) → ((x : X) → Shows (part x) []) → (xs : List X) → Shows (flat_map part xs) []
each_shows part one [] = record { fits = refl; cells = refl }
each_shows part one (x ∷ xs) = joins (part x) (flat_map part xs) [] [] (one x) (each_shows part one xs)

-- ---- the table

counts_show : (goals : List Goal) → Shows (counts goals) []
unfolding count_cells
counts_show goals = record { fits = refl; cells = refl }

link_shows : (line : ℕ) (name : List ℕ) → Shows (link_pieces line name) []
unfolding link_pieces
link_shows line name =
    before (codes "td", []) ((link_tag line, name) ∷ (codes "/a", []) ∷ []) [] refl refl (before (link_tag line, name) ((codes "/a", []) ∷ []) [] (link_is_tag line) (link_no_cell line name) (record { fits = refl; cells = refl }))

row_shows : (name : List ℕ) (line : ℕ) (goals : List Goal) → Shows (row_pieces name line goals) []
unfolding row_pieces
row_shows name line goals =
    before (run_tag name goals, []) (link_pieces line name ++ (counts goals ++ row_end)) [] (run_is_tag name goals) (run_no_cell name [] goals)
    (joins (link_pieces line name) (counts goals ++ row_end) [] [] (link_shows line name) (joins (counts goals) row_end [] [] (counts_show goals) (record { fits = refl; cells = refl })))

run_shows : (run : List Goal) → Shows (run_pieces run) []
run_shows [] = record { fits = refl; cells = refl }
run_shows (g ∷ goals) = row_shows g.function g.line (g ∷ goals)

table_head_shows : Shows table_head []
unfolding table_head
table_head_shows = record { fits = refl; cells = refl }

total_shows : (goals : List Goal) → Shows (total_pieces goals) []
unfolding total_pieces
total_shows goals =
    joins ((codes "tr", []) ∷ (codes "th", codes "all") ∷ []) (counts goals ++ _) [] [] (record { fits = refl; cells = refl })
    (joins (counts goals) _ [] [] (counts_show goals) (record { fits = refl; cells = refl }))

table_shows : (goals : List Goal) → Shows (table_pieces goals) []
unfolding table_pieces
table_shows goals =
    joins table_head (flat_map run_pieces (runs goals) ++ total_pieces goals) [] [] table_head_shows
    (joins (flat_map run_pieces (runs goals)) (total_pieces goals) [] [] (each_shows run_pieces run_shows (runs goals)) (total_shows goals))

-- ---- goals

goal_shows : (g : Goal) → Shows (goal_pieces g) []
unfolding goal_pieces
goal_shows g = before (goal_tag g.verdict, []) _ [] (goal_is_tag g.verdict) (goal_no_cell g.verdict []) (record { fits = refl; cells = refl })

summary_shows : (n u : ℕ) → Shows (summary_pieces n u) []
unfolding summary_pieces
summary_shows n u = record { fits = refl; cells = refl }

details_end_shows : Shows details_end []
unfolding details_end
details_end_shows = record { fits = refl; cells = refl }

details_show : (goals : List Goal) → Shows (details goals) []
unfolding details
details_show goals =
    joins (summary_pieces (length goals) (unknown_in goals)) (flat_map goal_pieces goals ++ details_end) [] [] (summary_shows (length goals) (unknown_in goals))
    (joins (flat_map goal_pieces goals) details_end [] [] (each_shows goal_pieces goal_shows goals) details_end_shows)

folded_shows : (goals : List Goal) → Shows (folded goals) []
folded_shows [] = record { fits = refl; cells = refl }
folded_shows (g ∷ goals) = details_show (g ∷ goals)

-- ---- the source

cells_show : (n : ℕ) (bytes : List ℕ) → Shows (line_cells n bytes) (bytes ∷ [])
unfolding line_cells
cells_show n bytes = record { fits = refl; cells = refl }

line_shows : (n : ℕ) (bytes : List ℕ) (goals : List Goal) → Shows (line_pieces n bytes goals) (bytes ∷ [])
unfolding line_pieces
line_shows n bytes goals =
    before (line_tag n goals, []) (line_cells n bytes ++ folded goals) (bytes ∷ []) (line_is_tag n goals) (line_no_cell n [] goals)
    (joins (line_cells n bytes) (folded goals) (bytes ∷ []) [] (cells_show n bytes) (folded_shows goals))

lines_show : (n : ℕ) (ls : List (List ℕ)) (lists : List (List Goal)) → Shows (lines_pieces n ls lists) ls
lines_show n [] lists = record { fits = refl; cells = refl }
lines_show n (l ∷ ls) lists =
    joins (line_pieces n l (first_list lists)) (lines_pieces (suc n) ls (other_lists lists)) (l ∷ []) ls (line_shows n l (first_list lists)) (lines_show (suc n) ls (other_lists lists))

heading_shows : Shows heading []
unfolding heading
heading_shows = record { fits = refl; cells = refl }

elsewhere_shows : (goals : List Goal) → Shows (elsewhere_pieces goals) []
elsewhere_shows [] = record { fits = refl; cells = refl }
elsewhere_shows (g ∷ goals) = joins heading (details (g ∷ goals)) [] [] heading_shows (details_show (g ∷ goals))

-- ---- the whole

head_shows : (title : List ℕ) → Shows (page_head title) []
unfolding page_head
head_shows title = record { fits = refl; cells = refl }

end_shows : Shows page_end []
unfolding page_end
end_shows = record { fits = refl; cells = refl }

page_shows : (title source : List ℕ) (goals : List Goal) → Shows (page_pieces title source goals) (lines source ++ [])
unfolding page_pieces
page_shows title source goals =
    let others = elsewhere (length (lines source)) goals in
    joins (page_head title) _ [] (lines source ++ []) (head_shows title)
    (joins (table_pieces goals) _ [] (lines source ++ []) (table_shows goals)
    (joins (source_pieces (lines source) goals) _ (lines source) [] (lines_show 1 (lines source) (by_line 1 (length (lines source)) goals))
    (joins (elsewhere_pieces others) page_end [] [] (elsewhere_shows others) end_shows)))

pub read_back : PageIsReadBack
unfolding page
read_back title source goals = pieces_read (page_pieces title source goals) (page_shows title source goals).fits

cells_shown : (ps : List Piece) → source_cells (map as_shown ps) ≡ map utf8_lossy (source_cells ps)
cells_shown [] = refl
cells_shown (p ∷ ps) = by (is_cell p) (cells_shown ps)
  where
    by : (t : Bool) → source_cells (map as_shown ps) ≡ map utf8_lossy (source_cells ps)
        → map (λ (q : Piece). q.1) (cond t (as_shown p ∷ filter is_cell (map as_shown ps)) (filter is_cell (map as_shown ps))) ≡ map utf8_lossy (map (λ (q : Piece). q.1) (cond t (p ∷ filter is_cell ps) (filter is_cell ps)))
    by true more = ap (λ r. utf8_lossy p.1 ∷ r) more
    by false more = more

pub source_whole : SourceIsWhole
source_whole title source goals =
    ap (λ (r : List Piece × List ℕ). source_cells r.0) (read_back title source goals) ∙ cells_shown (page_pieces title source goals)
    ∙ ap (map utf8_lossy) ((page_shows title source goals).cells ∙ append-nil (lines source))

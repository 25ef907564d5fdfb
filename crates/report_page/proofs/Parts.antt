-- The parts of the page, put together.
use Rattle.std.proofs.Common.{◌≡◌, ℕ, Option, Some, None, List, [], ◌∷◌, ◌++◌, length, map, codes, refl, sym, ap, ◌∙◌}
use Rattle.std.specs.Prelude.{unwrap_or, option_map, slice_get}
use Rattle.std.specs.Borrow.{Bor}
use Rattle.std.specs.Fmt.{decimal}
use Rattle.std.specs.List.{flat_map}
use Rattle.report_read.specs.Report.{Goal, verdict_name}
use Rattle.report_read.specs.View.{bytes_of, view_goal}
use Rattle.report_read.specs.declared.report.Goal as memory
use Rattle.report_shown.specs.Shown.{runs}
use Rattle.report_shown.specs.Source.{lines, by_line, elsewhere}
use Rattle.report_shown.proofs.Lists.{seen_length}
use Rattle.report_page.specs.Markup.{Piece, texts}
use Rattle.report_page.specs.Style.{style}
use Rattle.report_page.proofs.Pieces.{nothing_put}
use Rattle.report_page.specs.Page.{newline, goal_tag, goal_pieces, lines_pieces, source_pieces, elsewhere_pieces, page_head, page_end, page_pieces, counts, run_tag, link_tag, row_end, link_pieces, row_pieces, run_pieces, table_head, total_pieces, table_pieces, folded, line_tag, line_cells, line_pieces}

abbrev bare : List ℕ → Piece
bare tag = (tag, [])

pub link_is : (tag name : List ℕ) (line : ℕ) → tag ≡ link_tag line → (bare (codes "td") ∷ []) ++ (((tag, name) ∷ []) ++ (bare (codes "/a") ∷ [])) ≡ link_pieces line name
unfolding link_pieces
link_is tag name line e = let with : List ℕ → List Piece = λ t. bare (codes "td") ∷ (t, name) ∷ bare (codes "/a") ∷ [] in ap with e

pub row_is : (tag name : List ℕ) (line : ℕ) (goals : List Goal) → tag ≡ run_tag name goals → (bare tag ∷ []) ++ (link_pieces line name ++ (counts goals ++ row_end)) ≡ row_pieces name line goals
unfolding row_pieces
row_is tag name line goals e = ap (λ t. bare t ∷ (link_pieces line name ++ (counts goals ++ row_end))) e

pub table_is : (rs : List (List Goal)) (goals : List Goal) → rs ≡ runs goals → table_head ++ (flat_map run_pieces rs ++ total_pieces goals) ≡ table_pieces goals
unfolding table_pieces
table_is rs goals e = ap (λ r. table_head ++ (flat_map run_pieces r ++ total_pieces goals)) e

pub line_is : (tag bytes : List ℕ) (n : ℕ) (goals : List Goal) → tag ≡ line_tag n goals → (bare tag ∷ []) ++ (line_cells n bytes ++ folded goals) ≡ line_pieces n bytes goals
unfolding line_pieces
line_is tag bytes n goals e = ap (λ t. bare t ∷ (line_cells n bytes ++ folded goals)) e

text_or_none : (o : Option (Bor (List ℕ))) (d : Bor (List ℕ)) → d.now ≡ [] → bytes_of (unwrap_or o d) ≡ unwrap_or (option_map bytes_of o) []
text_or_none None d e = e
text_or_none (Some x) d e = refl

pub goal_is : (g : memory.Goal) (n : ℕ) (tag verdict : List ℕ) (formula none : Bor (List ℕ)) → n ≡ g.number → tag ≡ goal_tag g.verdict → verdict ≡ verdict_name g.verdict → formula ≡ unwrap_or g.formula none → none.now ≡ []
    → bare tag ∷ (codes "td", g.function.now) ∷ (codes "td", decimal n) ∷ (codes "td", g.check.now) ∷ (codes "td", verdict) ∷ (codes "td", formula.now) ∷ (codes "/tr", newline) ∷ []
    ≡ goal_pieces (view_goal g)
unfolding goal_pieces
goal_is g n tag verdict formula none e t v f k =
    let shown : formula.now ≡ unwrap_or (option_map bytes_of g.formula) [] = ap bytes_of f ∙ text_or_none g.formula none k in
    λ j. bare (t j) ∷ (codes "td", g.function.now) ∷ (codes "td", decimal (e j)) ∷ (codes "td", g.check.now) ∷ (codes "td", v j) ∷ (codes "td", shown j) ∷ (codes "/tr", newline) ∷ []

pub no_run : (goals : List memory.Goal) (text : List ℕ) → slice_get goals 0 ≡ None → text ≡ text ++ texts (run_pieces (map view_goal goals))
no_run [] text e = nothing_put text
no_run (g ∷ goals) text e = absurd cc

pub head_is : (title sheet : List ℕ) → sheet ≡ style
    → (codes "!DOCTYPE html", newline) ∷ (codes "html lang=en", newline) ∷ (codes "head", newline) ∷ (codes "meta charset=utf-8", newline) ∷ (codes "title", title) ∷ (codes "/title", newline)
    ∷ (codes "style", sheet) ∷ (codes "/style", newline) ∷ (codes "/head", newline) ∷ (codes "body", newline) ∷ (codes "h1", title) ∷ (codes "/h1", newline) ∷ []
    ≡ page_head title
unfolding page_head
head_is title sheet e =
    λ j. (codes "!DOCTYPE html", newline) ∷ (codes "html lang=en", newline) ∷ (codes "head", newline) ∷ (codes "meta charset=utf-8", newline) ∷ (codes "title", title) ∷ (codes "/title", newline)
    ∷ (codes "style", e j) ∷ (codes "/style", newline) ∷ (codes "/head", newline) ∷ (codes "body", newline) ∷ (codes "h1", title) ∷ (codes "/h1", newline) ∷ []

pub source_is : (ls : List (Bor (List ℕ))) (lists : List (List Goal)) (goals : List Goal) → lists ≡ by_line 1 (length ls) goals → lines_pieces 1 (map bytes_of ls) lists ≡ source_pieces (map bytes_of ls) goals
source_is ls lists goals e = ap (lines_pieces 1 (map bytes_of ls)) (e ∙ ap (λ n. by_line 1 n goals) (sym (seen_length ls)))

pub page_is : (title source : List ℕ) (goals others : List Goal) (found : List (Bor (List ℕ))) (shown : List (List ℕ)) → map bytes_of found ≡ lines source → shown ≡ map bytes_of found → others ≡ elsewhere (length found) goals
    → page_head title ++ (table_pieces goals ++ (source_pieces shown goals ++ (elsewhere_pieces others ++ page_end))) ≡ page_pieces title source goals
unfolding page_pieces
page_is title source goals others found shown l s o =
    let count : length found ≡ length (lines source) = sym (seen_length found) ∙ ap length l in
    let all = s ∙ l in
    let those = o ∙ ap (λ n. elsewhere n goals) count in
    λ j. page_head title ++ (table_pieces goals ++ (source_pieces (all j) goals ++ (elsewhere_pieces (those j) ++ page_end)))

-- Lines put one after another, each with its goals.
use Rattle.std.proofs.Common.{◌≡◌, ℕ, suc, ◌+◌, ◌<◌, ◌≤◌, List, ◌++◌, length, map, drop, get_or, sym, ap, ◌∙◌, arith, append_assoc}
use Rattle.std.specs.Prelude.{Vec}
use Rattle.std.specs.declared.alloc.Global.{Global}
use Rattle.std.specs.Borrow.{Bor}
use Rattle.std.proofs.lemmas.List.{drop_all, drop_more}
use Rattle.report_read.specs.View.{bytes_of}
use Rattle.report_read.specs.declared.report.Goal.{Goal}
use Rattle.report_shown.specs.Source.{first_list}
use Rattle.report_shown.specs.View.{view_list}
use Rattle.report_shown.proofs.Lists.{others_dropped}
use Rattle.report_page.specs.Markup.{Piece, texts}
use Rattle.report_page.specs.Page.{line_pieces, lines_pieces}
use Rattle.report_page.proofs.Pieces.{texts_append, nothing_put}

-- the pieces of the lines from this place on
abbrev behind : List (Bor (List ℕ)) → List (Vec Goal Global) → ℕ → List Piece
behind lines lists i = lines_pieces (i + 1) (map bytes_of (drop i lines)) (map view_list (drop i lists))

behind_more : (lines : List (Bor (List ℕ))) (lists : List (Vec Goal Global)) (i : ℕ) (line : Bor (List ℕ)) → i < length lines
    → behind lines lists i ≡ line_pieces (i + 1) (get_or lines i line).now (first_list (map view_list (drop i lists))) ++ behind lines lists (i + 1)
behind_more lines lists i line l =
    let bytes = (get_or lines i line).now in
    let next : suc (i + 1) ≡ (i + 1) + 1 = omega arith in
    ap (λ ls. lines_pieces (i + 1) (map bytes_of ls) (map view_list (drop i lists))) (drop_more lines i line l)
    ∙ (λ j. line_pieces (i + 1) bytes (first_list (map view_list (drop i lists))) ++ lines_pieces (next j) (map bytes_of (drop (i + 1) lines)) (others_dropped view_list i lists j))

pub line_more : (lines : List (Bor (List ℕ))) (lists : List (Vec Goal Global)) (i : ℕ) (line : Bor (List ℕ)) (before after all : List ℕ) → i < length lines
    → after ≡ before ++ texts (line_pieces (i + 1) (get_or lines i line).now (first_list (map view_list (drop i lists))))
    → before ++ texts (behind lines lists i) ≡ all → after ++ texts (behind lines lists (i + 1)) ≡ all
line_more lines lists i line before after all l e h =
    let first = line_pieces (i + 1) (get_or lines i line).now (first_list (map view_list (drop i lists))) in
    let others = behind lines lists (i + 1) in
    ap (λ t. t ++ texts others) e ∙ append_assoc before (texts first) (texts others)
    ∙ ap (λ t. before ++ t) (sym (texts_append first others) ∙ ap texts (sym (behind_more lines lists i line l))) ∙ h

pub line_end : (lines : List (Bor (List ℕ))) (lists : List (Vec Goal Global)) (i : ℕ) (before all : List ℕ) → length lines ≤ i → before ++ texts (behind lines lists i) ≡ all → before ≡ all
line_end lines lists i before all l h =
    nothing_put before ∙ ap (λ ls. before ++ texts (lines_pieces (i + 1) (map bytes_of ls) (map view_list (drop i lists)))) (sym (drop_all i lines l)) ∙ h

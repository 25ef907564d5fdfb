-- The whole view, part by part.
use Rattle.std.proofs.Common.{◌≡◌, ℕ, List, [], ◌++◌, length, map, sym, ap, ◌∙◌, append_assoc}
use Rattle.std.specs.Prelude.{Bool}
use Rattle.std.specs.Borrow.{Bor}
use Rattle.report_read.specs.Bytes.{joined}
use Rattle.report_read.specs.Report.{Goal, Report}
use Rattle.report_read.specs.View.{bytes_of}
use Rattle.report_shown.specs.Source.{lines, by_line, elsewhere}
use Rattle.report_shown.proofs.Lists.{seen_length}
use Rattle.view_text.specs.Text.{source_text, missing_text, notes, table, text_view}

pub from_none : (before after view : List ℕ) → before ≡ [] → after ≡ before ++ view → after ≡ view
from_none before after view b a = a ∙ ap (λ t. t ++ view) b

pub view_put : (color : Bool) (source : List ℕ) (r : Report) (shown : List Goal) (ls : List (Bor (List ℕ))) (placed : List (List Goal)) (others : List Goal) (text one two three four : List ℕ)
    → map bytes_of ls ≡ lines source → placed ≡ by_line 1 (length ls) shown → others ≡ elsewhere (length ls) shown
    → one ≡ text ++ source_text color 1 (map bytes_of ls) placed → two ≡ one ++ joined (map (missing_text color) others) → three ≡ two ++ notes r.hypotheses r.ignored → four ≡ three ++ table shown
    → four ≡ text ++ text_view color source r shown
unfolding text_view
view_put color source r shown ls placed others text one two three four l p o a b c d =
    let count : length ls ≡ length (lines source) = sym (seen_length ls) ∙ ap length l in
    let front = source_text color 1 (lines source) (by_line 1 (length (lines source)) shown) in
    let missing = joined (map (missing_text color) (elsewhere (length (lines source)) shown)) in
    let first : one ≡ text ++ front =
    a ∙ (λ j. text ++ source_text color 1 (l j) (p j)) ∙ ap (λ k. text ++ source_text color 1 (lines source) (by_line 1 k shown)) count in
    let second : two ≡ one ++ missing = b ∙ ap (λ gs. one ++ joined (map (missing_text color) gs)) (o ∙ ap (λ k. elsewhere k shown) count) in
    d ∙ ap (λ t. t ++ table shown) (c ∙ ap (λ t. t ++ notes r.hypotheses r.ignored) second)
    ∙ append_assoc (one ++ missing) (notes r.hypotheses r.ignored) (table shown) ∙ append_assoc one missing (notes r.hypotheses r.ignored ++ table shown)
    ∙ ap (λ t. t ++ (missing ++ (notes r.hypotheses r.ignored ++ table shown))) first
    ∙ append_assoc text front (missing ++ (notes r.hypotheses r.ignored ++ table shown))

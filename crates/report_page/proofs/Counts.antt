-- How many goals there are, and what is put of none.
use Rattle.std.proofs.Common.{◌≡◌, ℕ, ◌-◌, List, [], ◌∷◌, ◌++◌, length, map, refl, sym, arith}
use Rattle.std.specs.List.{flat_map}
use Rattle.report_read.specs.Report.{proved_in, unknown_in}
use Rattle.report_read.specs.View.{view_goal}
use Rattle.report_read.specs.declared.report.Goal.{Goal}
use Rattle.report_read.proofs.Summary.{counted}
use Rattle.report_page.specs.Markup.{texts}
use Rattle.report_page.specs.Page.{count_cells, counts, goal_pieces, summary_pieces, details_end, details, folded, heading, elsewhere_pieces}
use Rattle.report_page.proofs.Pieces.{nothing_put}

pub seen_length : (goals : List Goal) → length (map view_goal goals) ≡ length goals
seen_length [] = refl
seen_length (g ∷ goals) = let more = seen_length goals in omega (arith, more)

pub unknown_left : (goals : List Goal) (p : ℕ) → p ≡ proved_in (map view_goal goals) → length goals - p ≡ unknown_in (map view_goal goals)
unknown_left goals p e = let n = seen_length goals in omega (arith, n, e, counted (map view_goal goals))

pub counts_are : (goals : List Goal) (p u : ℕ) → p ≡ proved_in (map view_goal goals) → u ≡ unknown_in (map view_goal goals) → count_cells (length goals) p u ≡ counts (map view_goal goals)
counts_are goals p u e f = λ j. count_cells (sym (seen_length goals) j) (e j) (f j)

pub details_are : (goals : List Goal) (u : ℕ) → u ≡ unknown_in (map view_goal goals)
    → summary_pieces (length goals) u ++ (flat_map goal_pieces (map view_goal goals) ++ details_end) ≡ details (map view_goal goals)
unfolding details
details_are goals u e = λ j. summary_pieces (sym (seen_length goals) j) (e j) ++ (flat_map goal_pieces (map view_goal goals) ++ details_end)

-- ---- none, and some

pub none_folded : (goals : List Goal) (text : List ℕ) → length goals ≡ 0 → text ≡ text ++ texts (folded (map view_goal goals))
none_folded [] text e = nothing_put text
none_folded (g ∷ goals) text e = absurd (omega (arith, e))

pub some_folded : (goals : List Goal) → (length goals ≡ 0 → ⊥) → details (map view_goal goals) ≡ folded (map view_goal goals)
some_folded [] n = absurd (n refl)
some_folded (g ∷ goals) n = refl

pub none_elsewhere : (goals : List Goal) (text : List ℕ) → length goals ≡ 0 → text ≡ text ++ texts (elsewhere_pieces (map view_goal goals))
none_elsewhere [] text e = nothing_put text
none_elsewhere (g ∷ goals) text e = absurd (omega (arith, e))

pub some_elsewhere : (goals : List Goal) → (length goals ≡ 0 → ⊥) → heading ++ details (map view_goal goals) ≡ elsewhere_pieces (map view_goal goals)
some_elsewhere [] n = absurd (n refl)
some_elsewhere (g ∷ goals) n = refl

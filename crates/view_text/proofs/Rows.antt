-- The table.
use Rattle.std.proofs.Common.{◌≡◌, ℕ, ◌-◌, List, [], ◌∷◌, ◌++◌, length, map, codes, refl, sym, ◌∙◌, arith, append_assoc}
use Rattle.report_read.specs.Bytes.{joined}
use Rattle.report_read.specs.Report as report
use Rattle.report_read.specs.Report.{proved_in, unknown_in}
use Rattle.report_read.specs.View.{view_goal}
use Rattle.report_read.specs.declared.report.Goal.{Goal}
use Rattle.report_read.proofs.Summary.{counted}
use Rattle.report_shown.specs.Shown.{runs}
use Rattle.report_shown.specs.View.{view_goals}
use Rattle.view_text.specs.Text.{row, row_of, heading, run_row, table}

seen_length : (goals : List Goal) → length (map view_goal goals) ≡ length goals
seen_length [] = refl
seen_length (g ∷ goals) = let more = seen_length goals in omega (arith, more)

pub row_put : (name : List ℕ) (goals : List Goal) (p : ℕ) (before after : List ℕ) → p ≡ proved_in (view_goals goals) → after ≡ before ++ row (length goals) p (length goals - p) name
    → after ≡ before ++ row_of name (view_goals goals)
row_put name goals p before after e a =
    let n : length goals ≡ length (view_goals goals) = sym (seen_length goals) in
    let u : length goals - p ≡ unknown_in (view_goals goals) = omega (arith, n, e, counted (view_goals goals)) in
    a ∙ (λ j. before ++ row (n j) (e j) (u j) name)

pub table_put : (goals : List report.Goal) (text : List ℕ) (rows : List (List report.Goal)) → rows ≡ runs goals → ((text ++ heading) ++ joined (map run_row rows)) ++ row_of (codes "total") goals ≡ text ++ table goals
unfolding table
table_put goals text rows e =
    (λ j. ((text ++ heading) ++ joined (map run_row (e j))) ++ row_of (codes "total") goals)
    ∙ append_assoc (text ++ heading) (joined (map run_row (runs goals))) (row_of (codes "total") goals)
    ∙ append_assoc text heading (joined (map run_row (runs goals)) ++ row_of (codes "total") goals)

-- The lines of goals, and the line of totals.
use Rattle.std.proofs.Common.{◌≡◌, ℕ, ◌-◌, List, [], ◌∷◌, ◌++◌, length, map, refl, sym, ap, ◌∙◌, arith}
use Rattle.report_read.specs.Bytes.{joined}
use Rattle.report_read.specs.Report.{proved_in, unknown_in}
use Rattle.report_read.specs.View.{view_goal}
use Rattle.report_read.specs.declared.report.Goal.{Goal}
use Rattle.report_read.proofs.Summary.{counted}
use Rattle.report_data.specs.Json.{goal_object, object_line, total_members, json_text}

seen_length : (goals : List Goal) → length (map view_goal goals) ≡ length goals
seen_length [] = refl
seen_length (g ∷ goals) = let more = seen_length goals in omega (arith, more)

pub totals_put : (goals : List Goal) (p : ℕ) (before lines whole : List ℕ) → p ≡ proved_in (map view_goal goals) → before ≡ [] → lines ≡ before ++ joined (map goal_object (map view_goal goals))
    → whole ≡ lines ++ object_line (total_members (length goals) p (length goals - p)) → whole ≡ json_text (map view_goal goals)
unfolding json_text
totals_put goals p before lines whole e b l w =
    let n : length goals ≡ length (map view_goal goals) = sym (seen_length goals) in
    let u : length goals - p ≡ unknown_in (map view_goal goals) = omega (arith, n, e, counted (map view_goal goals)) in
    w ∙ (λ j. (l ∙ ap (λ t. t ++ joined (map goal_object (map view_goal goals))) b) j ++ object_line (total_members (n j) (e j) (u j)))

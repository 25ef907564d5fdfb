-- The last line of a report.
use Rattle.std.proofs.Common.{◌≡◌, ℕ, Bool, true, false, not, cond, ◌+◌, ◌-◌, List, [], ◌∷◌, ◌++◌, length, map, codes, refl, sym, ◌∙◌, ap, arith, append_assoc}
use Rattle.std.specs.Fmt.{decimal}
use Rattle.std.proofs.lemmas.List.Sums.{sum_by-cons}
use Rattle.report_read.specs.Report.{Goal, is_proved, proved_in, unknown_in, sums_line, summary_line}
use Rattle.report_read.specs.View.{view_goal}
use Rattle.report_read.specs.declared.report.Goal as memory

-- each goal is proved or unknown
pub counted : (goals : List Goal) → proved_in goals + unknown_in goals ≡ length goals
counted [] = refl
counted (g ∷ goals) =
    let p : proved_in (g ∷ goals) ≡ cond (is_proved g.verdict) 1 0 + proved_in goals = sum_by-cons (λ (g : Goal). cond (is_proved g.verdict) 1 0) g goals in
    let u : unknown_in (g ∷ goals) ≡ cond (not (is_proved g.verdict)) 1 0 + unknown_in goals = sum_by-cons (λ (g : Goal). cond (not (is_proved g.verdict)) 1 0) g goals in
    omega (arith, p, u, one_of (is_proved g.verdict), counted goals)
  where
    one_of : (b : Bool) → cond b 1 0 + cond (not b) 1 0 ≡ 1
    one_of true = refl
    one_of false = refl

pub sums_put : (text : List ℕ) (n p u : ℕ) → ((((((text ++ codes "goals ") ++ decimal n) ++ codes " proved ") ++ decimal p) ++ codes " unknown ") ++ decimal u) ++ codes "\n" ≡ text ++ sums_line n p u
unfolding sums_line
sums_put text n p u = simp append_assoc

seen_length : (goals : List memory.Goal) → length (map view_goal goals) ≡ length goals
seen_length [] = refl
seen_length (g ∷ goals) = let more = seen_length goals in omega (arith, more)

pub summary_put : (goals : List memory.Goal) (p : ℕ) (before text : List ℕ) → p ≡ proved_in (map view_goal goals) → before ≡ [] → text ≡ before ++ sums_line (length goals) p (length goals - p) → text ≡ summary_line (map view_goal goals)
summary_put goals p before text e b t =
    let n : length goals ≡ length (map view_goal goals) = sym (seen_length goals) in
    let u : length goals - p ≡ unknown_in (map view_goal goals) = omega (arith, n, e, counted (map view_goal goals)) in
    t ∙ (λ j. b j ++ sums_line (n j) (e j) (u j))

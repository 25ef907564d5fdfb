-- Goals, cut where the function changes.
use Rattle.std.proofs.Common.{◌≡◌, ℕ, zero, suc, ◌+◌, ◌<◌, ◌≤◌, Bool, true, false, cond, List, [], ◌∷◌, ◌++◌, length, map, take, drop, get_or, refl, sym, ap, ◌∙◌, subst, arith, append_assoc, append-nil, length-drop, ◌-◌}
use Rattle.std.specs.List.{prefix_len}
use Rattle.std.specs.Str.{bytes_eq}
use Rattle.std.specs.Borrow.{Bor}
use Rattle.std.proofs.lemmas.List.{map_push, drop_all, drop_more, drop-drop}
use Rattle.std.proofs.lemmas.Slice.Eq.{bytes_eq-Decides}
use Rattle.report_read.specs.Report as report
use Rattle.report_read.specs.View.{view_goal}
use Rattle.report_read.specs.declared.report.Goal.{Goal}
use Rattle.report_shown.specs.Shown.{onto_run, runs, run_len}
use Rattle.report_shown.specs.View.{view_goals, view_run}

abbrev same : List ℕ → report.Goal → Bool
same name g = bytes_eq g.function name

-- the goals at the front that are of this function
abbrev front_len : List ℕ → List report.Goal → ℕ
front_len name goals = prefix_len (same name) goals

-- a run and the others
abbrev cut : report.Goal → List report.Goal → List (List report.Goal)
cut g goals = (g ∷ take (front_len g.function goals) goals) ∷ runs (drop (front_len g.function goals) goals)

one_first : (n : ℕ) (h : report.Goal) (goals : List report.Goal) → take (1 + n) (h ∷ goals) ≡ h ∷ take n goals
one_first n h goals = let e : 1 + n ≡ suc n = omega arith in ap (λ m. take m (h ∷ goals)) e

one_dropped : (n : ℕ) (h : report.Goal) (goals : List report.Goal) → drop (1 + n) (h ∷ goals) ≡ drop n goals
one_dropped n h goals = let e : 1 + n ≡ suc n = omega arith in ap (λ m. drop m (h ∷ goals)) e

runs_cut : (g : report.Goal) (goals : List report.Goal) → runs (g ∷ goals) ≡ cut g goals
runs_cut g [] = refl
runs_cut g (h ∷ goals) = ap (onto_run g) (runs_cut h goals) ∙ by (bytes_eq h.function g.function) refl (runs_cut h goals)
  where
    by : (t : Bool) → bytes_eq h.function g.function ≡ t → runs (h ∷ goals) ≡ cut h goals
        → cond t ((g ∷ h ∷ take (front_len h.function goals) goals) ∷ runs (drop (front_len h.function goals) goals)) ((g ∷ []) ∷ (h ∷ take (front_len h.function goals) goals) ∷ runs (drop (front_len h.function goals) goals))
        ≡ (g ∷ take (cond t (1 + front_len g.function goals) 0) (h ∷ goals)) ∷ runs (drop (cond t (1 + front_len g.function goals) 0) (h ∷ goals))
    by true e more =
        let name : h.function ≡ g.function = (bytes_eq-Decides h.function g.function).0 e in
        let alike : front_len h.function goals ≡ front_len g.function goals = ap (λ n. front_len n goals) name in
        (λ j. (g ∷ h ∷ take (alike j) goals) ∷ runs (drop (alike j) goals))
        ∙ (λ j. (g ∷ sym (one_first (front_len g.function goals) h goals) j) ∷ runs (sym (one_dropped (front_len g.function goals) h goals) j))
    by false e more = ap (λ rs. (g ∷ []) ∷ rs) (sym more)

seen_first : (n : ℕ) (goals : List Goal) → view_goals (take n goals) ≡ take n (view_goals goals)
seen_first zero goals = refl
seen_first (suc n) [] = refl
seen_first (suc n) (g ∷ goals) = ap (λ r. view_goal g ∷ r) (seen_first n goals)

seen_dropped : (n : ℕ) (goals : List Goal) → view_goals (drop n goals) ≡ drop n (view_goals goals)
seen_dropped zero goals = refl
seen_dropped (suc n) [] = refl
seen_dropped (suc n) (g ∷ goals) = seen_dropped n goals

cut_first : (goals : List report.Goal) → (length goals ≡ 0 → ⊥) → runs goals ≡ take (run_len goals) goals ∷ runs (drop (run_len goals) goals)
cut_first [] n = absurd (n refl)
cut_first (g ∷ goals) n =
    let e : suc (front_len g.function goals) ≡ front_len g.function goals + 1 = omega arith in
    runs_cut g goals ∙ (λ j. take (e j) (g ∷ goals) ∷ runs (drop (e j) (g ∷ goals)))

seen_length : (goals : List Goal) → length (view_goals goals) ≡ length goals
seen_length [] = refl
seen_length (g ∷ goals) = let more = seen_length goals in omega (arith, more)

pub run_more : (goals : List Goal) (at len : ℕ) (run : Bor (List Goal)) (done done' : List (Bor (List Goal))) (whole : List (List report.Goal)) → at < length goals → done' ≡ done ++ run ∷ []
    → len ≡ run_len (view_goals (drop at goals)) → run.now ≡ take len (drop at goals)
    → map view_run done ++ runs (view_goals (drop at goals)) ≡ whole → map view_run done' ++ runs (view_goals (drop (at + len) goals)) ≡ whole
run_more goals at len run done done' whole l d c r h =
    let rest = drop at goals in
    let left : length rest ≡ length goals - at = length-drop at goals in
    let some : length (view_goals rest) ≡ 0 → ⊥ = λ e. let same = seen_length rest in absurd (omega (arith, same, left, l, e)) in
    let seen : view_run run ≡ take len (view_goals rest) = ap view_goals r ∙ seen_first len rest in
    let next : drop (at + len) goals ≡ drop len rest = sym (drop-drop len at goals) in
    let behind : view_goals (drop (at + len) goals) ≡ drop len (view_goals rest) = ap view_goals next ∙ seen_dropped len rest in
    let step : runs (view_goals rest) ≡ view_run run ∷ runs (view_goals (drop (at + len) goals)) =
    cut_first (view_goals rest) some ∙ (λ j. take (sym c j) (view_goals rest) ∷ runs (drop (sym c j) (view_goals rest))) ∙ (λ j. sym seen j ∷ runs (sym behind j)) in
    ap (λ f. f ++ runs (view_goals (drop (at + len) goals))) (ap (map view_run) d ∙ map_push view_run done run)
    ∙ append_assoc (map view_run done) (view_run run ∷ []) (runs (view_goals (drop (at + len) goals))) ∙ ap (λ r. map view_run done ++ r) (sym step) ∙ h

pub run_end : (goals : List Goal) (at : ℕ) (done : List (Bor (List Goal))) (whole : List (List report.Goal)) → length goals ≤ at → map view_run done ++ runs (view_goals (drop at goals)) ≡ whole → map view_run done ≡ whole
run_end goals at done whole l h = sym (append-nil (map view_run done)) ∙ ap (λ gs. map view_run done ++ runs (view_goals gs)) (sym (drop_all at goals l)) ∙ h

-- ---- how many are of one function

next_goal : (items : List Goal) (i : ℕ) (a : Goal) → i < length items → a ≡ get_or items i a → view_goals (drop i items) ≡ view_goal a ∷ view_goals (drop (i + 1) items)
next_goal items i a l is = ap view_goals (drop_more items i a l ∙ ap (λ x. x ∷ drop (i + 1) items) (sym is))

pub same_more : (name : List ℕ) (items : List Goal) (i : ℕ) (a : Goal) (n whole : ℕ) → i < length items → a ≡ get_or items i a → bytes_eq (view_goal a).function name ≡ true
    → n + prefix_len (same name) (view_goals (drop i items)) ≡ whole → (n + 1) + prefix_len (same name) (view_goals (drop (i + 1) items)) ≡ whole
same_more name items i a n whole l is e h =
    let step : prefix_len (same name) (view_goals (drop i items)) ≡ 1 + prefix_len (same name) (view_goals (drop (i + 1) items)) = ap (prefix_len (same name)) (next_goal items i a l is) ∙ rw e in
    omega (arith, step, h)

pub same_end : (name : List ℕ) (items : List Goal) (i : ℕ) (a : Goal) (n whole : ℕ) → i < length items → a ≡ get_or items i a → bytes_eq (view_goal a).function name ≡ false
    → n + prefix_len (same name) (view_goals (drop i items)) ≡ whole → n ≡ whole
same_end name items i a n whole l is e h =
    let step : prefix_len (same name) (view_goals (drop i items)) ≡ 0 = ap (prefix_len (same name)) (next_goal items i a l is) ∙ rw e in
    omega (arith, step, h)

pub same_over : (name : List ℕ) (items : List Goal) (i n whole : ℕ) → length items ≤ i → n + prefix_len (same name) (view_goals (drop i items)) ≡ whole → n ≡ whole
same_over name items i n whole l h = let none = ap (λ xs. prefix_len (same name) (view_goals xs)) (drop_all i items l) in omega (arith, none, h)

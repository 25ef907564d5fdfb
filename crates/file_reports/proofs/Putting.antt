-- Lines of goals behind those that came before.
use Rattle.std.proofs.Common.{◌≡◌, ◌<◌, ◌≤◌, ◌-◌, ◌==◌, ℕ, suc, ◌+◌, Bool, true, false, not, cond, ◌&&◌, List, [], ◌∷◌, ◌++◌, map, take, length, get_or, refl, sym, ap, ◌∙◌, subst, append_assoc, append-nil, arith}
use Rattle.std.proofs.Math.Dec.{eqb-suc-zero}
use Rattle.std.proofs.lemmas.Bool.{eqb-true, eq-eqb}
use Rattle.std.proofs.lemmas.List.{take_more, take_all, map-append, length-append}
use Rattle.std.proofs.lemmas.List.Sums.{sum_by-append, sum_by-cons}
use Rattle.qed_terms.specs.Setting.{Setting}
use Rattle.typed_unit.specs.Unit as u
use Rattle.slot_names.specs.Bases.{Name}
use Rattle.goal_report.specs.Report.{Judged, Reported, goal_lines, all_lines, all_goals, is_proved, goals_proved, all_proved, proved_in, unknown_in, hypothesis_lines, ignored_lines, summary_line}
use Rattle.goal_report.proofs.Counting.{each_more}
use Rattle.plain_goals.specs.Files.{FunctionGoals}
use Rattle.wp_words.specs.Command.{Wanted}
use Rattle.plain_reports.specs.Reports.{IsReported}
use Rattle.file_reports.specs.Lines.{Page, BodyLines, FileLines, IsReport, headed}

lines_behind : (rs : List Reported) (r : Reported) → all_lines (rs ++ r ∷ []) ≡ all_lines rs ++ goal_lines r.name 1 r.goals
lines_behind [] r = append-nil (goal_lines r.name 1 r.goals)
lines_behind (x ∷ rs) r = ap (λ ls. goal_lines x.name 1 x.goals ++ ls) (lines_behind rs r) ∙ sym (append_assoc (goal_lines x.name 1 x.goals) (all_lines rs) (goal_lines r.name 1 r.goals))

goals_behind : (rs : List Reported) (r : Reported) → all_goals (rs ++ r ∷ []) ≡ all_goals rs ++ r.goals
goals_behind [] r = append-nil r.goals
goals_behind (x ∷ rs) r = ap (λ gs. x.goals ++ gs) (goals_behind rs r) ∙ sym (append_assoc x.goals (all_goals rs) r.goals)

proved_behind : (gs hs : List Judged) → proved_in (gs ++ hs) ≡ proved_in gs + proved_in hs
proved_behind gs hs = sum_by-append (λ (g : Judged). cond (is_proved g.verdict) 1 0) gs hs

behind : (setting : Setting) (wanted : Wanted) (t : u.Typed) (gs : List FunctionGoals) (g : FunctionGoals) (first mid last : Page) → FileLines setting wanted t gs first mid → BodyLines setting wanted t g mid last → FileLines setting wanted t (gs ++ g ∷ []) first last
behind setting wanted t gs g first mid last done one =
    let rs = done.reported in
    let r = one.reported in
    let count : length (all_goals (rs ++ r ∷ [])) ≡ length (all_goals rs) + length r.goals = ap (λ (xs : List Judged). length xs) (goals_behind rs r) ∙ length-append (all_goals rs) r.goals in
    let proved : proved_in (all_goals (rs ++ r ∷ [])) ≡ proved_in (all_goals rs) + proved_in r.goals = ap proved_in (goals_behind rs r) ∙ proved_behind (all_goals rs) r.goals in
    record {
      reported = rs ++ r ∷ [];
      are = each_more (IsReported setting wanted t) gs rs g r done.are one.is;
      text = one.text ∙ ap (λ x. x ++ goal_lines r.name 1 r.goals) done.text ∙ append_assoc first.text (all_lines rs) (goal_lines r.name 1 r.goals) ∙ ap (λ x. first.text ++ x) (sym (lines_behind rs r));
      goals = omega (arith, one.goals, done.goals, count);
      proved = omega (arith, one.proved, done.proved, proved);
    }

-- no goals yet
pub none_yet : (setting : Setting) (wanted : Wanted) (t : u.Typed) (p : Page) → FileLines setting wanted t [] p p
none_yet setting wanted t p = record { reported = []; are = tt; text = sym (append-nil p.text); goals = omega arith; proved = omega arith }

-- one more body's
pub body_more : {A : Type 0} (setting : Setting) (wanted : Wanted) (t : u.Typed) (see : A → u.Body) (g : u.Body → FunctionGoals) (items : List A) (i : ℕ) (a : A) (first mid last : Page) → i < length items → a ≡ get_or items i a
    → FileLines setting wanted t (map g (map see (take i items))) first mid → BodyLines setting wanted t (g (see a)) mid last → FileLines setting wanted t (map g (map see (take (i + 1) items))) first last
body_more setting wanted t see g items i a first mid last within is done one =
    let front : map g (map see (take (i + 1) items)) ≡ map g (map see (take i items)) ++ g (see a) ∷ [] =
    ap (λ xs. map g (map see xs)) (take_more items i a within ∙ ap (λ z. take i items ++ z ∷ []) (sym is))
    ∙ ap (map g) (map-append see (take i items) (a ∷ [])) ∙ map-append g (map see (take i items)) (see a ∷ []) in
    subst (λ gs. FileLines setting wanted t gs first last) (sym front) (behind setting wanted t (map g (map see (take i items))) (g (see a)) first mid last done one)

-- all bodies'
pub all_done : {A : Type 0} (setting : Setting) (wanted : Wanted) (t : u.Typed) (see : A → u.Body) (g : u.Body → FunctionGoals) (items : List A) (i : ℕ) (first last : Page) → length items ≤ i
    → FileLines setting wanted t (map g (map see (take i items))) first last → FileLines setting wanted t (map g (map see items)) first last
all_done setting wanted t see g items i first last over done = subst (λ xs. FileLines setting wanted t (map g (map see xs)) first last) (take_all i items over) done

-- ---- the report

-- each goal is proved or unknown
counted : (goals : List Judged) → proved_in goals + unknown_in goals ≡ length goals
counted [] = refl
counted (g ∷ goals) =
    let p : proved_in (g ∷ goals) ≡ cond (is_proved g.verdict) 1 0 + proved_in goals = sum_by-cons (λ (g : Judged). cond (is_proved g.verdict) 1 0) g goals in
    let u : unknown_in (g ∷ goals) ≡ cond (not (is_proved g.verdict)) 1 0 + unknown_in goals = sum_by-cons (λ (g : Judged). cond (not (is_proved g.verdict)) 1 0) g goals in
    omega (arith, p, u, one_of (is_proved g.verdict), counted goals)
  where
    one_of : (b : Bool) → cond b 1 0 + cond (not b) 1 0 ≡ 1
    one_of true = refl
    one_of false = refl

-- all are proved exactly where none is unknown
none_unknown : (goals : List Judged) → (unknown_in goals == 0) ≡ goals_proved goals
none_unknown [] = refl
none_unknown (g ∷ goals) = by (none_unknown goals) (is_proved g.verdict) (sum_by-cons (λ (g : Judged). cond (not (is_proved g.verdict)) 1 0) g goals)
  where
    by : (unknown_in goals == 0) ≡ goals_proved goals → (b : Bool) → unknown_in (g ∷ goals) ≡ cond (not b) 1 0 + unknown_in goals → (unknown_in (g ∷ goals) == 0) ≡ (b && goals_proved goals)
    by rest true u = let same : unknown_in (g ∷ goals) ≡ unknown_in goals = omega (arith, u) in ap (λ n. n == 0) same ∙ rest
    by rest false u = let more : unknown_in (g ∷ goals) ≡ suc (unknown_in goals) = omega (arith, u) in ap (λ n. n == 0) more ∙ eqb-suc-zero (unknown_in goals)

same_count : (a b c : ℕ) → b + c ≡ a → (a == b) ≡ (c == 0)
same_count a b c e = by (a == b) refl
  where
    by : (x : Bool) → (a == b) ≡ x → x ≡ (c == 0)
    by true h = let none : c ≡ 0 = omega (arith, e, eqb-true a b h) in sym (eq-eqb c 0 none)
    by false h = other (c == 0) refl
      where
        other : (y : Bool) → (c == 0) ≡ y → false ≡ y
        other false k = refl
        other true k =
            let zero : c ≡ 0 = eqb-true c 0 k in
            let same : a ≡ b = omega (arith, e, zero) in
            sym h ∙ eq-eqb a b same

proved_append : (gs hs : List Judged) → goals_proved (gs ++ hs) ≡ (goals_proved gs && goals_proved hs)
proved_append [] hs = refl
proved_append (g ∷ gs) hs = by (proved_append gs hs) (is_proved g.verdict)
  where
    by : goals_proved (gs ++ hs) ≡ (goals_proved gs && goals_proved hs) → (b : Bool) → (b && goals_proved (gs ++ hs)) ≡ ((b && goals_proved gs) && goals_proved hs)
    by rest true = rest
    by rest false = refl

all_of : (rs : List Reported) → goals_proved (all_goals rs) ≡ all_proved rs
all_of [] = refl
all_of (r ∷ rs) = proved_append r.goals (all_goals rs) ∙ ap (λ b. goals_proved r.goals && b) (all_of rs)

-- the page with its last line
pub whole_report : (setting : Setting) (wanted : Wanted) (t : u.Typed) (names : List Name) (lines : List ℕ) (gs : List FunctionGoals) (first last : Page) (text : List ℕ) (all : Bool) → first ≡ headed names lines
    → FileLines setting wanted t gs first last → text ≡ last.text ++ summary_line last.goals last.proved (last.goals - last.proved) → all ≡ (last.goals == last.proved) → IsReport setting wanted t names lines gs text all
whole_report setting wanted t names lines gs first last text all head done is so =
    let rs = done.reported in
    let js = all_goals rs in
    let none : first.goals ≡ 0 = ap (λ (p : Page). p.goals) head in
    let nothing : first.proved ≡ 0 = ap (λ (p : Page). p.proved) head in
    let total : last.goals ≡ length js = omega (arith, done.goals, none) in
    let closed : last.proved ≡ proved_in js = omega (arith, done.proved, nothing) in
    let left : last.goals - last.proved ≡ unknown_in js = omega (arith, total, closed, counted js) in
    let front : last.text ≡ (hypothesis_lines names ++ ignored_lines lines) ++ all_lines rs = done.text ∙ ap (λ (p : Page). p.text ++ all_lines rs) head in
    let end : text ≡ ((hypothesis_lines names ++ ignored_lines lines) ++ all_lines rs) ++ summary_line (length js) (proved_in js) (unknown_in js) =
    is ∙ (λ j. front j ++ summary_line (total j) (closed j) (left j)) in
    let apart =
    append_assoc (hypothesis_lines names ++ ignored_lines lines) (all_lines rs) (summary_line (length js) (proved_in js) (unknown_in js))
    ∙ append_assoc (hypothesis_lines names) (ignored_lines lines) (all_lines rs ++ summary_line (length js) (proved_in js) (unknown_in js)) in
    let equal : (last.goals == last.proved) ≡ (unknown_in js == 0) = same_count last.goals last.proved (unknown_in js) (omega (arith, total, closed, counted js)) in
    record { reported = rs; are = done.are; text_is = end ∙ apart; all_is = so ∙ equal ∙ none_unknown js ∙ all_of rs }

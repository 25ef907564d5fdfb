-- One goal more.
use Rattle.std.proofs.Common.{◌≡◌, ℕ, ◌+◌, Bool, cond, List, [], ◌∷◌, ◌++◌, length, refl, sym, ap, ◌∙◌, append_assoc, append-nil, arith}
use Rattle.std.proofs.lemmas.List.Sums.{sum_by-cons}
use Rattle.qed_terms.specs.declared.verdict.Verdict.{Verdict}
use Rattle.qed_terms.specs.Tree.{Tree}
use Rattle.walk_steps.specs.Walk.{Goal, formula_of}
use Rattle.goal_report.specs.Report.{Judged, goal_lines, lines_of, is_proved, proved_in}
use Rattle.goal_report.specs.Judging.{EachIsSo, AreLines, IsJudged, shown}

-- one more on both sides
pub each_more : {X Y : Type 0} (Is : X → Y → Type 0) (xs : List X) (ys : List Y) (x : X) (y : Y) → EachIsSo Is xs ys → Is x y → EachIsSo Is (xs ++ x ∷ []) (ys ++ y ∷ [])
each_more Is [] [] x y h e = (e, tt)
each_more Is [] (b ∷ ys) x y h e = absurd h
each_more Is (a ∷ xs) [] x y h e = absurd h
each_more Is (a ∷ xs) (b ∷ ys) x y h e = (h.0, each_more Is xs ys x y h.1 e)

lines_behind : (name : List ℕ) (k : ℕ) (js : List Judged) (j : Judged) → goal_lines name k (js ++ j ∷ []) ≡ goal_lines name k js ++ lines_of name (k + length js) j
lines_behind name k [] j =
    let same : k ≡ k + 0 = omega arith in
    append-nil (lines_of name k j) ∙ ap (λ n. lines_of name n j) same
lines_behind name k (x ∷ js) j =
    let same : k + 1 + length js ≡ k + length (x ∷ js) = omega arith in
    ap (λ ls. lines_of name k x ++ ls) (lines_behind name (k + 1) js j)
    ∙ sym (append_assoc (lines_of name k x) (goal_lines name (k + 1) js) (lines_of name (k + 1 + length js) j))
    ∙ ap (λ n. (lines_of name k x ++ goal_lines name (k + 1) js) ++ lines_of name n j) same

length_more : (js : List Judged) (j : Judged) → length (js ++ j ∷ []) ≡ length js + 1
length_more [] j = refl
length_more (x ∷ js) j = let more = length_more js j in omega (arith, more)

proved_more : (js : List Judged) (j : Judged) → proved_in (js ++ j ∷ []) ≡ proved_in js + cond (is_proved j.verdict) 1 0
proved_more [] j = let one = sum_by-cons (λ (g : Judged). cond (is_proved g.verdict) 1 0) j [] in omega (arith, one)
proved_more (x ∷ js) j =
    let all = sum_by-cons (λ (g : Judged). cond (is_proved g.verdict) 1 0) x (js ++ j ∷ []) in
    let some = sum_by-cons (λ (g : Judged). cond (is_proved g.verdict) 1 0) x js in
    let more = proved_more js j in
    omega (arith, all, some, more)

pub goal_more : (Is : Tree → Verdict → Type 0) (shows : Bool) (name : List ℕ) (gs : List Goal) (text after : List ℕ) (n p m q : ℕ) (g : Goal) (v : Verdict) → AreLines Is shows name gs text n p
    → Is (formula_of g) v → after ≡ text ++ lines_of name m (record { place = g.place; verdict = v; text = shown shows g.known g.claim }) → m ≡ n + 1 → q ≡ p + cond (is_proved v) 1 0
    → AreLines Is shows name (gs ++ g ∷ []) after m q
goal_more Is shows name gs text after n p m q g v h said put more count =
    let j : Judged = record { place = g.place; verdict = v; text = shown shows g.known g.claim } in
    let is : IsJudged Is shows g j = record { place = refl; verdict = said; text = refl } in
    let place : m ≡ 1 + length h.judged = omega (arith, more, h.goals_is) in
    let total : m ≡ length (h.judged ++ j ∷ []) = omega (arith, more, h.goals_is, length_more h.judged j) in
    record {
      judged = h.judged ++ j ∷ [];
      are = each_more (IsJudged Is shows) gs h.judged g j h.are is;
      text_is = put ∙ ap (λ t. t ++ lines_of name m j) h.text_is ∙ ap (λ n. goal_lines name 1 h.judged ++ lines_of name n j) place ∙ sym (lines_behind name 1 h.judged j);
      goals_is = total;
      proved_is = count ∙ ap (λ n. n + cond (is_proved v) 1 0) h.proved_is ∙ sym (proved_more h.judged j);
    }

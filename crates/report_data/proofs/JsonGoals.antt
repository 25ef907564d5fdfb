-- Goals as objects, and their totals: what is written is read.
use Rattle.std.proofs.Common.{◌≡◌, ℕ, ◌<◌, ◌≤◌, true, ◌&&◌, List, [], ◌++◌, length, codes, Option, Some, None, refl, sym, ap, ◌∙◌, arith, append-nil}
use Rattle.std.specs.List.{list_all}
use Rattle.std.proofs.lemmas.Bool.Decides.{nat_tests}
use Rattle.qed_terms.specs.declared.verdict.Verdict.{Verdict}
use Rattle.qed_terms.specs.declared.verdict.Verdict.TheVariants as verdict
use Rattle.goal_words.specs.Bytes.{◌>>=◌, with_rest}
use Rattle.goal_words.proofs.Numerals.{both_true}
use Rattle.report_read.specs.Report.{Goal, verdict_name, proved_in, unknown_in, is_number}
use Rattle.report_read.proofs.Many.{all_read}
use Rattle.report_read.proofs.Spelled.{verdict_of_name}
use Rattle.report_read.proofs.Summary.{counted}
use Rattle.report_data.specs.Json.{text_value, number_value, Member, object_line, formula_members, goal_members, total_members, goal_object, json_text, object_at, text_of, goal_of, goal_at, Totals, at_end, read_totals, json_in, are_bytes, is_formula, is_goal, JsonReadBack}
use Rattle.report_data.proofs.Objects.{is_member, object_read}

-- ---- a goal

bytes_of_verdict : (v : Verdict) → are_bytes (verdict_name v) ≡ true
bytes_of_verdict verdict.Proved = refl
bytes_of_verdict verdict.Open = refl
bytes_of_verdict verdict.Branches = refl
bytes_of_verdict verdict.Size = refl

formula_fits : (o : Option (List ℕ)) → is_formula o ≡ true → list_all is_member (formula_members o) ≡ true
formula_fits None h = refl
formula_fits (Some formula) h = rw h

members_fit : (g : Goal) → is_goal g ≡ true → list_all is_member (goal_members g) ≡ true
members_fit g h =
    let f = both_true (are_bytes g.function) (is_number g.number && (are_bytes g.check && (is_number g.line && is_formula g.formula))) h in
    let n = both_true (is_number g.number) (are_bytes g.check && (is_number g.line && is_formula g.formula)) f.1 in
    let c = both_true (are_bytes g.check) (is_number g.line && is_formula g.formula) n.1 in
    let l = both_true (is_number g.line) (is_formula g.formula) c.1 in
    rw (f.0, n.0, c.0, l.0, bytes_of_verdict g.verdict) (formula_fits g.formula l.1)

formula_back : (o : Option (List ℕ)) → text_of (codes "formula") (formula_members o) ≡ o
formula_back None = refl
formula_back (Some formula) = refl

goal_back : (g : Goal) → goal_of (goal_members g) ≡ Some g
unfolding goal_of
goal_back g =
    let found : Option (List ℕ) → Option Goal = λ o. Some (record g { formula = o }) in
    rw (verdict_of_name g.verdict) (ap found (formula_back g.formula))

goal_read : (g : Goal) (rest : List ℕ) → is_goal g ≡ true → goal_at (goal_object g ++ rest) ≡ Some (g, rest)
unfolding goal_at
goal_read g rest h =
    let from : Option (List Member × List ℕ) → Option (Goal × List ℕ) = λ o. o >>= λ p. with_rest p.1 (goal_of p.0) in
    ap from (object_read (codes "function", text_value g.function) _ rest (members_fit g h)) ∙ ap (with_rest rest) (goal_back g)

some_object : (g : Goal) → 0 < length (goal_object g)
unfolding object_line
some_object g = omega arith

-- ---- totals

no_goal : (n p u : ℕ) → goal_of (total_members n p u) ≡ None
unfolding goal_of
no_goal n p u = refl

totals_back : (n p u : ℕ) → read_totals (total_members n p u) ≡ Some (record { goals = n; proved = p; unknown = u })
unfolding read_totals
totals_back n p u = refl

totals_fit : (n p u : ℕ) → is_number n ≡ true → is_number p ≡ true → is_number u ≡ true → list_all is_member (total_members n p u) ≡ true
totals_fit n p u a b c = rw (a, b, c)

totals_read : (n p u : ℕ) → is_number n ≡ true → is_number p ≡ true → is_number u ≡ true → object_at (object_line (total_members n p u)) ≡ Some (total_members n p u, [])
totals_read n p u a b c =
    ap object_at (sym (append-nil (object_line (total_members n p u)))) ∙ object_read (codes "goals", number_value n) _ [] (totals_fit n p u a b c)

goal_nowhere : (n p u : ℕ) → is_number n ≡ true → is_number p ≡ true → is_number u ≡ true → goal_at (object_line (total_members n p u)) ≡ None
unfolding goal_at
goal_nowhere n p u a b c =
    let from : Option (List Member × List ℕ) → Option (Goal × List ℕ) = λ o. o >>= λ p. with_rest p.1 (goal_of p.0) in
    ap from (totals_read n p u a b c) ∙ ap (with_rest []) (no_goal n p u)

smaller : (m n : ℕ) → m ≤ n → is_number n ≡ true → is_number m ≡ true
smaller m n l h = grind (arith, nat_tests)

-- ---- the whole

pub json_back : JsonReadBack
unfolding json_in json_text
json_back goals h small =
    let n = length goals in
    let p = proved_in goals in
    let u = unknown_in goals in
    let sum = counted goals in
    let few : is_number p ≡ true = smaller p n (omega (arith, sum)) small in
    let open_ones : is_number u ≡ true = smaller u n (omega (arith, sum)) small in
    let last = object_line (total_members n p u) in
    let end : List Goal → List Member × List ℕ → Option (List Goal × Totals) = λ gs o. read_totals o.0 >>= λ t. at_end (gs, t) o.1 in
    let from : List Goal × List ℕ → Option (List Goal × Totals) = λ gs. object_at gs.1 >>= end gs.0 in
    let finish : Option Totals → Option (List Goal × Totals) = λ o. o >>= λ t. Some (goals, t) in
    ap from (all_read goal_at goal_object is_goal (λ _. Unit {0}) (λ g r i f. goal_read g r i) (λ g r. tt) some_object goals last h tt (goal_nowhere n p u small few open_ones))
    ∙ ap (λ o. o >>= end goals) (totals_read n p u small few open_ones) ∙ ap finish (totals_back n p u)

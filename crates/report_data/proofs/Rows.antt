-- Rows of comma-separated values, and their goals: what is written is read.
use Rattle.std.proofs.Common.{◌≡◌, ℕ, ◌<◌, Bool, true, false, ◌&&◌, List, [], ◌∷◌, ◌++◌, length, map, Option, Some, None, refl, sym, ap, ◌∙◌, arith, append_assoc, append-nil, length-append}
use Rattle.std.specs.Prelude.{unwrap_or}
use Rattle.std.specs.List.{list_all}
use Rattle.goal_words.specs.Bytes.{◌>>=◌, expect}
use Rattle.goal_words.proofs.Numerals.{both_true, count_text}
use Rattle.report_read.specs.Bytes.{joined, all_of}
use Rattle.report_read.specs.Report.{Goal, is_number}
use Rattle.report_read.proofs.Many.{all_read, all_end}
use Rattle.report_read.proofs.Spelled.{verdict_of_name}
use Rattle.report_data.specs.Json.{ended}
use Rattle.report_data.specs.Csv.{field, next_field, fields_text, row_line, names, goal_fields, goal_row, csv_text, plain_at, field_at, next_field_at, row_at, formula_of, goal_of, with_more, goals_of, behind_names, csv_in, is_some, is_goal, CsvReadBack}
use Rattle.report_data.proofs.Fields.{Ends, field_read, next_read, comma_ends, row_ends}

-- ---- rows

any_field : List ℕ → Bool
any_field f = true

all_fields : (fs : List (List ℕ)) → list_all any_field fs ≡ true
unfolding any_field
all_fields [] = refl
all_fields (f ∷ fs) = all_fields fs

abbrev is_row : List (List ℕ) → Bool
is_row [] = false
is_row (f ∷ fs) = true

no_next : (rest : List ℕ) → next_field_at (13 ∷ rest) ≡ None
unfolding next_field_at
no_next rest = refl

fields_read : (f : List ℕ) (fs : List (List ℕ)) (rest : List ℕ) → row_at (row_line (f ∷ fs) ++ rest) ≡ Some (f ∷ fs, rest)
unfolding row_at row_line
fields_read f fs rest =
    let behind = 13 ∷ 10 ∷ rest in
    let others = joined (map next_field fs) in
    let regroup : ((field f ++ others) ++ 13 ∷ 10 ∷ []) ++ rest ≡ field f ++ (others ++ behind) =
    append_assoc (field f ++ others) (13 ∷ 10 ∷ []) rest ∙ append_assoc (field f) others behind in
    let end : List ℕ → List (List ℕ) × List ℕ → Option (List (List ℕ) × List ℕ) = λ first s. expect 13 s.1 >>= λ r. ended (first ∷ s.0) (expect 10 r) in
    let from : Option (List ℕ × List ℕ) → Option (List (List ℕ) × List ℕ) = λ o. o >>= λ p. end p.0 (all_of next_field_at p.1) in
    ap (λ bytes. from (field_at bytes)) regroup ∙ ap from (field_read f (others ++ behind) (follows fs))
    ∙ ap (end f) (all_read next_field_at next_field any_field Ends (λ x r i k. next_read x r k) (λ x r. comma_ends (field x ++ r)) (λ x. omega arith) fs behind (all_fields fs) (row_ends (10 ∷ rest)) (no_next (10 ∷ rest)))
  where
    follows : (fs : List (List ℕ)) → Ends (joined (map next_field fs) ++ 13 ∷ 10 ∷ rest)
    follows [] = row_ends (10 ∷ rest)
    follows (g ∷ gs) = comma_ends ((field g ++ joined (map next_field gs)) ++ 13 ∷ 10 ∷ rest)

row_read : (fs : List (List ℕ)) (rest : List ℕ) → is_row fs ≡ true → row_at (row_line fs ++ rest) ≡ Some (fs, rest)
row_read [] rest h = absurd cc
row_read (f ∷ fs) rest h = fields_read f fs rest

some_row : (fs : List (List ℕ)) → 0 < length (row_line fs)
unfolding row_line
some_row fs = omega (arith, length-append (fields_text fs) (13 ∷ 10 ∷ []))

plain_over : plain_at [] ≡ None
unfolding plain_at
plain_over = refl

next_over : next_field_at [] ≡ None
unfolding next_field_at
next_over = refl

row_over : row_at [] ≡ None
unfolding row_at field_at
row_over =
    let end : List ℕ × List ℕ → Option (List (List ℕ) × List ℕ) = λ p. (let s = all_of next_field_at p.1 in expect 13 s.1 >>= λ r. ended (p.0 ∷ s.0) (expect 10 r)) in
    let close : List (List ℕ) × List ℕ → Option (List (List ℕ) × List ℕ) = λ s. expect 13 s.1 >>= λ r. ended ([] ∷ s.0) (expect 10 r) in
    ap end (all_end plain_at [] plain_over) ∙ ap close (all_end next_field_at [] next_over)

-- ---- goals

formula_back : (o : Option (List ℕ)) → is_some o ≡ true → formula_of (unwrap_or o []) ≡ o
formula_back None h = refl
formula_back (Some []) h = absurd cc
formula_back (Some (b ∷ f)) h = refl

goal_back : (g : Goal) → is_goal g ≡ true → goal_of (goal_fields g) ≡ Some g
unfolding goal_of
goal_back g h =
    let n = both_true (is_number g.number) (is_number g.line && is_some g.formula) h in
    let l = both_true (is_number g.line) (is_some g.formula) n.1 in
    let found : Option (List ℕ) → Option Goal = λ o. Some (record g { formula = o }) in
    rw (count_text g.number n.0, count_text g.line l.0, verdict_of_name g.verdict) (ap found (formula_back g.formula l.1))

goals_back : (goals : List Goal) → list_all is_goal goals ≡ true → goals_of (map goal_fields goals) ≡ Some goals
goals_back [] h = refl
goals_back (g ∷ goals) h =
    let b = both_true (is_goal g) (list_all is_goal goals) h in
    ap (λ o. o >>= λ x. with_more x (goals_of (map goal_fields goals))) (goal_back g b.0) ∙ ap (with_more g) (goals_back goals b.1)

-- ---- the whole

rows_joined : (goals : List Goal) → joined (map goal_row goals) ≡ joined (map row_line (map goal_fields goals))
rows_joined [] = refl
rows_joined (g ∷ goals) = ap (λ t. goal_row g ++ t) (rows_joined goals)

all_rows : (goals : List Goal) → list_all is_row (map goal_fields goals) ≡ true
all_rows [] = refl
all_rows (g ∷ goals) = all_rows goals

pub csv_back : CsvReadBack
unfolding csv_in csv_text
csv_back goals h =
    let rows = names ∷ map goal_fields goals in
    let whole : row_line names ++ joined (map goal_row goals) ≡ joined (map row_line rows) ++ [] = ap (λ t. row_line names ++ t) (rows_joined goals) ∙ sym (append-nil (joined (map row_line rows))) in
    ap (λ text. behind_names (all_of row_at text)) whole
    ∙ ap behind_names (all_read row_at row_line is_row (λ _. Unit {0}) (λ fs r i k. row_read fs r i) (λ fs r. tt) some_row rows [] (all_rows goals) tt row_over) ∙ goals_back goals h

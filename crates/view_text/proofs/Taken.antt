-- The source, taken from its view.
use Rattle.std.proofs.Common.{◌≡◌, ℕ, zero, suc, ◌+◌, ◌≤◌, nat_lt, Bool, true, false, not, cond, ◌&&◌, ◌||◌, List, [], ◌∷◌, ◌++◌, length, map, codes, Option, Some, None, refl, sym, ap, ◌∙◌, arith, append_assoc, append-nil, eqb}
use Rattle.std.specs.Prelude.{filter, option_map}
use Rattle.std.specs.List.{list_all}
use Rattle.std.specs.Str.{bytes_eq}
use Rattle.std.specs.Fmt.{decimal}
use Rattle.qed_terms.specs.declared.verdict.Verdict.{Verdict}
use Rattle.qed_terms.specs.declared.verdict.Verdict.TheVariants as verdict
use Rattle.std.proofs.lemmas.Bool.{false≢true}
use Rattle.goal_words.proofs.Numerals.{both_true}
use Rattle.report_read.specs.Bytes.{joined, until, many, all_of, one_and_more, pushed, nothing_before, is_free_of}
use Rattle.report_read.specs.Report.{Goal, Report, IsReport, is_goal, is_line, is_word, is_number, is_formula, proved_in, unknown_in}
use Rattle.report_read.proofs.Fronts.{until_is, until_of}
use Rattle.report_read.proofs.Many.{all_more}
use Rattle.report_shown.specs.Source.{lines, last_line, by_line, elsewhere, first_list, other_lists}
use Rattle.report_shown.specs.Shown.{onto_run, runs}
use Rattle.report_shown.proofs.Placed.{newline_consumes}
use Rattle.view_text.specs.Text.{padded, source_line, margin, has_room, word_put, next_column, filled, words, formula_text, some_formula, verdict_text, goal_name, goal_text, goals_text, source_text, missing_line, missing_text, hypothesis_note, ignored_note, row, row_of, run_row, table, notes, text_view}
use Rattle.view_text.specs.Whole.{behind_bar, line_taken, taken_from, source_in, SourceIsWhole}
use Rattle.view_text.proofs.Free.{Free, both_free, front_free, rest_free, free_of_more, free_decimal, free_padded, barless_padded, number_shows}

-- ---- a line, and the text behind it

lines_first : (line rest : List ℕ) → Free line → lines (line ++ 10 ∷ rest) ≡ line ∷ lines rest
unfolding lines
lines_first line rest h =
    ap (λ (p : List (List ℕ) × List ℕ). p.0 ++ last_line p.1) (all_more (until 10) newline_consumes (line ++ 10 ∷ rest) line rest (until_of 10 line rest h))

line_first : (line rest : List ℕ) → Free line → source_in (line ++ 10 ∷ rest) ≡ line_taken line ++ source_in rest
unfolding source_in
line_first line rest h = ap taken_from (lines_first line rest h)

none_taken : (text : List ℕ) → line_taken (margin ++ text) ≡ []
unfolding until
none_taken text = refl

-- a text that adds no line of the source
abbrev Adds : List ℕ → Type 0
Adds text = (rest : List ℕ) → source_in (text ++ rest) ≡ source_in rest

added : (text rest : List ℕ) → Free text → source_in (margin ++ (text ++ 10 ∷ rest)) ≡ source_in rest
added text rest h = line_first (margin ++ text) rest (both_free 10 margin text refl h) ∙ ap (λ ls. ls ++ source_in rest) (none_taken text)

added_line : (text : List ℕ) → Free text → Adds (margin ++ (text ++ 10 ∷ []))
added_line text h rest = ap (λ t. source_in (margin ++ t)) (append_assoc text (10 ∷ []) rest) ∙ added text rest h

both_add : (a b : List ℕ) → Adds a → Adds b → Adds (a ++ b)
both_add a b f g rest = ap source_in (append_assoc a b rest) ∙ f (b ++ rest) ∙ g rest

all_add : {X : Type 0} (put : X → List ℕ) (is : X → Bool) → ((x : X) → is x ≡ true → Adds (put x)) → (xs : List X) → list_all is xs ≡ true → Adds (joined (map put xs))
all_add put is one [] h = λ rest. refl
all_add put is one (x ∷ xs) h = let p = both_true (is x) (list_all is xs) h in both_add (put x) (joined (map put xs)) (one x p.0) (all_add put is one xs p.1)

-- ---- a line of the source

taken_line : (n : ℕ) (line : List ℕ) → line_taken (padded 6 n ++ (codes " | " ++ line)) ≡ line ∷ []
taken_line n line =
    let gutter = padded 6 n ++ 32 ∷ [] in
    let front : padded 6 n ++ (codes " | " ++ line) ≡ gutter ++ 124 ∷ (32 ∷ line) = sym (append_assoc (padded 6 n) (32 ∷ []) (124 ∷ (32 ∷ line))) in
    let bar : is_free_of 124 gutter ≡ true = both_free 124 (padded 6 n) (32 ∷ []) (barless_padded 6 n) refl in
    ap line_taken front ∙ ap behind_bar (until_of 124 gutter (32 ∷ line) bar) ∙ ap (λ t. cond t [] (line ∷ [])) (number_shows 6 n)

source_first : (n : ℕ) (line rest : List ℕ) → Free line → source_in (source_line n line ++ rest) ≡ line ∷ source_in rest
unfolding source_line
source_first n line rest h =
    let whole = padded 6 n ++ (codes " | " ++ line) in
    let back : (padded 6 n ++ (codes " | " ++ (line ++ 10 ∷ []))) ++ rest ≡ whole ++ 10 ∷ rest = simp append_assoc in
    ap source_in back ∙ line_first whole rest (both_free 10 (padded 6 n) (codes " | " ++ line) (free_padded 6 n) (both_free 10 (codes " | ") line refl h))
    ∙ ap (λ ls. ls ++ source_in rest) (taken_line n line)

-- ---- formulas

all_append : {X : Type 0} (q : X → Bool) (xs ys : List X) → list_all q xs ≡ true → list_all q ys ≡ true → list_all q (xs ++ ys) ≡ true
all_append q [] ys h k = k
all_append q (x ∷ xs) ys h k = let p = both_true (q x) (list_all q xs) h in let more = all_append q xs ys p.1 k in λ j. p.0 j && more j

filled_adds : (ws : List (List ℕ)) (c : ℕ) (text rest : List ℕ) → Free text → list_all (is_free_of 10) ws ≡ true → source_in (margin ++ (text ++ (filled c ws ++ 10 ∷ rest))) ≡ source_in rest
filled_adds [] c text rest h f = added text rest h
filled_adds (w ∷ ws) c text rest h f =
    let p = both_true (is_free_of 10 w) (list_all (is_free_of 10) ws) f in by (has_room c w) refl p.0 (λ next front k. filled_adds ws next front rest k p.1)
  where
    by : (t : Bool) → has_room c w ≡ t → Free w → ((next : ℕ) (front : List ℕ) → Free front → source_in (margin ++ (front ++ (filled next ws ++ 10 ∷ rest))) ≡ source_in rest)
        → source_in (margin ++ (text ++ ((word_put c w ++ filled (next_column c w) ws) ++ 10 ∷ rest))) ≡ source_in rest
    by true e k more =
        let put : word_put c w ≡ 32 ∷ w = ap (λ t. cond t (32 ∷ w) (10 ∷ (margin ++ (32 ∷ 32 ∷ w)))) e in
        let next : next_column c w ≡ c + 1 + length w = ap (λ t. cond t (c + 1 + length w) (11 + length w)) e in
        let same : text ++ (((32 ∷ w) ++ filled (c + 1 + length w) ws) ++ 10 ∷ rest) ≡ (text ++ 32 ∷ w) ++ (filled (c + 1 + length w) ws ++ 10 ∷ rest) = simp append_assoc in
        (λ j. source_in (margin ++ (text ++ ((put j ++ filled (next j) ws) ++ 10 ∷ rest)))) ∙ ap (λ t. source_in (margin ++ t)) same
        ∙ more (c + 1 + length w) (text ++ 32 ∷ w) (both_free 10 text (32 ∷ w) h (both_free 10 (32 ∷ []) w refl k))
    by false e k more =
        let put : word_put c w ≡ 10 ∷ (margin ++ (32 ∷ 32 ∷ w)) = ap (λ t. cond t (32 ∷ w) (10 ∷ (margin ++ (32 ∷ 32 ∷ w)))) e in
        let next : next_column c w ≡ 11 + length w = ap (λ t. cond t (c + 1 + length w) (11 + length w)) e in
        let behind = margin ++ ((32 ∷ 32 ∷ w) ++ (filled (11 + length w) ws ++ 10 ∷ rest)) in
        let same : text ++ (((10 ∷ (margin ++ (32 ∷ 32 ∷ w))) ++ filled (11 + length w) ws) ++ 10 ∷ rest) ≡ text ++ 10 ∷ behind = simp append_assoc in
        (λ j. source_in (margin ++ (text ++ ((put j ++ filled (next j) ws) ++ 10 ∷ rest)))) ∙ ap (λ t. source_in (margin ++ t)) same
        ∙ added text behind h ∙ more (11 + length w) (32 ∷ 32 ∷ w) (both_free 10 (32 ∷ 32 ∷ []) w refl k)

parts_free : (n : ℕ) (bytes : List ℕ) → Free bytes → (list_all (is_free_of 10) (many (until 32) n bytes).0 ≡ true) × (Free (many (until 32) n bytes).1)
unfolding many
parts_free zero bytes h = (refl, h)
parts_free (suc n) bytes h = by (until 32 bytes) refl (parts_free n)
  where
    by : (o : Option (List ℕ × List ℕ)) → until 32 bytes ≡ o → ((rest : List ℕ) → Free rest → (list_all (is_free_of 10) (many (until 32) n rest).0 ≡ true) × (Free (many (until 32) n rest).1))
        → (list_all (is_free_of 10) (one_and_more (many (until 32) n) bytes o).0 ≡ true) × (Free (one_and_more (many (until 32) n) bytes o).1)
    by None e more = (refl, h)
    by (Some p) e more =
        let whole : Free (p.0 ++ 32 ∷ p.1) = ap (is_free_of 10) (sym (until_is 32 bytes p.0 p.1 e).0) ∙ h in
        let one = front_free 10 p.0 (32 ∷ p.1) whole in
        let behind = more p.1 (rest_free 10 (32 ∷ []) p.1 (rest_free 10 p.0 (32 ∷ p.1) whole)) in
        ((λ j. one j && behind.0 j), behind.1)

words_free : (formula : List ℕ) → Free formula → list_all (is_free_of 10) (words formula) ≡ true
unfolding words
words_free formula h =
    let p = parts_free (length formula) formula h in
    let last = p.1 in
    all_append (is_free_of 10) (all_of (until 32) formula).0 ((all_of (until 32) formula).1 ∷ []) p.0 (λ j. last j && true)

formula_adds : (formula text : List ℕ) → Free formula → Free text → Adds (margin ++ (text ++ (formula_text formula ++ 10 ∷ [])))
unfolding formula_text
formula_adds formula text f h rest =
    let same : (text ++ (filled 100 (words formula) ++ 10 ∷ [])) ++ rest ≡ text ++ (filled 100 (words formula) ++ 10 ∷ rest) = simp append_assoc in
    ap (λ t. source_in (margin ++ t)) same ∙ filled_adds (words formula) 100 text rest h (words_free formula f)

-- ---- goals

verdict_free : (color : Bool) (v : Verdict) → Free (verdict_text color v)
verdict_free true verdict.Proved = refl
verdict_free true verdict.Open = refl
verdict_free true verdict.Branches = refl
verdict_free true verdict.Size = refl
verdict_free false verdict.Proved = refl
verdict_free false verdict.Open = refl
verdict_free false verdict.Branches = refl
verdict_free false verdict.Size = refl

-- a goal's text behind the margin, up to its verdict
with_verdict : (name verdict : List ℕ) (o : Option (List ℕ)) → Free name → Free verdict → is_formula o ≡ true → Adds ((margin ++ name) ++ (verdict ++ (some_formula o ++ 10 ∷ [])))
with_verdict name v None n f k rest =
    let same : (name ++ (v ++ 10 ∷ [])) ++ rest ≡ (name ++ v) ++ 10 ∷ rest = simp append_assoc in ap (λ t. source_in (margin ++ t)) same ∙ added (name ++ v) rest (both_free 10 name v n f)
with_verdict name v (Some []) n f k rest = absurd (false≢true k)
with_verdict name v (Some (b ∷ formula)) n f k rest =
    let same : (name ++ (v ++ (formula_text (b ∷ formula) ++ 10 ∷ []))) ++ rest ≡ ((name ++ v) ++ (formula_text (b ∷ formula) ++ 10 ∷ [])) ++ rest = simp append_assoc in
    ap (λ t. source_in (margin ++ t)) same ∙ formula_adds (b ∷ formula) (name ++ v) k (both_free 10 name v n f) rest

goal_adds : (color : Bool) (g : Goal) → is_goal g ≡ true → Adds (goal_text color g)
unfolding goal_text goal_name
goal_adds color g h =
    let a = both_true (is_word g.function) (is_number g.number && (is_word g.check && (is_number g.line && is_formula g.formula))) h in
    let b = both_true (is_number g.number) (is_word g.check && (is_number g.line && is_formula g.formula)) a.1 in
    let c = both_true (is_word g.check) (is_number g.line && is_formula g.formula) b.1 in
    let d = both_true (is_number g.line) (is_formula g.formula) c.1 in
    let check : Free (g.check ++ codes ": ") = both_free 10 g.check (codes ": ") (free_of_more 32 g.check c.0) refl in
    let number : Free (decimal g.number ++ (codes " " ++ (g.check ++ codes ": "))) = both_free 10 (decimal g.number) (codes " " ++ (g.check ++ codes ": ")) (free_decimal g.number) (both_free 10 (codes " ") (g.check ++ codes ": ") refl check) in
    let name : Free (g.function ++ (codes " " ++ (decimal g.number ++ (codes " " ++ (g.check ++ codes ": "))))) =
    both_free 10 g.function (codes " " ++ (decimal g.number ++ (codes " " ++ (g.check ++ codes ": ")))) (free_of_more 32 g.function a.0)
    (both_free 10 (codes " ") (decimal g.number ++ (codes " " ++ (g.check ++ codes ": "))) refl number) in
    with_verdict (g.function ++ (codes " " ++ (decimal g.number ++ (codes " " ++ (g.check ++ codes ": "))))) (verdict_text color g.verdict) g.formula name (verdict_free color g.verdict) d.1

goals_add : (color : Bool) (goals : List Goal) → list_all is_goal goals ≡ true → Adds (goals_text color goals)
unfolding goals_text
goals_add color goals h = all_add (goal_text color) is_goal (goal_adds color) goals h

-- ---- the lines of the source

none_free : (bytes : List ℕ) → until 10 bytes ≡ None → Free bytes
unfolding until
none_free [] e = refl
none_free (b ∷ bytes) e = by (eqb b 10) (until 10 bytes) (none_free bytes) e
  where
    by : (t : Bool) (o : Option (List ℕ × List ℕ)) → (o ≡ None → Free bytes) → cond t (nothing_before bytes) (cond t None (option_map (pushed b) o)) ≡ None → (not (t || t) && is_free_of 10 bytes) ≡ true
    by true o more e = absurd cc
    by false None more e = more refl
    by false (Some p) more e = absurd cc

line_parts_free : (n : ℕ) (bytes : List ℕ) → list_all (is_free_of 10) (many (until 10) n bytes).0 ≡ true
unfolding many
line_parts_free zero bytes = refl
line_parts_free (suc n) bytes = by (until 10 bytes) refl (line_parts_free n)
  where
    by : (o : Option (List ℕ × List ℕ)) → until 10 bytes ≡ o → ((rest : List ℕ) → list_all (is_free_of 10) (many (until 10) n rest).0 ≡ true) → list_all (is_free_of 10) (one_and_more (many (until 10) n) bytes o).0 ≡ true
    by None e more = refl
    by (Some p) e more = let one = (until_is 10 bytes p.0 p.1 e).1 in let behind = more p.1 in λ j. one j && behind j

at_end : (n : ℕ) (bytes : List ℕ) → length bytes ≤ n → until 10 (many (until 10) n bytes).1 ≡ None
unfolding many until
at_end zero [] k = refl
at_end zero (b ∷ bytes) k = absurd (omega (arith, k))
at_end (suc n) bytes k = by (until 10 bytes) refl (at_end n)
  where
    by : (o : Option (List ℕ × List ℕ)) → until 10 bytes ≡ o → ((rest : List ℕ) → length rest ≤ n → until 10 (many (until 10) n rest).1 ≡ None) → until 10 (one_and_more (many (until 10) n) bytes o).1 ≡ None
    by None e more = e
    by (Some p) e more = let s = newline_consumes bytes p.0 p.1 e in more p.1 (omega (arith, s, k))

last_free : (rest : List ℕ) → Free rest → list_all (is_free_of 10) (last_line rest) ≡ true
last_free [] h = refl
last_free (b ∷ rest) h = λ j. h j && true

lines_free : (source : List ℕ) → list_all (is_free_of 10) (lines source) ≡ true
unfolding lines
lines_free source =
    let p = all_of (until 10) source in
    all_append (is_free_of 10) p.0 (last_line p.1) (line_parts_free (length source) source) (last_free p.1 (none_free p.1 (at_end (length source) source (omega arith))))

filter_good : {X : Type 0} (q p : X → Bool) (xs : List X) → list_all q xs ≡ true → list_all q (filter p xs) ≡ true
filter_good q p [] h = refl
filter_good q p (x ∷ xs) h = let b = both_true (q x) (list_all q xs) h in by (p x) b.0 (filter_good q p xs b.1)
  where
    by : (t : Bool) → q x ≡ true → list_all q (filter p xs) ≡ true → list_all q (cond t (x ∷ filter p xs) (filter p xs)) ≡ true
    by true one more = λ j. one j && more j
    by false one more = more

abbrev are_goals : List Goal → Bool
are_goals goals = list_all is_goal goals

placed_good : (from n : ℕ) (goals : List Goal) → are_goals goals ≡ true → list_all are_goals (by_line from n goals) ≡ true
placed_good from zero goals h = refl
placed_good from (suc n) goals h = let one = filter_good is_goal (λ (g : Goal). eqb g.line from) goals h in let more = placed_good (suc from) n goals h in λ j. one j && more j

first_good : (lists : List (List Goal)) → list_all are_goals lists ≡ true → are_goals (first_list lists) ≡ true
first_good [] h = refl
first_good (goals ∷ lists) h = (both_true (are_goals goals) (list_all are_goals lists) h).0

others_good : (lists : List (List Goal)) → list_all are_goals lists ≡ true → list_all are_goals (other_lists lists) ≡ true
others_good [] h = refl
others_good (goals ∷ lists) h = (both_true (are_goals goals) (list_all are_goals lists) h).1

source_taken : (color : Bool) (n : ℕ) (ls : List (List ℕ)) (lists : List (List Goal)) (rest : List ℕ) → list_all (is_free_of 10) ls ≡ true → list_all are_goals lists ≡ true
    → source_in (source_text color n ls lists ++ rest) ≡ ls ++ source_in rest
source_taken color n [] lists rest f h = refl
source_taken color n (line ∷ ls) lists rest f h =
    let p = both_true (is_free_of 10 line) (list_all (is_free_of 10) ls) f in
    let goals = goals_text color (first_list lists) in
    let behind = source_text color (suc n) ls (other_lists lists) in
    ap source_in (append_assoc (source_line n line ++ goals) behind rest ∙ append_assoc (source_line n line) goals (behind ++ rest))
    ∙ source_first n line (goals ++ (behind ++ rest)) p.0
    ∙ ap (λ ls. line ∷ ls) (goals_add color (first_list lists) (first_good lists h) (behind ++ rest) ∙ source_taken color (suc n) ls (other_lists lists) rest p.1 (others_good lists h))

-- ---- what stands behind the source

missing_adds : (color : Bool) (g : Goal) → is_goal g ≡ true → Adds (missing_text color g)
unfolding missing_line
missing_adds color g h = both_add (margin ++ (codes "line " ++ (decimal g.line ++ codes ", which the source hasn't:\n"))) (goal_text color g) first (goal_adds color g h)
  where
    first : Adds (margin ++ (codes "line " ++ (decimal g.line ++ codes ", which the source hasn't:\n")))
    first rest =
        let text = codes "line " ++ (decimal g.line ++ codes ", which the source hasn't:") in
        let same : (codes "line " ++ (decimal g.line ++ codes ", which the source hasn't:\n")) ++ rest ≡ text ++ 10 ∷ rest = simp append_assoc in
        ap (λ t. source_in (margin ++ t)) same
        ∙ added text rest (both_free 10 (codes "line ") (decimal g.line ++ codes ", which the source hasn't:") refl (both_free 10 (decimal g.line) (codes ", which the source hasn't:") (free_decimal g.line) refl))

hypothesis_adds : (name : List ℕ) → is_line name ≡ true → Adds (hypothesis_note name)
unfolding hypothesis_note
hypothesis_adds name h = added_line (codes "hypothesis no pointer to " ++ name) (both_free 10 (codes "hypothesis no pointer to ") name refl h)

ignored_adds : (line : ℕ) → is_number line ≡ true → Adds (ignored_note line)
unfolding ignored_note
ignored_adds line h = added_line (codes "ignored from line " ++ decimal line) (both_free 10 (codes "ignored from line ") (decimal line) refl (free_decimal line))

notes_add : (r : Report) → IsReport r → Adds (notes r.hypotheses r.ignored)
unfolding notes
notes_add r h =
    both_add (joined (map hypothesis_note r.hypotheses)) (joined (map ignored_note r.ignored)) (all_add hypothesis_note is_line hypothesis_adds r.hypotheses h.hypotheses)
    (all_add ignored_note is_number ignored_adds r.ignored h.ignored)

row_adds : (goals proved unknown : ℕ) (name : List ℕ) → Free name → Adds (row goals proved unknown name)
unfolding row
row_adds goals proved unknown name h rest =
    let last = codes " " ++ name in
    let text = padded 7 goals ++ (padded 8 proved ++ (padded 8 unknown ++ last)) in
    let same : (padded 7 goals ++ (padded 8 proved ++ (padded 8 unknown ++ (codes " " ++ (name ++ 10 ∷ []))))) ++ rest ≡ text ++ 10 ∷ rest = simp append_assoc in
    ap (λ t. source_in (margin ++ t)) same
    ∙ added text rest
    (both_free 10 (padded 7 goals) (padded 8 proved ++ (padded 8 unknown ++ last)) (free_padded 7 goals)
    (both_free 10 (padded 8 proved) (padded 8 unknown ++ last) (free_padded 8 proved)
    (both_free 10 (padded 8 unknown) last (free_padded 8 unknown) (both_free 10 (codes " ") name refl h))))

run_adds : (run : List Goal) → are_goals run ≡ true → Adds (run_row run)
run_adds [] h = λ rest. refl
run_adds (g ∷ goals) h =
    let a = both_true (is_goal g) (are_goals goals) h in
    let b = both_true (is_word g.function) (is_number g.number && (is_word g.check && (is_number g.line && is_formula g.formula))) a.0 in
    row_adds (length (g ∷ goals)) (proved_in (g ∷ goals)) (unknown_in (g ∷ goals)) g.function (free_of_more 32 g.function b.0)

onto_good : (g : Goal) (rs : List (List Goal)) → is_goal g ≡ true → list_all are_goals rs ≡ true → list_all are_goals (onto_run g rs) ≡ true
onto_good g [] one h = λ j. (one j && true) && true
onto_good g ([] ∷ rs) one h = λ j. (one j && true) && h j
onto_good g ((k ∷ run) ∷ rs) one h = by (bytes_eq k.function g.function)
  where
    by : (t : Bool) → list_all are_goals (cond t ((g ∷ k ∷ run) ∷ rs) ((g ∷ []) ∷ (k ∷ run) ∷ rs)) ≡ true
    by true = let p = both_true (are_goals (k ∷ run)) (list_all are_goals rs) h in let first = p.0 in let more = p.1 in λ j. (one j && first j) && more j
    by false = λ j. (one j && true) && h j

runs_good : (goals : List Goal) → are_goals goals ≡ true → list_all are_goals (runs goals) ≡ true
runs_good [] h = refl
runs_good (g ∷ goals) h = let p = both_true (is_goal g) (are_goals goals) h in onto_good g (runs goals) p.0 (runs_good goals p.1)

table_adds : (goals : List Goal) → are_goals goals ≡ true → Adds (table goals)
unfolding table
table_adds goals h =
    both_add (margin ++ (codes "  goals  proved unknown function" ++ 10 ∷ [])) (joined (map run_row (runs goals)) ++ row_of (codes "total") goals) (added_line (codes "  goals  proved unknown function") refl)
    (both_add (joined (map run_row (runs goals))) (row_of (codes "total") goals) (all_add run_row are_goals run_adds (runs goals) (runs_good goals h))
    (row_adds (length goals) (proved_in goals) (unknown_in goals) (codes "total") refl))

-- ---- the whole

nothing_taken : source_in [] ≡ []
unfolding source_in lines many
nothing_taken = refl

pub source_whole : SourceIsWhole
unfolding text_view
source_whole color source r shown h k =
    let ls = lines source in
    let others = joined (map (missing_text color) (elsewhere (length ls) shown)) in
    let behind = others ++ (notes r.hypotheses r.ignored ++ table shown) in
    let adds : Adds behind =
    both_add others (notes r.hypotheses r.ignored ++ table shown)
    (all_add (missing_text color) is_goal (missing_adds color) (elsewhere (length ls) shown) (filter_good is_goal (λ (g : Goal). eqb g.line 0 || nat_lt (length ls) g.line) shown k))
    (both_add (notes r.hypotheses r.ignored) (table shown) (notes_add r h) (table_adds shown k)) in
    source_taken color 1 ls (by_line 1 (length ls) shown) behind (lines_free source) (placed_good 1 (length ls) shown k)
    ∙ ap (λ t. ls ++ t) (ap source_in (sym (append-nil behind)) ∙ adds [] ∙ nothing_taken) ∙ append-nil ls

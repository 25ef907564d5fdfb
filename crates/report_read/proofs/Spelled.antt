-- Lines of a report: what is read is spelled so, and what is spelled is read.
use Rattle.std.proofs.Common.{◌≡◌, ℕ, suc, ◌+◌, ◌<◌, ◌≤◌, eqb, Bool, true, false, cond, ◌&&◌, List, [], ◌∷◌, ◌++◌, length, codes, Option, Some, None, refl, sym, ap, ◌∙◌, subst, arith, append_assoc, length-append}
use Rattle.std.specs.Str.{bytes_eq}
use Rattle.std.specs.Fmt.{decimal}
use Rattle.std.proofs.lemmas.Bool.{false≢true}
use Rattle.std.proofs.lemmas.Slice.Eq.{bytes_eq-Decides}
use Rattle.qed_terms.specs.declared.verdict.Verdict.{Verdict}
use Rattle.qed_terms.specs.declared.verdict.Verdict.TheVariants as verdict
use Rattle.goal_words.specs.Bytes.{Reader, ◌>>=◌, with_rest}
use Rattle.goal_words.proofs.Front.{then_some, with_rest_is}
use Rattle.goal_words.proofs.Numerals.{both_true}
use Rattle.report_read.specs.Bytes.{after, until, is_free_of}
use Rattle.report_read.specs.Report.{Goal, Refusal, verdict_name, hypothesis_line, ignored_line, goal_line, formula_line, goal_lines, refusal_line, summary_line, is_number, is_word, is_line, is_some_line, is_formula, is_goal, IsRefusal}
use Rattle.report_read.specs.Read.{number_until, hypothesis_at, ignored_at, verdict_of, verdict_at, place_at, name_at, head_at, some_line, formula_at, with_formula, goal_at, refusal_at}
use Rattle.report_read.proofs.Fronts.{after_is, after_of, until_is, until_of, number_until_is, number_until_of, at_newline, at_space, at_colon}
use Rattle.report_read.proofs.Many.{Consumes}

some_is : {X : Type 0} (x y : X) → Some x ≡ Some y → x ≡ y
some_is x y h = cc

begins : List ℕ → Bool
begins [] = false
begins (b ∷ bytes) = true

-- a reader whose items have a byte at least
longer : (front rest whole : List ℕ) → begins front ≡ true → whole ≡ front ++ rest → length rest < length whole
unfolding begins
longer [] rest whole some e = absurd (false≢true some)
longer (b ∷ front) rest whole some e = let a = ap length e in let l = length-append front rest in omega (arith, a, l)

-- ---- globals and ignored lines

line_before : (front word rest : List ℕ) → (front ++ (word ++ 10 ∷ [])) ++ rest ≡ front ++ (word ++ 10 ∷ rest)
line_before front word rest = simp append_assoc

pub hypothesis_is : (bytes name rest : List ℕ) → hypothesis_at bytes ≡ Some (name, rest) → bytes ≡ hypothesis_line name ++ rest
unfolding hypothesis_at
hypothesis_is bytes name rest h =
    let found : List ℕ × List ℕ = (name, rest) in
    let a = then_some (after (codes "hypothesis no pointer to ") bytes) (until 10) found h in
    after_is (codes "hypothesis no pointer to ") bytes a.0 a.1 ∙ ap (λ r. codes "hypothesis no pointer to " ++ r) (until_is 10 a.0 name rest a.2).0
    ∙ sym (line_before (codes "hypothesis no pointer to ") name rest)

pub hypothesis_of : (name rest : List ℕ) → is_line name ≡ true → hypothesis_at (hypothesis_line name ++ rest) ≡ Some (name, rest)
unfolding hypothesis_at
hypothesis_of name rest h = rw (line_before [] name rest) (until_of 10 name rest h)

some_hypothesis : (name : List ℕ) → begins (hypothesis_line name) ≡ true
unfolding begins
some_hypothesis name = refl

pub hypothesis_consumes : Consumes hypothesis_at
hypothesis_consumes bytes name rest h = longer (hypothesis_line name) rest bytes (some_hypothesis name) (hypothesis_is bytes name rest h)

pub ignored_is : (bytes : List ℕ) (line : ℕ) (rest : List ℕ) → ignored_at bytes ≡ Some (line, rest) → bytes ≡ ignored_line line ++ rest
unfolding ignored_at
ignored_is bytes line rest h =
    let found : ℕ × List ℕ = (line, rest) in
    let a = then_some (after (codes "ignored from line ") bytes) (number_until 10) found h in
    after_is (codes "ignored from line ") bytes a.0 a.1 ∙ ap (λ r. codes "ignored from line " ++ r) (number_until_is 10 a.0 line rest a.2).0
    ∙ sym (line_before (codes "ignored from line ") (decimal line) rest)

pub ignored_of : (line : ℕ) (rest : List ℕ) → is_number line ≡ true → ignored_at (ignored_line line ++ rest) ≡ Some (line, rest)
unfolding ignored_at
ignored_of line rest h = rw (line_before [] (decimal line) rest) (number_until_of 10 line rest at_newline h)

some_ignored : (line : ℕ) → begins (ignored_line line) ≡ true
unfolding begins
some_ignored line = refl

pub ignored_consumes : Consumes ignored_at
ignored_consumes bytes line rest h = longer (ignored_line line) rest bytes (some_ignored line) (ignored_is bytes line rest h)

-- ---- verdicts

verdict_word : (word : List ℕ) (v : Verdict) → verdict_of word ≡ Some v → word ≡ verdict_name v
verdict_word word v h =
    by (bytes_eq word (codes "proved")) (bytes_eq word (codes "unknown open")) (bytes_eq word (codes "unknown branches")) (bytes_eq word (codes "unknown size")) refl refl refl refl h
  where
    by : (x y z w : Bool) → bytes_eq word (codes "proved") ≡ x → bytes_eq word (codes "unknown open") ≡ y → bytes_eq word (codes "unknown branches") ≡ z → bytes_eq word (codes "unknown size") ≡ w
        → cond x (Some verdict.Proved) (cond y (Some verdict.Open) (cond z (Some verdict.Branches) (cond w (Some verdict.Size) None))) ≡ Some v → word ≡ verdict_name v
    by true y z w a b c d e = (bytes_eq-Decides word (codes "proved")).0 a ∙ ap verdict_name (some_is verdict.Proved v e)
    by false true z w a b c d e = (bytes_eq-Decides word (codes "unknown open")).0 b ∙ ap verdict_name (some_is verdict.Open v e)
    by false false true w a b c d e = (bytes_eq-Decides word (codes "unknown branches")).0 c ∙ ap verdict_name (some_is verdict.Branches v e)
    by false false false true a b c d e = (bytes_eq-Decides word (codes "unknown size")).0 d ∙ ap verdict_name (some_is verdict.Size v e)
    by false false false false a b c d e = absurd cc

verdict_is : (bytes : List ℕ) (p : Verdict × List ℕ) → verdict_at bytes ≡ Some p → bytes ≡ verdict_name p.0 ++ 10 ∷ p.1
verdict_is bytes p h =
    let u = then_some (until 10 bytes) (λ u. with_rest u.1 (verdict_of u.0)) p h in
    let w = with_rest_is u.0.1 (verdict_of u.0.0) p.0 p.1 u.2 in
    (until_is 10 bytes u.0.0 u.0.1 u.1).0 ∙ (λ j. verdict_word u.0.0 p.0 w.0 j ++ 10 ∷ w.1 j)

pub verdict_of_name : (v : Verdict) → verdict_of (verdict_name v) ≡ Some v
verdict_of_name verdict.Proved = refl
verdict_of_name verdict.Open = refl
verdict_of_name verdict.Branches = refl
verdict_of_name verdict.Size = refl

free_verdict : (v : Verdict) → is_free_of 10 (verdict_name v) ≡ true
free_verdict verdict.Proved = refl
free_verdict verdict.Open = refl
free_verdict verdict.Branches = refl
free_verdict verdict.Size = refl

verdict_found : (v : Verdict) (rest : List ℕ) → verdict_at (verdict_name v ++ 10 ∷ rest) ≡ Some (v, rest)
verdict_found v rest = rw (until_of 10 (verdict_name v) rest (free_verdict v), verdict_of_name v)

-- ---- goals

abbrev name_text : (f : List ℕ) (n : ℕ) (rest : List ℕ) → List ℕ
name_text f n rest = codes "goal " ++ (f ++ 32 ∷ (decimal n ++ 32 ∷ rest))

abbrev place_text : (c : List ℕ) (l : ℕ) (rest : List ℕ) → List ℕ
place_text c l rest = c ++ 32 ∷ (codes "line " ++ (decimal l ++ 32 ∷ rest))

abbrev head_text : Goal → List ℕ → List ℕ
head_text g rest = name_text g.function g.number (place_text g.check g.line (verdict_name g.verdict ++ 10 ∷ rest))

head_before : (g : Goal) (rest : List ℕ) → goal_line g ++ rest ≡ head_text g rest
head_before g rest = simp append_assoc

name_is : (bytes : List ℕ) (p : (List ℕ × ℕ) × List ℕ) → name_at bytes ≡ Some p → bytes ≡ name_text p.0.0 p.0.1 p.1
unfolding name_at
name_is bytes p h =
    let a = then_some (after (codes "goal ") bytes) _ p h in
    let f = then_some (until 32 a.0) _ p a.2 in
    let n = then_some (number_until 32 f.0.1) _ p f.2 in
    let found : (List ℕ × ℕ) × List ℕ = ((f.0.0, n.0.0), n.0.1) in
    after_is (codes "goal ") bytes a.0 a.1 ∙ ap (λ r. codes "goal " ++ r) (until_is 32 a.0 f.0.0 f.0.1 f.1).0
    ∙ ap (λ r. codes "goal " ++ (f.0.0 ++ 32 ∷ r)) (number_until_is 32 f.0.1 n.0.0 n.0.1 n.1).0
    ∙ ap (λ (q : (List ℕ × ℕ) × List ℕ). name_text q.0.0 q.0.1 q.1) (some_is found p n.2)

name_of : (f : List ℕ) (n : ℕ) (rest : List ℕ) → is_word f ≡ true → is_number n ≡ true → name_at (name_text f n rest) ≡ Some ((f, n), rest)
unfolding name_at
name_of f n rest w k = rw (until_of 32 f (decimal n ++ 32 ∷ rest) w, number_until_of 32 n rest at_space k)

place_is : (bytes : List ℕ) (p : (List ℕ × ℕ) × List ℕ) → place_at bytes ≡ Some p → bytes ≡ place_text p.0.0 p.0.1 p.1
unfolding place_at
place_is bytes p h =
    let c = then_some (until 32 bytes) _ p h in
    let a = then_some (after (codes "line ") c.0.1) _ p c.2 in
    let l = then_some (number_until 32 a.0) _ p a.2 in
    let found : (List ℕ × ℕ) × List ℕ = ((c.0.0, l.0.0), l.0.1) in
    (until_is 32 bytes c.0.0 c.0.1 c.1).0 ∙ ap (λ r. c.0.0 ++ 32 ∷ r) (after_is (codes "line ") c.0.1 a.0 a.1)
    ∙ ap (λ r. c.0.0 ++ 32 ∷ (codes "line " ++ r)) (number_until_is 32 a.0 l.0.0 l.0.1 l.1).0
    ∙ ap (λ (q : (List ℕ × ℕ) × List ℕ). place_text q.0.0 q.0.1 q.1) (some_is found p l.2)

place_of : (c : List ℕ) (l : ℕ) (rest : List ℕ) → is_word c ≡ true → is_number l ≡ true → place_at (place_text c l rest) ≡ Some ((c, l), rest)
unfolding place_at
place_of c l rest w k = rw (until_of 32 c (codes "line " ++ (decimal l ++ 32 ∷ rest)) w, number_until_of 32 l rest at_space k)

pub record IsHead (bytes : List ℕ) (p : Goal × List ℕ) : Type 0 where
  pub spelled : bytes ≡ head_text p.0 p.1
  pub bare : p.0.formula ≡ None

head_is : (bytes : List ℕ) (p : Goal × List ℕ) → head_at bytes ≡ Some p → IsHead bytes p
unfolding head_at
head_is bytes p h =
    let n = then_some (name_at bytes) _ p h in
    let c = then_some (place_at n.0.1) _ p n.2 in
    let v = then_some (verdict_at c.0.1) _ p c.2 in
    let g : Goal = record { function = n.0.0.0; number = n.0.0.1; check = c.0.0.0; line = c.0.0.1; verdict = v.0.0; formula = None } in
    let found : Goal × List ℕ = (g, v.0.1) in
    let same = some_is found p v.2 in
    record {
      spelled = name_is bytes n.0 n.1 ∙ ap (λ r. name_text n.0.0.0 n.0.0.1 r) (place_is n.0.1 c.0 c.1)
          ∙ ap (λ r. name_text n.0.0.0 n.0.0.1 (place_text c.0.0.0 c.0.0.1 r)) (verdict_is c.0.1 v.0 v.1)
          ∙ ap (λ (q : Goal × List ℕ). head_text q.0 q.1) same;
      bare = ap (λ (q : Goal × List ℕ). q.0.formula) (sym same);
    }

abbrev bare : Goal → Goal
bare g = record g { formula = None }

head_of : (g : Goal) (rest : List ℕ) → is_goal g ≡ true → head_at (head_text g rest) ≡ Some (bare g, rest)
unfolding head_at
head_of g rest h =
    let a = both_true (is_word g.function) _ h in
    let b = both_true (is_number g.number) _ a.1 in
    let c = both_true (is_word g.check) _ b.1 in
    let d = both_true (is_number g.line) _ c.1 in
    rw (
      name_of g.function g.number (place_text g.check g.line (verdict_name g.verdict ++ 10 ∷ rest)) a.0 b.0,
      place_of g.check g.line (verdict_name g.verdict ++ 10 ∷ rest) c.0 d.0,
      verdict_found g.verdict rest,
    )

some_line_is : (o p : List ℕ × List ℕ) → some_line o ≡ Some p → o ≡ p
some_line_is o p h = by o.0 o.1 h
  where
    by : (a b : List ℕ) → some_line (a, b) ≡ Some p → (a, b) ≡ p
    by [] b k = absurd cc
    by (x ∷ a) b k = let q : List ℕ × List ℕ = (x ∷ a, b) in some_is q p k

formula_is : (bytes : List ℕ) (p : List ℕ × List ℕ) → formula_at bytes ≡ Some p → bytes ≡ codes "  " ++ (p.0 ++ 10 ∷ p.1)
unfolding formula_at
formula_is bytes p h =
    let a = then_some (after (codes "  ") bytes) _ p h in
    let u = then_some (until 10 a.0) some_line p a.2 in
    after_is (codes "  ") bytes a.0 a.1 ∙ ap (λ r. codes "  " ++ r) (until_is 10 a.0 u.0.0 u.0.1 u.1).0
    ∙ ap (λ (q : List ℕ × List ℕ). codes "  " ++ (q.0 ++ 10 ∷ q.1)) (some_line_is u.0 p u.2)

formula_of : (formula rest : List ℕ) → is_some_line formula ≡ true → formula_at (codes "  " ++ (formula ++ 10 ∷ rest)) ≡ Some (formula, rest)
unfolding formula_at
formula_of [] rest h = absurd cc
formula_of (b ∷ formula) rest h = rw (until_of 10 (b ∷ formula) rest h)

-- no formula stands here
abbrev pub IsNoFormula : List ℕ → Type 0
IsNoFormula rest = formula_at rest ≡ None

pub goal_begins : (g : Goal) (rest : List ℕ) → IsNoFormula (goal_lines g ++ rest)
unfolding formula_at
goal_begins g rest = refl

pub goal_is : (bytes : List ℕ) (g : Goal) (rest : List ℕ) → goal_at bytes ≡ Some (g, rest) → bytes ≡ goal_lines g ++ rest
unfolding goal_at
goal_is bytes g rest h =
    let found : Goal × List ℕ = (g, rest) in
    let a = then_some (head_at bytes) _ found h in
    let head = head_is bytes a.0 a.1 in
    by a.0.0 a.0.1 head.bare (head.spelled ∙ sym (head_before a.0.0 a.0.1)) (formula_at a.0.1) refl (some_is (with_formula a.0.0 a.0.1 (formula_at a.0.1)) found a.2)
  where
    by : (k : Goal) (behind : List ℕ) → k.formula ≡ None → bytes ≡ goal_line k ++ behind → (o : Option (List ℕ × List ℕ)) → formula_at behind ≡ o → with_formula k behind o ≡ (g, rest) → bytes ≡ goal_lines g ++ rest
    by k behind b e None f same =
        e ∙ sym (append_assoc (goal_line k) [] behind) ∙ ap (λ o. (goal_line k ++ formula_line o) ++ behind) (sym b)
        ∙ ap (λ (q : Goal × List ℕ). goal_lines q.0 ++ q.1) same
    by k behind b e (Some p) f same =
        e ∙ ap (λ r. goal_line k ++ r) (formula_is behind p f ∙ sym (line_before (codes "  ") p.0 p.1)) ∙ sym (append_assoc (goal_line k) (formula_line (Some p.0)) p.1)
        ∙ ap (λ (q : Goal × List ℕ). goal_lines q.0 ++ q.1) same

formula_of_goal : (g : Goal) → is_goal g ≡ true → is_formula g.formula ≡ true
formula_of_goal g h =
    let a = both_true (is_word g.function) _ h in
    let b = both_true (is_number g.number) _ a.1 in
    let c = both_true (is_word g.check) _ b.1 in
    (both_true (is_number g.line) _ c.1).1

pub goal_of : (g : Goal) (rest : List ℕ) → is_goal g ≡ true → IsNoFormula rest → goal_at (goal_lines g ++ rest) ≡ Some (g, rest)
unfolding goal_at
goal_of g rest h none = by g.formula refl (formula_of_goal g h)
  where
    by : (o : Option (List ℕ)) → g.formula ≡ o → is_formula g.formula ≡ true → (head_at (goal_lines g ++ rest) >>= λ (k : Goal × List ℕ). Some (with_formula k.0 k.1 (formula_at k.1))) ≡ Some (g, rest)
    by None e f =
        let text : goal_lines g ++ rest ≡ head_text g rest = ap (λ o. (goal_line g ++ formula_line o) ++ rest) e ∙ append_assoc (goal_line g) [] rest ∙ head_before g rest in
        rw (text, head_of g rest h, none) (ap (λ o. Some (record g { formula = o }, rest)) (sym e))
    by (Some formula) e f =
        let behind = codes "  " ++ (formula ++ 10 ∷ rest) in
        let text : goal_lines g ++ rest ≡ head_text g behind =
        ap (λ o. (goal_line g ++ formula_line o) ++ rest) e ∙ append_assoc (goal_line g) (formula_line (Some formula)) rest
        ∙ ap (λ r. goal_line g ++ r) (line_before (codes "  ") formula rest) ∙ head_before g behind in
        rw (text, head_of g behind h, formula_of formula rest (ap is_formula (sym e) ∙ f)) (ap (λ o. Some (record g { formula = o }, rest)) (sym e))

some_goal : (g : Goal) → begins (goal_lines g) ≡ true
unfolding begins
some_goal g = refl

pub goal_consumes : Consumes goal_at
goal_consumes bytes g rest h = longer (goal_lines g) rest bytes (some_goal g) (goal_is bytes g rest h)

-- ---- refusals

abbrev refusal_text : Refusal → List ℕ → List ℕ
refusal_text r rest = codes "refused line " ++ (decimal r.line ++ 58 ∷ (32 ∷ (decimal r.number ++ 32 ∷ (r.rule ++ 10 ∷ rest))))

refusal_before : (r : Refusal) (rest : List ℕ) → refusal_line r ++ rest ≡ refusal_text r rest
refusal_before r rest = simp append_assoc

pub refusal_is : (bytes : List ℕ) (p : Refusal × List ℕ) → refusal_at bytes ≡ Some p → bytes ≡ refusal_line p.0 ++ p.1
unfolding refusal_at
refusal_is bytes p h =
    let a = then_some (after (codes "refused line ") bytes) _ p h in
    let l = then_some (number_until 58 a.0) _ p a.2 in
    let s = then_some (after (codes " ") l.0.1) _ p l.2 in
    let n = then_some (number_until 32 s.0) _ p s.2 in
    let r = then_some (until 10 n.0.1) _ p n.2 in
    let found : Refusal × List ℕ = (record { line = l.0.0; number = n.0.0; rule = r.0.0 }, r.0.1) in
    after_is (codes "refused line ") bytes a.0 a.1 ∙ ap (λ t. codes "refused line " ++ t) (number_until_is 58 a.0 l.0.0 l.0.1 l.1).0
    ∙ ap (λ t. codes "refused line " ++ (decimal l.0.0 ++ 58 ∷ t)) (after_is (codes " ") l.0.1 s.0 s.1 ∙ ap (λ t. 32 ∷ t) ((number_until_is 32 s.0 n.0.0 n.0.1 n.1).0
    ∙ ap (λ t. decimal n.0.0 ++ 32 ∷ t) (until_is 10 n.0.1 r.0.0 r.0.1 r.1).0))
    ∙ ap (λ (q : Refusal × List ℕ). refusal_text q.0 q.1) (some_is found p r.2) ∙ sym (refusal_before p.0 p.1)

refusal_found : (r : Refusal) (rest : List ℕ) → IsRefusal r → refusal_at (refusal_text r rest) ≡ Some (r, rest)
unfolding refusal_at
refusal_found r rest is =
    rw (
      number_until_of 58 r.line (32 ∷ (decimal r.number ++ 32 ∷ (r.rule ++ 10 ∷ rest))) at_colon is.line,
      number_until_of 32 r.number (r.rule ++ 10 ∷ rest) at_space is.number,
      until_of 10 r.rule rest is.rule,
    )

pub refusal_of : (r : Refusal) (rest : List ℕ) → IsRefusal r → refusal_at (refusal_line r ++ rest) ≡ Some (r, rest)
refusal_of r rest is = ap refusal_at (refusal_before r rest) ∙ refusal_found r rest is

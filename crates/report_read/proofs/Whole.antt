-- The whole report: reading and spelling are each other's inverse.
use Rattle.std.proofs.Common.{◌≡◌, ℕ, suc, Bool, true, false, List, [], ◌∷◌, ◌++◌, length, map, codes, Option, Some, None, refl, sym, ap, ◌∙◌, subst, append-nil}
use Rattle.std.specs.List.{list_all}
use Rattle.report_read.specs.Bytes.{joined, after, all_of}
use Rattle.report_read.specs.Report.{Goal, Report, Refusal, Document, report, refusal, hypothesis_line, ignored_line, goal_lines, sums_line, summary_line, report_text, refusal_line, document_text, is_number, is_line, is_goal, IsReport, IsRefusal, IsDocument}
use Rattle.report_read.specs.Read.{hypothesis_at, ignored_at, name_at, head_at, formula_at, goal_at, refusal_at, Answer, read, unread, line_of, ends, summed, report_in, document_by, document_in}
use Rattle.report_read.proofs.Fronts.{after_is, after_of}
use Rattle.report_read.proofs.Many.{many_is, all_are}
use Rattle.report_read.proofs.Spelled.{hypothesis_is, hypothesis_of, hypothesis_consumes, ignored_is, ignored_of, ignored_consumes, IsNoFormula, goal_begins, goal_is, goal_of, goal_consumes, refusal_is, refusal_of}

-- ---- what is read is spelled

ended : (text rest : List ℕ) (d e : Document) → ends text rest d ≡ read e → (rest ≡ []) × (d ≡ e)
ended text [] d e h = (refl, cc)
ended text (b ∷ rest) d e h = absurd cc

summed_is : (text rest : List ℕ) (r : Report) (d : Document) (o : Option (List ℕ)) → after (summary_line r.goals) rest ≡ o → summed text rest r o ≡ read d → (rest ≡ summary_line r.goals) × (report r ≡ d)
summed_is text rest r d None e h = absurd cc
summed_is text rest r d (Some behind) e h =
    let k = ended text behind (report r) d h in
    (after_is (summary_line r.goals) rest behind e ∙ ap (λ b. summary_line r.goals ++ b) k.0 ∙ append-nil (summary_line r.goals), k.1)

report_is : (text : List ℕ) (d : Document) → report_in text ≡ read d → document_text d ≡ text
unfolding report_in
report_is text d h =
    let hs = all_of hypothesis_at text in
    let is = all_of ignored_at hs.1 in
    let gs = all_of goal_at is.1 in
    let r : Report = record { hypotheses = hs.0; ignored = is.0; goals = gs.0 } in
    let k = summed_is text gs.1 r d (after (summary_line gs.0) gs.1) refl h in
    let third : is.1 ≡ joined (map goal_lines gs.0) ++ summary_line gs.0 =
    many_is goal_at goal_lines goal_is (length is.1) is.1 ∙ ap (λ t. joined (map goal_lines gs.0) ++ t) k.0 in
    let second : hs.1 ≡ joined (map ignored_line is.0) ++ (joined (map goal_lines gs.0) ++ summary_line gs.0) =
    many_is ignored_at ignored_line ignored_is (length hs.1) hs.1 ∙ ap (λ t. joined (map ignored_line is.0) ++ t) third in
    let first : text ≡ report_text r =
    many_is hypothesis_at hypothesis_line hypothesis_is (length text) text ∙ ap (λ t. joined (map hypothesis_line hs.0) ++ t) second in
    sym (first ∙ ap document_text k.1)

pub read_spelled : (text : List ℕ) (d : Document) → document_in text ≡ read d → document_text d ≡ text
unfolding document_in
read_spelled text d h = by (refusal_at text) refl h
  where
    by : (o : Option (Refusal × List ℕ)) → refusal_at text ≡ o → document_by text o ≡ read d → document_text d ≡ text
    by None e k = report_is text d k
    by (Some r) e k =
        let n = ended text r.1 (refusal r.0) d k in
        sym (refusal_is text r e ∙ ap (λ t. refusal_line r.0 ++ t) n.0 ∙ append-nil (refusal_line r.0) ∙ ap document_text n.1)

-- ---- what is spelled is read

abbrev behind_ignored : List Goal → List ℕ
behind_ignored gs = joined (map goal_lines gs) ++ summary_line gs

abbrev behind_hypotheses : List ℕ → List Goal → List ℕ
behind_hypotheses is gs = joined (map ignored_line is) ++ behind_ignored gs

no_hypothesis : (is : List ℕ) (gs all : List Goal) → hypothesis_at (joined (map ignored_line is) ++ (joined (map goal_lines gs) ++ summary_line all)) ≡ None
unfolding hypothesis_at sums_line
no_hypothesis [] [] all = refl
no_hypothesis [] (g ∷ gs) all = refl
no_hypothesis (i ∷ is) gs all = refl

no_ignored : (gs all : List Goal) → ignored_at (joined (map goal_lines gs) ++ summary_line all) ≡ None
unfolding ignored_at sums_line
no_ignored [] all = refl
no_ignored (g ∷ gs) all = refl

no_goal : (all : List Goal) → goal_at (summary_line all) ≡ None
unfolding goal_at head_at name_at sums_line
no_goal all = refl

no_formula : (all : List Goal) → formula_at (summary_line all) ≡ None
unfolding formula_at sums_line
no_formula all = refl

no_refusal : (hs : List (List ℕ)) (is : List ℕ) (gs all : List Goal) → refusal_at (joined (map hypothesis_line hs) ++ (joined (map ignored_line is) ++ (joined (map goal_lines gs) ++ summary_line all))) ≡ None
unfolding refusal_at sums_line
no_refusal [] [] [] all = refl
no_refusal [] [] (g ∷ gs) all = refl
no_refusal [] (i ∷ is) gs all = refl
no_refusal (h ∷ hs) is gs all = refl

-- a section may stand before anything
abbrev Anything : List ℕ → Type 0
Anything rest = Unit {0}

report_read : (r : Report) → IsReport r → report_in (report_text r) ≡ read (report r)
unfolding report_in
report_read r is =
    let gs = r.goals in
    let h = all_are hypothesis_at hypothesis_line is_line Anything hypothesis_consumes (λ x rest k f. hypothesis_of x rest k) (λ x rest. tt) r.hypotheses (behind_hypotheses r.ignored gs)
    is.hypotheses tt (no_hypothesis r.ignored gs gs) in
    let i = all_are ignored_at ignored_line is_number Anything ignored_consumes (λ x rest k f. ignored_of x rest k) (λ x rest. tt) r.ignored (behind_ignored gs) is.ignored tt (no_ignored gs gs) in
    let g = all_are goal_at goal_lines is_goal IsNoFormula goal_consumes goal_of goal_begins gs (summary_line gs) is.goals (no_formula gs) (no_goal gs) in
    let s : after (summary_line gs) (summary_line gs) ≡ Some [] = ap (after (summary_line gs)) (sym (append-nil (summary_line gs))) ∙ after_of (summary_line gs) [] in
    rw (h, i, g, s)

pub spelled_read : (d : Document) → IsDocument d → document_in (document_text d) ≡ read d
unfolding document_in
spelled_read (report r) is = rw (no_refusal r.hypotheses r.ignored r.goals r.goals) (report_read r is)
spelled_read (refusal r) is =
    let e : refusal_at (refusal_line r) ≡ Some (r, []) = ap refusal_at (sym (append-nil (refusal_line r))) ∙ refusal_of r [] is in
    rw e

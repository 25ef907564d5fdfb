-- How a report is read: from the front, each line as far as it goes.
use Rattle.std.specs.Prelude.{◌≡◌, ℕ, suc, ◌-◌, ◌==◌, Bool, List, [], ◌∷◌, length, take, codes, count_by, Option, Some, None, if◌then◌else◌}
use Rattle.std.specs.Str.{bytes_eq}
use Rattle.qed_terms.specs.declared.verdict.Verdict.{Verdict}
use Rattle.qed_terms.specs.declared.verdict.Verdict.TheVariants as verdict
use Rattle.goal_words.specs.Bytes.{Reader, ◌>>=◌, with_rest}
use Rattle.goal_words.specs.Numbers.{count}
use Rattle.report_read.specs.Bytes.{after, until, all_of}
use Rattle.report_read.specs.Report.{Goal, Report, Refusal, Document, report, refusal, summary_line, document_text, IsDocument}

-- ---- lines

abbrev pub number_until : (end : ℕ) → Reader ℕ
number_until end bytes = until end bytes >>= λ p. with_rest p.1 (count p.0)

unfoldable pub hypothesis_at : Reader (List ℕ)
hypothesis_at bytes = after (codes "hypothesis no pointer to ") bytes >>= until 10

unfoldable pub ignored_at : Reader ℕ
ignored_at bytes = after (codes "ignored from line ") bytes >>= number_until 10

abbrev pub verdict_of : List ℕ → Option Verdict
verdict_of word =
    if bytes_eq word (codes "proved") then Some verdict.Proved
    else if bytes_eq word (codes "unknown open") then Some verdict.Open
    else if bytes_eq word (codes "unknown branches") then Some verdict.Branches
    else if bytes_eq word (codes "unknown size") then Some verdict.Size
    else None

abbrev pub verdict_at : Reader Verdict
verdict_at bytes = until 10 bytes >>= λ p. with_rest p.1 (verdict_of p.0)

-- `CHECK line L `
unfoldable pub place_at : Reader (List ℕ × ℕ)
place_at bytes = until 32 bytes >>= λ c. after (codes "line ") c.1 >>= λ rest. number_until 32 rest >>= λ l. Some ((c.0, l.0), l.1)

-- `goal FUNCTION NUMBER `
unfoldable pub name_at : Reader (List ℕ × ℕ)
name_at bytes = after (codes "goal ") bytes >>= λ rest. until 32 rest >>= λ f. number_until 32 f.1 >>= λ n. Some ((f.0, n.0), n.1)

-- a goal's line, without its formula
unfoldable pub head_at : Reader Goal
head_at bytes =
    name_at bytes >>= λ n. place_at n.1 >>= λ p. verdict_at p.1 >>= λ v.
    Some (record { function = n.0.0; number = n.0.1; check = p.0.0; line = p.0.1; verdict = v.0; formula = None }, v.1)

abbrev pub some_line : List ℕ × List ℕ → Option (List ℕ × List ℕ)
some_line ([], rest) = None
some_line (b ∷ line, rest) = Some (b ∷ line, rest)

unfoldable pub formula_at : Reader (List ℕ)
formula_at bytes = after (codes "  ") bytes >>= λ rest. until 10 rest >>= some_line

-- a formula belongs to the goal on the line before it
abbrev pub with_formula : Goal → List ℕ → Option (List ℕ × List ℕ) → Goal × List ℕ
with_formula g bytes None = (g, bytes)
with_formula g bytes (Some f) = (record g { formula = Some f.0 }, f.1)

unfoldable pub goal_at : Reader Goal
goal_at bytes = head_at bytes >>= λ g. Some (with_formula g.0 g.1 (formula_at g.1))

unfoldable pub refusal_at : Reader Refusal
refusal_at bytes =
    after (codes "refused line ") bytes >>= λ rest. number_until 58 rest >>= λ l. after (codes " ") l.1 >>= λ rest.
    number_until 32 rest >>= λ n. until 10 n.1 >>= λ r. Some (record { line = l.0; number = n.0; rule = r.0 }, r.1)

-- ---- the whole

-- a document, or the line on which what stands there can't
pub data Answer : Type 0 where
  read : Document → Answer
  unread : (line : ℕ) → Answer

-- the line on which this rest of a text begins
abbrev pub line_of : (text rest : List ℕ) → ℕ
line_of text rest = suc (count_by (λ b. b == 10) (take (length text - length rest) text))

-- nothing may stand behind it
abbrev pub ends : (text rest : List ℕ) → Document → Answer
ends text [] d = read d
ends text (b ∷ rest) d = unread (line_of text (b ∷ rest))

-- the last line is the sum of what was read
abbrev pub summed : (text rest : List ℕ) → Report → Option (List ℕ) → Answer
summed text rest r None = unread (line_of text rest)
summed text rest r (Some behind) = ends text behind (report r)

unfoldable pub report_in : List ℕ → Answer
report_in text =
    let h = all_of hypothesis_at text in
    let i = all_of ignored_at h.1 in
    let g = all_of goal_at i.1 in
    summed text g.1 (record { hypotheses = h.0; ignored = i.0; goals = g.0 }) (after (summary_line g.0) g.1)

abbrev pub document_by : List ℕ → Option (Refusal × List ℕ) → Answer
document_by text (Some r) = ends text r.1 (refusal r.0)
document_by text None = report_in text

unfoldable pub document_in : List ℕ → Answer
document_in text = document_by text (refusal_at text)

-- ---- laws

-- reading is the inverse of the definition of the report: what is read is spelled so,
abbrev pub ReadIsSpelled : Type 0
ReadIsSpelled = (text : List ℕ) (d : Document) → document_in text ≡ read d → document_text d ≡ text

-- and each document is read back
abbrev pub SpelledIsRead : Type 0
SpelledIsRead = (d : Document) → IsDocument d → document_in (document_text d) ≡ read d

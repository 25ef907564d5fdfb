-- What is read, in memory, as a plain value.
use Rattle.std.specs.Prelude.{◌≡◌, ℕ, List, map, Option, Some, None, option_map, Result, Ok, Err}
use Rattle.std.specs.Borrow.{Bor}
use Rattle.report_read.specs.declared.report.Goal as goal
use Rattle.report_read.specs.declared.report.Report as memory
use Rattle.report_read.specs.declared.report.Refusal as refused
use Rattle.report_read.specs.declared.report.Document as document
use Rattle.report_read.specs.declared.report.Document.TheVariants as held
use Rattle.report_read.specs.Report as spec

abbrev pub bytes_of : Bor (List ℕ) → List ℕ
bytes_of bytes = bytes.now

abbrev pub view_goal : goal.Goal → spec.Goal
view_goal g =
    record { function = bytes_of g.function; number = g.number; check = bytes_of g.check; line = g.line; verdict = g.verdict; formula = option_map bytes_of g.formula }

abbrev pub view_report : memory.Report → spec.Report
view_report r = record { hypotheses = map bytes_of r.hypotheses.items; ignored = r.ignored.items; goals = map view_goal r.goals.items }

abbrev pub view_refusal : refused.Refusal → spec.Refusal
view_refusal r = record { line = r.line; number = r.number; rule = bytes_of r.rule }

abbrev pub view_document : document.Document → spec.Document
view_document (held.Report r) = spec.report (view_report r)
view_document (held.Refusal r) = spec.refusal (view_refusal r)

-- what a reader of the program finds, and what stands behind it, beside what the reader on lists finds
abbrev pub Reads : {X Y : Type 0} → (X → Y) → Option (X × Bor (List ℕ)) → Option (Y × List ℕ) → Type 0
Reads see (Some x) given = given ≡ Some (see x.0, x.1.now)
Reads see None given = given ≡ None

abbrev pub word_and_number : Bor (List ℕ) × ℕ → List ℕ × ℕ
word_and_number p = (bytes_of p.0, p.1)

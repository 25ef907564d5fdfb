-- The view of a refusal: its line, and the line of the source that it tells.
use Rattle.std.specs.Prelude.{ℕ, ◌-◌, ◌==◌, if◌then◌else◌, List, [], ◌++◌, slice_get, Option, Some, None}
use Rattle.report_read.specs.Report.{Refusal, refusal_line}
use Rattle.report_shown.specs.Source.{lines}
use Rattle.view_text.specs.Text.{source_line}

-- the line with this number, from 1
unfoldable pub line_at : List (List ℕ) → ℕ → Option (List ℕ)
line_at ls n = if n == 0 then None else slice_get ls (n - 1)

abbrev pub told_line : ℕ → Option (List ℕ) → List ℕ
told_line n None = []
told_line n (Some line) = source_line n line

unfoldable pub refusal_view : (source : List ℕ) → Refusal → List ℕ
refusal_view source r = refusal_line r ++ told_line r.line (line_at (lines source) r.line)

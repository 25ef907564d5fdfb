use Rattle.std.proofs.Common.{◌≡◌, ◌++◌, map, drop}
use Rattle.report_read.specs.Bytes.{joined}
use Rattle.view_text.specs.Text.{ignored_note}
use Rattle.view_text.proofs.view.put_all_ignored.Given as goal

abbrev pub invariant-loop-line : goal.invariant-loop-line
invariant-loop-line l = l.text.items ++ joined (map ignored_note (drop l.line-index l.lines)) ≡ l.initial.text.items ++ joined (map ignored_note l.lines)

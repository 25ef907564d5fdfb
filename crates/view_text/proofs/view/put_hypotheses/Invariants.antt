use Rattle.std.proofs.Common.{◌≡◌, ◌++◌, map, drop}
use Rattle.report_read.specs.Bytes.{joined}
use Rattle.report_read.specs.View.{bytes_of}
use Rattle.view_text.specs.Text.{hypothesis_note}
use Rattle.view_text.proofs.view.put_hypotheses.Given as goal

abbrev pub invariant-loop-name : goal.invariant-loop-name
invariant-loop-name l = l.text.items ++ joined (map hypothesis_note (map bytes_of (drop l.name-index l.names))) ≡ l.initial.text.items ++ joined (map hypothesis_note (map bytes_of l.names))

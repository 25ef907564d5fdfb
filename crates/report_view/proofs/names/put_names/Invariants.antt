use Rattle.std.proofs.Common.{◌≡◌, ◌++◌, map, drop}
use Rattle.report_read.specs.Bytes.{joined}
use Rattle.report_read.specs.View.{bytes_of}
use Rattle.report_view.specs.Answer.{listed}
use Rattle.report_view.proofs.names.put_names.Given as goal

abbrev pub invariant-loop-name : goal.invariant-loop-name
invariant-loop-name l = l.text.items ++ joined (map listed (map bytes_of (drop l.name-index l.names))) ≡ l.initial.text.items ++ joined (map listed (map bytes_of l.names))

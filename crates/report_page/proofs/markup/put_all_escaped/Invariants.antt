use Rattle.std.proofs.Common.{◌≡◌, ◌++◌, map, drop}
use Rattle.report_read.specs.Bytes.{joined}
use Rattle.report_page.specs.Markup.{escaped}
use Rattle.report_page.proofs.markup.put_all_escaped.Given as goal

abbrev pub invariant-loop-byte : goal.invariant-loop-byte
invariant-loop-byte l = l.page.items ++ joined (map escaped (drop l.byte-index l.bytes)) ≡ l.initial.page.items ++ joined (map escaped l.bytes)

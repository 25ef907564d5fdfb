use Rattle.std.proofs.Common.{◌≡◌, ◌++◌, map, drop}
use Rattle.report_read.specs.Bytes.{joined}
use Rattle.report_data.specs.Json.{escaped}
use Rattle.report_data.proofs.json.put_chars.Given as goal

abbrev pub invariant-loop-byte : goal.invariant-loop-byte
invariant-loop-byte l = l.text.items ++ joined (map escaped (drop l.byte-index l.bytes)) ≡ l.initial.text.items ++ joined (map escaped l.bytes)

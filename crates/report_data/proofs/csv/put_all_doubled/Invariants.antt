use Rattle.std.proofs.Common.{◌≡◌, ◌++◌, map, drop}
use Rattle.report_read.specs.Bytes.{joined}
use Rattle.report_data.specs.Csv.{doubled}
use Rattle.report_data.proofs.csv.put_all_doubled.Given as goal

abbrev pub invariant-loop-byte : goal.invariant-loop-byte
invariant-loop-byte l = l.text.items ++ joined (map doubled (drop l.byte-index l.bytes)) ≡ l.initial.text.items ++ joined (map doubled l.bytes)

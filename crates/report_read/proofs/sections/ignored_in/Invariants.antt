use Rattle.std.proofs.Common.{◌≡◌, ◌++◌, map, length}
use Rattle.report_read.specs.Bytes.{all_of}
use Rattle.report_read.specs.Read.{ignored_at}
use Rattle.report_read.proofs.sections.ignored_in.Given as goal

abbrev pub invariant-loop-line : goal.invariant-loop-line
invariant-loop-line l = record {
  found : l.found.items ++ (all_of ignored_at l.rest).0 ≡ (all_of ignored_at l.text).0;
  behind : (all_of ignored_at l.rest).1 ≡ (all_of ignored_at l.text).1;
}

abbrev pub decreases-loop-line : goal.decreases-loop-line
decreases-loop-line l = length l.rest

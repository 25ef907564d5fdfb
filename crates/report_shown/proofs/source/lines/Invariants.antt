use Rattle.std.proofs.Common.{◌≡◌, ◌++◌, map, length}
use Rattle.report_read.specs.Bytes.{until, all_of}
use Rattle.report_read.specs.View.{bytes_of}
use Rattle.report_shown.proofs.source.lines.Given as goal

abbrev pub invariant-loop-line : goal.invariant-loop-line
invariant-loop-line l = record {
  found : map bytes_of l.found.items ++ (all_of (until 10) l.rest).0 ≡ (all_of (until 10) l.text).0;
  behind : (all_of (until 10) l.rest).1 ≡ (all_of (until 10) l.text).1;
}

abbrev pub decreases-loop-line : goal.decreases-loop-line
decreases-loop-line l = length l.rest

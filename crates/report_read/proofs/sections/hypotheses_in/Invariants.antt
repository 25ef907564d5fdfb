use Rattle.std.proofs.Common.{◌≡◌, ◌++◌, map, length}
use Rattle.report_read.specs.Bytes.{all_of}
use Rattle.report_read.specs.Read.{hypothesis_at}
use Rattle.report_read.specs.View.{bytes_of}
use Rattle.report_read.proofs.sections.hypotheses_in.Given as goal

abbrev pub invariant-loop-name : goal.invariant-loop-name
invariant-loop-name l = record {
  found : map bytes_of l.found.items ++ (all_of hypothesis_at l.rest).0 ≡ (all_of hypothesis_at l.text).0;
  behind : (all_of hypothesis_at l.rest).1 ≡ (all_of hypothesis_at l.text).1;
}

abbrev pub decreases-loop-name : goal.decreases-loop-name
decreases-loop-name l = length l.rest
